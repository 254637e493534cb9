-- How many lookarounds lie in one another.
use Rattle.std.proofs.Common.{◌≡◌, ℕ, ◌≤◌, max, Bool, true, false, ◌||◌, if◌then◌else◌, refl, ap, ◌∙◌, suc, arith}
use Rattle.strkw_regex_core.specs.machine.MarkedPattern.{MarkedPattern, empty, class, look, cat, alt, star, plus, lookbehind, lookahead}
use Rattle.strkw_regex_core.specs.machine.Mirror.{mirror}
use Rattle.strkw_regex_core.specs.machine.Program.{is_empty}
use Rattle.strkw_regex_core.specs.machine.Sight.{depth}

-- what is not less than the greater of two is not less than the first
pub less_left : (a b n : ℕ) → max a b ≤ n → a ≤ n
less_left a b n h = omega (arith, h)

-- nor than the second
pub less_right : (a b n : ℕ) → max a b ≤ n → b ≤ n
less_right a b n h = omega (arith, h)

-- the greater of two is so in either order
max_turned : (a b : ℕ) → max a b ≡ max b a
max_turned a b = omega arith

-- a mirror has as many in one another
pub mirror_depth : (p : MarkedPattern) → depth (mirror p) ≡ depth p
mirror_depth empty = refl
mirror_depth (class m n rs) = refl
mirror_depth (look l) = refl
mirror_depth (cat p q) =
    by_test (is_empty p || is_empty q) (ap (λ (k : ℕ). max k (depth (mirror q))) (mirror_depth p) ∙ ap (max (depth p)) (mirror_depth q))
  where
    -- by whether one of the two is nothing
    by_test : (b : Bool) → max (depth (mirror p)) (depth (mirror q)) ≡ max (depth p) (depth q)
        → depth (if b then cat (mirror p) (mirror q) else cat (mirror q) (mirror p)) ≡ max (depth p) (depth q)
    by_test true same = same
    by_test false same = max_turned (depth (mirror q)) (depth (mirror p)) ∙ same
mirror_depth (alt p q) = ap (λ (k : ℕ). max k (depth (mirror q))) (mirror_depth p) ∙ ap (max (depth p)) (mirror_depth q)
mirror_depth (star p) = mirror_depth p
mirror_depth (plus p) = mirror_depth p
mirror_depth (lookbehind n p) = ap suc (mirror_depth p)
mirror_depth (lookahead n p) = ap suc (mirror_depth p)
