-- Which lookbehinds are told from the end of a text on, said of patterns of each kind.
use Rattle.std.proofs.Common.{◌≡◌, Bool, true, false, ◌&&◌, ◌||◌, if◌then◌else◌, refl, ap, ◌∙◌}
use Rattle.strkw_regex_core.specs.machine.MarkedPattern.{MarkedPattern, cat}
use Rattle.strkw_regex_core.specs.machine.OneCharLookahead.{is_glance, are_told}
use Rattle.strkw_regex_core.specs.machine.Mirror.{mirror}
use Rattle.strkw_regex_core.specs.machine.Times.{Times, quantified_pattern}
use Rattle.strkw_regex_core.specs.machine.Program.{is_empty}
use Rattle.strkw_regex_core.specs.machine.Shape.{is_never}
use Rattle.strkw_regex_core.proofs.MirrorEquivalence.{mirror_nothing, times_mirror}
use Rattle.strkw_regex_core.proofs.Shapes.{same_told}

-- both of two hold in either order
and_turned : (a b : Bool) → (a && b) ≡ (b && a)
and_turned true true = refl
and_turned true false = refl
and_turned false true = refl
and_turned false false = refl

-- of two patterns, one behind the other, those of both are
pub told_cat_back : (p q : MarkedPattern) → are_told (mirror (cat p q)) ≡ (are_told (mirror p) && are_told (mirror q))
told_cat_back p q = by_test (is_empty p || is_empty q)
  where
    -- by whether one of the two is nothing
    by_test : (b : Bool) → are_told (if b then cat (mirror p) (mirror q) else cat (mirror q) (mirror p)) ≡ (are_told (mirror p) && are_told (mirror q))
    by_test true = refl
    by_test false = and_turned (are_told (mirror q)) (are_told (mirror p))

-- they are a glance where the first is nothing and the second one
pub glance_cat_back : (p q : MarkedPattern) → is_glance (mirror (cat p q)) ≡ (is_empty p && is_glance (mirror q))
glance_cat_back p q = by_test (is_empty p) (is_empty q) refl refl
  where
    -- by which of the two are nothing
    by_test : (b c : Bool) → is_empty p ≡ b → is_empty q ≡ c
        → is_glance (if b || c then cat (mirror p) (mirror q) else cat (mirror q) (mirror p)) ≡ (b && is_glance (mirror q))
    by_test true c e g = ap (λ (x : Bool). x && is_glance (mirror q)) (mirror_nothing p ∙ e)
    by_test false true e g = ap (λ (x : Bool). x && is_glance (mirror q)) (mirror_nothing p ∙ e)
    by_test false false e g = ap (λ (x : Bool). x && is_glance (mirror p)) (mirror_nothing q ∙ g)

-- of what is repeated, with a copy, those of what it repeats are
pub told_times_back : (t : Times) (p : MarkedPattern) → is_never t ≡ false → are_told (mirror p) ≡ are_told (mirror (quantified_pattern t p))
told_times_back t p w = same_told t (mirror p) w ∙ (times_mirror t p).told

-- and it is a glance where what it repeats is, mirrored, in the same way
pub glance_times_back : (t : Times) (p : MarkedPattern) → is_glance (quantified_pattern t (mirror p)) ≡ is_glance (mirror (quantified_pattern t p))
glance_times_back t p = (times_mirror t p).sees
