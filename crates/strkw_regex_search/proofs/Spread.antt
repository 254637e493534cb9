-- A pattern whose lookaheads are put aside takes no more steps than with a mark beside what each lookaround looks for.
use Rattle.std.proofs.Common.{◌≡◌, ℕ, ◌+◌, ◌≤◌, Bool, true, false, ◌&&◌, [], refl, sym, ap, ◌∙◌, arith}
use Rattle.strkw_regex_core.specs.machine.MarkedPattern.{MarkedPattern, empty, class, look, cat, alt, star, plus, lookbehind, lookahead}
use Rattle.strkw_regex_core.specs.machine.Program.{is_class, is_empty, alternatives}
use Rattle.strkw_regex_core.specs.Size.{max_steps}
use Rattle.strkw_regex_core.specs.machine.ProgramSteps.{steps_of, steps, spread}
use Rattle.strkw_regex_core.specs.machine.Mirror.{mirror_if}
use Rattle.strkw_regex_core.specs.machine.Positions.{is_unmarked, is_clean}
use Rattle.strkw_regex_search.specs.machine.OracleRunners.{IsFit}
use Rattle.strkw_regex_search.specs.machine.OracleMarks.{slot, aside}
use Rattle.strkw_regex_core.proofs.Behind.{nothing_is}
use Rattle.strkw_regex_core.proofs.PatternEquivalences.{both_same, option_class, star_class, plus_class, spread_look, spread_nothing, spread_class}
use Rattle.strkw_regex_core.proofs.MirrorEquivalence.{mirror_steps}
use Rattle.strkw_regex_core.proofs.Sizes.{cat_steps, alt_steps, beside_steps, star_steps, plus_steps, behind_steps}
use Rattle.strkw_charset.proofs.Booleans.{and_true, and_left, and_right}

-- it is nothing where that is
pub aside_nothing : (p : MarkedPattern) → is_empty (aside p) ≡ is_empty p
aside_nothing empty = refl
aside_nothing (class m n rs) = refl
aside_nothing (look l) = refl
aside_nothing (cat p q) = refl
aside_nothing (alt p q) = refl
aside_nothing (star p) = refl
aside_nothing (plus p) = refl
aside_nothing (lookbehind n p) = refl
aside_nothing (lookahead n p) = refl

-- and a class where that is
pub aside_class : (p : MarkedPattern) → is_class (aside p) ≡ is_class p
aside_class empty = refl
aside_class (class m n rs) = refl
aside_class (look l) = refl
aside_class (cat p q) = refl
aside_class (alt p q) = refl
aside_class (star p) = refl
aside_class (plus p) = refl
aside_class (lookbehind n p) = refl
aside_class (lookahead n p) = refl

-- of fewer steps, with some more
-- alternatives, the first nothing and the second a class where those are
pub fewer_alt : (t u : ℕ) (p q r s : MarkedPattern) → is_empty p ≡ is_empty r → is_class q ≡ is_class s
    → t + steps_of (alternatives p) ≤ steps_of (alternatives r) → u + steps q ≤ steps s → t + u + steps (alt p q) ≤ steps (alt r s)
fewer_alt t u p q r s nothing classes beside less = by_option (is_empty p && is_class q) refl
  where
    -- what is nothing takes no steps
    none : (z : MarkedPattern) → is_empty z ≡ true → steps_of (alternatives z) ≡ 0
    none z e = ap (λ (y : MarkedPattern). steps_of (alternatives y)) (nothing_is z e)

    -- by whether they are a class that may be missing
    by_option : (b : Bool) → (is_empty p && is_class q) ≡ b → t + u + steps (alt p q) ≤ steps (alt r s)
    by_option true e =
        omega (
          arith,
          option_class p q e,
          option_class r s (sym (both_same _ _ _ _ nothing classes) ∙ e),
          less,
          beside,
          none r (sym nothing ∙ and_left (is_empty p) _ e),
        )
    by_option false e = omega (arith, alt_steps p q e, alt_steps r s (sym (both_same _ _ _ _ nothing classes) ∙ e), beside, less)

-- what is repeated, a class where the other is
pub fewer_star : (t : ℕ) (p r : MarkedPattern) → is_class p ≡ is_class r → t + steps p ≤ steps r → t + steps (star p) ≤ steps (star r)
fewer_star t p r classes less = by_class (is_class p) refl
  where
    by_class : (b : Bool) → is_class p ≡ b → t + steps (star p) ≤ steps (star r)
    by_class true e = omega (arith, star_class p e, star_class r (sym classes ∙ e), less)
    by_class false e = omega (arith, star_steps p e, star_steps r (sym classes ∙ e), less)

-- the same once or more
pub fewer_plus : (t : ℕ) (p r : MarkedPattern) → is_class p ≡ is_class r → t + steps p ≤ steps r → t + steps (plus p) ≤ steps (plus r)
fewer_plus t p r classes less = by_class (is_class p) refl
  where
    by_class : (b : Bool) → is_class p ≡ b → t + steps (plus p) ≤ steps (plus r)
    by_class true e = omega (arith, plus_class p e, plus_class r (sym classes ∙ e), less)
    by_class false e = omega (arith, plus_steps p e, plus_steps r (sym classes ∙ e), less)

-- by itself and among alternatives
abbrev TakesLess : MarkedPattern → MarkedPattern → Type 0
TakesLess p q = (steps p ≤ steps q) × (steps_of (alternatives p) ≤ steps_of (alternatives q))

-- with no mark set a pattern takes no more so than with a mark beside each lookaround
takes_less : (p : MarkedPattern) → TakesLess (aside p) (spread p)
takes_less empty = (omega arith, omega arith)
takes_less (class m n rs) = (omega arith, omega arith)
takes_less (look l) = (omega arith, omega arith)
takes_less (cat p q) =
    let less : steps (aside (cat p q)) ≤ steps (spread (cat p q)) =
    omega (arith, cat_steps (aside p) (aside q), cat_steps (spread p) (spread q), (takes_less p).0, (takes_less q).0) in
    (less, less)
takes_less (alt p q) = (
  omega (
    arith,
    fewer_alt 0 0 (aside p) (aside q) (spread p) (spread q) (aside_nothing p ∙ sym (spread_nothing p))
        (aside_class q ∙ sym (spread_class q)) (omega (arith, (takes_less p).1)) (omega (arith, (takes_less q).0)),
  ),
  omega (arith, beside_steps (aside p) (aside q), beside_steps (spread p) (spread q), (takes_less p).1, (takes_less q).0),
)
takes_less (star p) =
    let less : steps (star (aside p)) ≤ steps (star (spread p)) =
    omega (arith, fewer_star 0 (aside p) (spread p) (aside_class p ∙ sym (spread_class p)) (omega (arith, (takes_less p).0))) in
    (less, less)
takes_less (plus p) =
    let less : steps (plus (aside p)) ≤ steps (plus (spread p)) =
    omega (arith, fewer_plus 0 (aside p) (spread p) (aside_class p ∙ sym (spread_class p)) (omega (arith, (takes_less p).0))) in
    (less, less)
takes_less (lookbehind n p) =
    let less : steps (lookbehind n (aside p)) ≤ steps (spread (lookbehind n p)) =
    omega (arith, behind_steps n (aside p), spread_look n (spread p), (takes_less p).0) in
    (less, less)
takes_less (lookahead n p) =
    let mark : steps (class false false []) ≡ 1 = refl in
    let less : steps (slot n false) ≤ steps (spread (lookahead n p)) =
    omega (arith, behind_steps n (class false false []), mark, spread_look n (spread p)) in
    (less, less)

-- so it has no more by itself
pub aside_steps : (p : MarkedPattern) → steps (aside p) ≤ steps (spread p)
aside_steps p = (takes_less p).0

-- it bears no mark where the pattern bears none
pub aside_clean : (p : MarkedPattern) → is_unmarked p ≡ true → is_clean (aside p) ≡ true
aside_clean empty h = refl
aside_clean (class m n rs) h = h
aside_clean (look l) h = refl
aside_clean (cat p q) h = and_true _ _ (aside_clean p (and_left _ _ h)) (aside_clean q (and_right (is_unmarked p) _ h))
aside_clean (alt p q) h = and_true _ _ (aside_clean p (and_left _ _ h)) (aside_clean q (and_right (is_unmarked p) _ h))
aside_clean (star p) h = aside_clean p h
aside_clean (plus p) h = aside_clean p h
aside_clean (lookbehind n p) h = aside_clean p h
aside_clean (lookahead n p) h = refl

-- so it is fit where it takes few steps with those marks
pub aside_fit : (p : MarkedPattern) → is_unmarked p ≡ true → steps (spread p) ≤ max_steps → IsFit (aside p)
aside_fit p h w = (omega (arith, w, aside_steps p), aside_clean p h)

-- and so is what is made of it, looked for from either end
pub facing_steps : (b : Bool) (p : MarkedPattern) → steps (spread (mirror_if b p)) ≡ steps (spread p)
facing_steps false p = refl
facing_steps true p = mirror_steps p
