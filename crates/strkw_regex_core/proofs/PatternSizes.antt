-- The size of a pattern is how many steps the program takes of what it is expanded to, in each reading.
use Rattle.std.proofs.Common.{◌≡◌, ℕ, ◌+◌, ◌-◌, ◌==◌, Bool, true, false, ◌&&◌, ◌||◌, Option, Some, None, if◌then◌else◌, refl, sym, ap, ◌∙◌}
use Rattle.std.proofs.Common.{true≢false, arith, ◌*◌, ⊎_elim}
use Rattle.std.proofs.lemmas.Bool.{eqb-true}
use Rattle.strkw_charset.proofs.Booleans.{and_left, and_right, or_case}
use Rattle.strkw_regex_core.specs.Near as near
use Rattle.strkw_regex_core.specs.Near.{is_near, are_near}
use Rattle.strkw_regex_core.specs.Size.{Reading, forth, back, apart, bar_size, glance_size, repeated_size, size}
use Rattle.strkw_regex_core.specs.Tree.{Pattern}
use Rattle.strkw_regex_core.specs.Tree as tree
use Rattle.strkw_regex_core.specs.machine.Expansion.{expand}
use Rattle.strkw_regex_core.specs.machine.MarkedPattern.{MarkedPattern, cat, alt}
use Rattle.strkw_regex_core.specs.machine.Mirror.{mirror}
use Rattle.strkw_regex_core.specs.machine.OneCharLookahead.{is_glance, are_told}
use Rattle.strkw_regex_core.specs.machine.Program.{is_class, is_empty, glance, alternatives}
use Rattle.strkw_regex_core.specs.machine.ProgramSteps.{steps_of, steps, spread}
use Rattle.strkw_regex_core.specs.machine.Times.{times_of}
use Rattle.strkw_regex_core.proofs.Backwards.{glance_cat_back, told_cat_back, glance_times_back}
use Rattle.strkw_regex_core.proofs.MirrorEquivalence.{mirror_class, mirror_nothing, times_mirror}
use Rattle.strkw_regex_core.proofs.PatternEquivalences.{both_same, spread_class, spread_look}
use Rattle.strkw_regex_core.proofs.Sizes.{ahead_steps, alt_steps, behind_steps, beside_steps, cat_steps, glance_alt_steps}
use Rattle.strkw_regex_core.proofs.Terms.{AreTerms, and_false, class_expanded, empty_expanded, is_one, is_repeat}
use Rattle.strkw_regex_core.proofs.Terms.{glance_by_bounds, near_by_bounds, repeated_by_bounds, told_by_bounds}
use Rattle.strkw_regex_core.proofs.Widths.{times_spread}

-- by its bounds, what is repeated is near where what stands for it is a glance
near_of : (min : ℕ) (max : Option ℕ) (x y a b : Bool) → x ≡ y → a ≡ b
    → (if near.is_option min max then x else near.is_exact min max && (min == 0 || a))
    ≡ (if near.is_option min max then y else near.is_exact min max && (min == 0 || b))
near_of min max x y a b e g =
    ap (λ (z : Bool). if near.is_option min max then z else near.is_exact min max && (min == 0 || a)) e
    ∙ ap (λ (z : Bool). if near.is_option min max then y else near.is_exact min max && (min == 0 || z)) g

-- forwards
-- a pattern is near where what stands for it is a glance
pub near_forth : (p : Pattern) → AreTerms p → is_glance (expand p) ≡ is_near false p
near_forth tree.empty h = refl
near_forth (tree.class n rs) h = refl
near_forth (tree.look l) h = refl
near_forth (tree.cat p q) (r, h, g) = both_same _ _ _ _ (empty_expanded p r) (near_forth q g)
near_forth (tree.alt p q) (r, o, h, g) = both_same _ _ _ _ (near_forth p h) (near_forth q g)
near_forth (tree.repeat min max p) (r, h) =
    near_by_bounds min max (expand p) ∙ near_of min max _ _ _ _ (near_forth p h) (empty_expanded p r)
near_forth (tree.lookbehind n p) h = refl
near_forth (tree.lookahead n p) h = near_forth p h

-- its lookaheads are near where those of that are told
pub told_forth : (p : Pattern) → AreTerms p → are_told (expand p) ≡ are_near false p
told_forth tree.empty h = refl
told_forth (tree.class n rs) h = refl
told_forth (tree.look l) h = refl
told_forth (tree.cat p q) (r, h, g) = both_same _ _ _ _ (told_forth p h) (told_forth q g)
told_forth (tree.alt p q) (r, o, h, g) = both_same _ _ _ _ (told_forth p h) (told_forth q g)
told_forth (tree.repeat min max p) (r, h) =
    told_by_bounds min max (expand p) ∙ ap (λ (b : Bool). near.is_never min max || b) (told_forth p h)
told_forth (tree.lookbehind n p) h = told_forth p h
told_forth (tree.lookahead n p) h = near_forth p h

-- a glance of it takes as many steps
glance_forth : (p : Pattern) → steps_of (glance (expand p)) ≡ glance_size false p
glance_forth tree.empty = refl
glance_forth (tree.class n rs) = omega arith
glance_forth (tree.look l) = refl
glance_forth (tree.cat p q) = glance_forth q
glance_forth (tree.alt p q) = omega (arith, glance_alt_steps (expand p) (expand q), glance_forth p, glance_forth q)
glance_forth (tree.repeat min max p) =
    glance_by_bounds min max (expand p) ∙ ap (λ (k : ℕ). if near.is_option min max then k + 3 else 0) (glance_forth p)
glance_forth (tree.lookbehind n p) = refl
glance_forth (tree.lookahead n p) = omega (arith, ahead_steps n (expand p), glance_forth p)

-- the steps of what stands for a pattern are its size, and among alternatives two less where they are some
abbrev IsSized : Reading → Pattern → MarkedPattern → Type 0
IsSized r p whole = (steps whole ≡ size r p) × (is_repeat p ≡ false → steps_of (alternatives whole) + 3 ≡ steps whole + bar_size p)

-- a class is not both nothing and a class
no_option : (q : Pattern) (first second : MarkedPattern) → is_one q ≡ false → is_class second ≡ is_one q → (is_empty first && is_class second) ≡ false
no_option q first second o e = ap (λ (b : Bool). is_empty first && b) (e ∙ o) ∙ and_false (is_empty first)

-- two alternatives
alt_sized : (r : Reading) (p q : Pattern) (one other : MarkedPattern) → (is_empty one && is_class other) ≡ false → is_repeat p ≡ false
    → IsSized r p one → steps other ≡ size r q → IsSized r (tree.alt p q) (alt one other)
alt_sized r p q one other w f (e, b) g = (
  omega (arith, alt_steps one other w, b f, e, g),
  λ _. omega (arith, alt_steps one other w, beside_steps one other),
)

-- of a text that is read forwards
pub sized_forth : (p : Pattern) → AreTerms p → IsSized forth p (expand p)
sized_forth tree.empty h = (refl, λ _. refl)
sized_forth (tree.class n rs) h = (omega arith, λ _. refl)
sized_forth (tree.look l) h = (refl, λ _. refl)
sized_forth (tree.cat p q) (r, h, g) =
    (omega (arith, cat_steps (expand p) (expand q), (sized_forth p h).0, (sized_forth q g).0), λ _. refl)
sized_forth (tree.alt p q) (r, o, h, g) =
    alt_sized forth p q (expand p) (expand q) (no_option q _ _ o (class_expanded q)) r (sized_forth p h) (sized_forth q g).0
sized_forth (tree.repeat min max p) (r, h) = (
  repeated_by_bounds p (expand p) (class_expanded p) min max ∙ ap (repeated_size min max p) (sized_forth p h).0,
  λ f. absurd (true≢false f),
)
sized_forth (tree.lookbehind n p) h = (omega (arith, behind_steps n (expand p), (sized_forth p h).0), λ _. refl)
sized_forth (tree.lookahead n p) h = (omega (arith, ahead_steps n (expand p), glance_forth p), λ _. refl)

-- and where each lookaround has a pass of its own
pub sized_apart : (p : Pattern) → AreTerms p → IsSized apart p (spread (expand p))
sized_apart tree.empty h = (refl, λ _. refl)
sized_apart (tree.class n rs) h = (omega arith, λ _. refl)
sized_apart (tree.look l) h = (refl, λ _. refl)
sized_apart (tree.cat p q) (r, h, g) =
    (omega (arith, cat_steps (spread (expand p)) (spread (expand q)), (sized_apart p h).0, (sized_apart q g).0), λ _. refl)
sized_apart (tree.alt p q) (r, o, h, g) =
    alt_sized apart p q (spread (expand p)) (spread (expand q)) (no_option q _ _ o (spread_class (expand q) ∙ class_expanded q)) r
    (sized_apart p h) (sized_apart q g).0
sized_apart (tree.repeat min max p) (r, h) = (
  ap steps (times_spread (times_of min max) (expand p))
      ∙ repeated_by_bounds p (spread (expand p)) (spread_class (expand p) ∙ class_expanded p) min max ∙ ap (repeated_size min max p) (sized_apart p h).0,
  λ f. absurd (true≢false f),
)
sized_apart (tree.lookbehind n p) h = (omega (arith, spread_look n (spread (expand p)), (sized_apart p h).0), λ _. refl)
sized_apart (tree.lookahead n p) h = (omega (arith, spread_look n (spread (expand p)), (sized_apart p h).0), λ _. refl)

-- backwards
-- a pattern is near from the end of a text on where the mirror of what stands for it is a glance
pub near_back : (p : Pattern) → AreTerms p → is_glance (mirror (expand p)) ≡ is_near true p
near_back tree.empty h = refl
near_back (tree.class n rs) h = refl
near_back (tree.look l) h = refl
near_back (tree.cat p q) (r, h, g) = glance_cat_back (expand p) (expand q) ∙ both_same _ _ _ _ (empty_expanded p r) (near_back q g)
near_back (tree.alt p q) (r, o, h, g) = both_same _ _ _ _ (near_back p h) (near_back q g)
near_back (tree.repeat min max p) (r, h) =
    sym (glance_times_back (times_of min max) (expand p)) ∙ near_by_bounds min max (mirror (expand p))
    ∙ near_of min max _ _ _ _ (near_back p h) (mirror_nothing (expand p) ∙ empty_expanded p r)
near_back (tree.lookbehind n p) h = near_back p h
near_back (tree.lookahead n p) h = refl

-- its lookbehinds are near where the lookaheads of that are told
pub told_back : (p : Pattern) → AreTerms p → are_told (mirror (expand p)) ≡ are_near true p
told_back tree.empty h = refl
told_back (tree.class n rs) h = refl
told_back (tree.look l) h = refl
told_back (tree.cat p q) (r, h, g) = told_cat_back (expand p) (expand q) ∙ both_same _ _ _ _ (told_back p h) (told_back q g)
told_back (tree.alt p q) (r, o, h, g) = both_same _ _ _ _ (told_back p h) (told_back q g)
told_back (tree.repeat min max p) (r, h) =
    sym (times_mirror (times_of min max) (expand p)).told ∙ told_by_bounds min max (mirror (expand p))
    ∙ ap (λ (b : Bool). near.is_never min max || b) (told_back p h)
told_back (tree.lookbehind n p) h = near_back p h
told_back (tree.lookahead n p) h = told_back p h

-- where it is near, a glance of it takes as many steps
glance_back : (p : Pattern) → AreTerms p → is_near true p ≡ true → steps_of (glance (mirror (expand p))) ≡ glance_size true p
glance_back tree.empty h e = refl
glance_back (tree.class n rs) h e = omega arith
glance_back (tree.look l) h e = refl
glance_back (tree.cat p q) (r, h, g) e =
    let nothing : is_empty (expand p) ≡ true = empty_expanded p r ∙ and_left (near.is_empty p) _ e in
    ap (λ (b : Bool). steps_of (glance (if b || is_empty (expand q) then cat (mirror (expand p)) (mirror (expand q))
    else cat (mirror (expand q)) (mirror (expand p))))) nothing
    ∙ glance_back q g (and_right (near.is_empty p) _ e)
glance_back (tree.alt p q) (r, o, h, g) e =
    omega (
      arith,
      glance_alt_steps (mirror (expand p)) (mirror (expand q)),
      glance_back p h (and_left (is_near true p) _ e),
      glance_back q g (and_right (is_near true p) _ e),
    )
glance_back (tree.repeat min max p) (r, h) e =
    sym ((times_mirror (times_of min max) (expand p)).glance_steps (near_back (tree.repeat min max p) (r, h) ∙ e))
    ∙ glance_by_bounds min max (mirror (expand p)) ∙ by_test (glance_back p h) (near.is_option min max) refl
  where
    -- by whether it is one that may be missing
    by_test : (is_near true p ≡ true → steps_of (glance (mirror (expand p))) ≡ glance_size true p) → (b : Bool) → near.is_option min max ≡ b
        → (if near.is_option min max then steps_of (glance (mirror (expand p))) + 3 else 0) ≡ (if near.is_option min max then glance_size true p + 3 else 0)
    by_test same true f =
        let seen : is_near true p ≡ true =
        sym (ap (λ (b : Bool). if b then is_near true p else near.is_exact min max && (min == 0 || near.is_empty p)) f) ∙ e in
        ap (λ (k : ℕ). if near.is_option min max then k + 3 else 0) (same seen)
    by_test same false f =
        ap (λ (b : Bool). if b then steps_of (glance (mirror (expand p))) + 3 else 0) f ∙ sym (ap (λ (b : Bool). if b then glance_size true p + 3 else 0) f)
glance_back (tree.lookbehind n p) h e = omega (arith, ahead_steps n (mirror (expand p)), glance_back p h e)
glance_back (tree.lookahead n p) h e = absurd (true≢false (sym e))

-- where its lookbehinds are near, the steps of its mirror are its size
pub sized_back : (p : Pattern) → AreTerms p → are_near true p ≡ true → IsSized back p (mirror (expand p))
sized_back tree.empty h e = (refl, λ _. refl)
sized_back (tree.class n rs) h e = (omega arith, λ _. refl)
sized_back (tree.look l) h e = (refl, λ _. refl)
sized_back (tree.cat p q) (r, h, g) e =
    by_test (sized_back p h (and_left (are_near true p) _ e)).0 (sized_back q g (and_right (are_near true p) _ e)).0
    (is_empty (expand p) || is_empty (expand q))
  where
    -- in either order
    by_test : steps (mirror (expand p)) ≡ size back p → steps (mirror (expand q)) ≡ size back q → (b : Bool)
        → IsSized back (tree.cat p q) (if b then cat (mirror (expand p)) (mirror (expand q)) else cat (mirror (expand q)) (mirror (expand p)))
    by_test one other true = (omega (arith, cat_steps (mirror (expand p)) (mirror (expand q)), one, other), λ _. refl)
    by_test one other false = (omega (arith, cat_steps (mirror (expand q)) (mirror (expand p)), one, other), λ _. refl)
sized_back (tree.alt p q) (r, o, h, g) e =
    alt_sized back p q (mirror (expand p)) (mirror (expand q)) (no_option q _ _ o (mirror_class (expand q) ∙ class_expanded q)) r
    (sized_back p h (and_left (are_near true p) _ e)) (sized_back q g (and_right (are_near true p) _ e)).0
sized_back (tree.repeat min max p) (r, h) e = (
  sym ((times_mirror (times_of min max) (expand p)).steps (told_back (tree.repeat min max p) (r, h) ∙ e))
      ∙ repeated_by_bounds p (mirror (expand p)) (mirror_class (expand p) ∙ class_expanded p) min max
      ∙ ⊎_elim (λ f. none min max f) (λ f. ap (repeated_size min max p) (sized_back p h f).0) (or_case (near.is_never min max) _ e),
  λ f. absurd (true≢false f),
)
  where
    -- no copy has no steps
    none : (min : ℕ) (max : Option ℕ) → near.is_never min max ≡ true
        → repeated_size min max p (steps (mirror (expand p))) ≡ repeated_size min max p (size back p)
    none min None f = absurd (true≢false (sym f))
    none min (Some m) f =
        let least : min ≡ 0 = eqb-true min 0 (and_left (min == 0) _ f) in
        let most : m - min ≡ 0 = omega (arith, eqb-true m 0 (and_right (min == 0) _ f)) in
        let nothing : (x y : ℕ) → min * x + (m - min) * y ≡ 0 =
        λ x y. omega (arith, ap (λ (k : ℕ). k * x) least, ap (λ (k : ℕ). k * y) most) in
        nothing _ _ ∙ sym (nothing _ _)
sized_back (tree.lookbehind n p) h e = (omega (arith, ahead_steps n (mirror (expand p)), glance_back p h e), λ _. refl)
sized_back (tree.lookahead n p) h e = (omega (arith, behind_steps n (mirror (expand p)), (sized_back p h e).0), λ _. refl)
