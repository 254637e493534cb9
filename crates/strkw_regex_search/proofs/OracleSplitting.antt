-- What the code puts aside of an outline: by what the outline stands for, what is asked of its parts, and what is left
-- of it.
use Rattle.std.proofs.Common.{◌≡◌, ℕ, zero, suc, ◌+◌, ◌-◌, ◌≤◌, Bool, true, false, not, ◌&&◌, ◌==◌, if◌then◌else◌, List, [], ◌∷◌, ◌++◌, Option, Some}
use Rattle.std.proofs.Common.{None, Vec, Box, Global, refl, sym, ap, subst, ◌∙◌, append-nil, true≢false, arith}
use Rattle.std.proofs.lemmas.Bool.Decides.{nat_tests}
use Rattle.strkw_regex_core.specs.Tree.{start, end, boundary, no_boundary, Look}
use Rattle.strkw_regex_core.specs.machine.MarkedPattern.{MarkedPattern, empty, class, look, cat, alt, star, plus, lookbehind}
use Rattle.strkw_regex_core.specs.machine.MarkedPattern.{lookahead}
use Rattle.strkw_charset.specs.declared.tree.CharSet.{CharSet}
use Rattle.strkw_regex_core.specs.machine.Mirror.{mirror_if}
use Rattle.strkw_regex_core.specs.machine.Times.{Times, any_times, some_times, once_at_most, exact_times, least_times, range_times, repetition}
use Rattle.strkw_regex_core.specs.machine.Times.{quantified_pattern}
use Rattle.strkw_regex_core.specs.machine.Program.{is_class, is_empty, alternatives, concat_copies}
use Rattle.strkw_regex_core.specs.Size.{max_steps}
use Rattle.strkw_regex_core.specs.machine.ProgramSteps.{steps_of, steps, spread}
use Rattle.strkw_regex_search.specs.machine.OraclePasses.{OracleQuery, AreToldAs, AreAsides, IsSmall, Puts, PutsAside, PutsBoth, PutsLook, SetsAside, TellsAside}
use Rattle.strkw_regex_core.specs.machine.Positions.{is_unmarked}
use Rattle.strkw_regex_core.specs.machine.EquivalentPatterns.{EquivalentPatterns}
use Rattle.strkw_regex_search.specs.machine.Seeking.{Seeking}
use Rattle.strkw_regex_core.specs.machine.Shape.{is_never, outline_pattern, outline_node}
use Rattle.strkw_regex_core.specs.declared.counted_regex.Quantifier.{Quantifier}
use Rattle.strkw_regex_core.specs.declared.counted_regex.CountedRegex.{CountedRegex, CountedRegex-F, roll-CountedRegex, fold-roll-CountedRegex}
use Rattle.strkw_regex_core.specs.declared.counted_regex.CountedRegex.TheFolds.{ind-CountedRegex}
use Rattle.strkw_regex_core.specs.declared.counted_regex.CountedRegex.TheVariants.{Class, Start, End, Then, Or, Repeated, Behind, Ahead, rolls-Class}
use Rattle.strkw_regex_core.specs.declared.counted_regex.CountedRegex.TheVariants.{rolls-Start, rolls-End, rolls-Then, rolls-Or, rolls-Repeated, rolls-Behind}
use Rattle.strkw_regex_core.specs.declared.counted_regex.CountedRegex.TheVariants.{rolls-Ahead}
use Rattle.strkw_regex_search.specs.machine.OracleMarks.{slot, aside, spots, all_copies}
use Rattle.strkw_regex_core.proofs.Behind.{nothing_is}
use Rattle.strkw_regex_core.proofs.PatternEquivalences.{alike_refl, option_class, star_class, plus_class, spread_look}
use Rattle.strkw_regex_search.proofs.OracleSplit.{set_put, none_put, both_put, either_put, times_put, behind_put, ahead_put, alt_facing, times_facing}
use Rattle.strkw_regex_search.proofs.OracleSplit.{never_copied, never_spots, behind_faced, ahead_faced}
use Rattle.strkw_regex_core.proofs.Sizes.{cat_steps, alt_steps, beside_steps, star_steps, plus_steps}
use Rattle.strkw_charset.proofs.Booleans.{and_true, and_left, and_right}
use Rattle.strkw_regex_core.proofs.Widths.{times_if}

-- one copy is not none
some_copy : (n : ℕ) → (suc n == 0) ≡ false
some_copy n = grind (arith, nat_tests)

-- one or more, less none, is not none
some_left : (n : ℕ) → (suc n - zero == 0) ≡ false
some_left n = grind (arith, nat_tests)

-- what a pattern asks of its parts
-- that no class bears a mark
pub cat_bare : (whole p q : MarkedPattern) → whole ≡ cat p q → is_unmarked whole ≡ true → (is_unmarked p ≡ true) × (is_unmarked q ≡ true)
cat_bare whole p q is h =
    let both : (is_unmarked p && is_unmarked q) ≡ true = sym (ap is_unmarked is) ∙ h in
    (and_left _ _ both, and_right (is_unmarked p) _ both)

-- both alternatives of a pattern without marks have none
pub alt_bare : (whole p q : MarkedPattern) → whole ≡ alt p q → is_unmarked whole ≡ true → (is_unmarked p ≡ true) × (is_unmarked q ≡ true)
alt_bare whole p q is h =
    let both : (is_unmarked p && is_unmarked q) ≡ true = sym (ap is_unmarked is) ∙ h in
    (and_left _ _ both, and_right (is_unmarked p) _ both)

-- a sequence without marks has none in the other order
pub turned_bare : (whole p q : MarkedPattern) → whole ≡ cat p q → is_unmarked whole ≡ true → is_unmarked (cat q p) ≡ true
turned_bare whole p q is h = let both = cat_bare whole p q is h in and_true _ _ both.1 both.0

-- of copies, where there is one, and of what may be missing
copies_bare : (n : ℕ) (p : MarkedPattern) → (n == 0) ≡ false → is_unmarked (repetition n p) ≡ true → is_unmarked p ≡ true
copies_bare zero p some h = absurd (true≢false some)
copies_bare (suc n) p some h = and_left _ _ h

-- what a quantifier stands behind has no mark where the whole has none, and it is not left out
times_bare : (t : Times) (p : MarkedPattern) → is_never t ≡ false → is_unmarked (quantified_pattern t p) ≡ true → is_unmarked p ≡ true
times_bare any_times p some h = h
times_bare some_times p some h = h
times_bare once_at_most p some h = h
times_bare (exact_times n) p some h = copies_bare n p some h
times_bare (least_times n) p some h = and_right (is_unmarked (repetition n p)) _ h
times_bare (range_times zero zero) p some h = absurd (true≢false some)
times_bare (range_times zero (suc m)) p some h = copies_bare (suc m - zero) (alt empty p) (some_left m) (and_right (is_unmarked (repetition zero p)) _ h)
times_bare (range_times (suc n) m) p some h = and_left _ _ (and_left (is_unmarked (repetition (suc n) p)) _ h)

-- the same of a pattern that equals such a whole
pub repeated_bare : (t : Times) (whole p : MarkedPattern) → whole ≡ quantified_pattern t p → is_never t ≡ false → is_unmarked whole ≡ true → is_unmarked p ≡ true
repeated_bare t whole p is some h = times_bare t p some (sym (ap is_unmarked is) ∙ h)

-- that it is small
-- what stands among alternatives takes at most three steps more alone
beside_most : (p : MarkedPattern) → steps p ≤ steps_of (alternatives p) + 3
beside_most empty = omega arith
beside_most (class m n rs) = omega arith
beside_most (look l) = omega arith
beside_most (cat p q) = omega arith
beside_most (alt p q) = by_option (is_empty p && is_class q) refl
  where
    by_option : (b : Bool) → (is_empty p && is_class q) ≡ b → steps (alt p q) ≤ steps_of (alternatives (alt p q)) + 3
    by_option true e = omega (arith, option_class p q e, beside_steps p q)
    by_option false e = omega (arith, alt_steps p q e, beside_steps p q)
beside_most (star p) = omega arith
beside_most (plus p) = omega arith
beside_most (lookbehind n p) = omega arith
beside_most (lookahead n p) = omega arith

-- each of two alternatives takes no more steps than both
one_most : (p q : MarkedPattern) → steps p ≤ steps (alt p q)
one_most p q = by_option (is_empty p && is_class q) refl
  where
    none : (z : MarkedPattern) → is_empty z ≡ true → steps z ≡ 0
    none z e = ap steps (nothing_is z e)

    by_option : (b : Bool) → (is_empty p && is_class q) ≡ b → steps p ≤ steps (alt p q)
    by_option true e = omega (arith, none p (and_left _ _ e))
    by_option false e = omega (arith, alt_steps p q e, beside_most p)

-- the second of two alternatives has at most the steps of both
other_most : (p q : MarkedPattern) → steps q ≤ steps (alt p q)
other_most p q = by_option (is_empty p && is_class q) refl
  where
    by_option : (b : Bool) → (is_empty p && is_class q) ≡ b → steps q ≤ steps (alt p q)
    by_option true e = omega (arith, option_class p q e)
    by_option false e = omega (arith, alt_steps p q e)

-- and what is repeated takes no more than what repeats it
star_most : (p : MarkedPattern) → steps p ≤ steps (star p)
star_most p = by_class (is_class p) refl
  where
    by_class : (b : Bool) → is_class p ≡ b → steps p ≤ steps (star p)
    by_class true e = omega (arith, star_class p e)
    by_class false e = omega (arith, star_steps p e)

-- a pattern has at most the steps that it has once or more
plus_most : (p : MarkedPattern) → steps p ≤ steps (plus p)
plus_most p = by_class (is_class p) refl
  where
    by_class : (b : Bool) → is_class p ≡ b → steps p ≤ steps (plus p)
    by_class true e = omega (arith, plus_class p e)
    by_class false e = omega (arith, plus_steps p e)

-- a pattern has at most the steps of its copies, where there is one
copies_most : (n : ℕ) (p : MarkedPattern) → (n == 0) ≡ false → steps p ≤ steps (repetition n p)
copies_most zero p some = absurd (true≢false some)
copies_most (suc n) p some = omega (arith, cat_steps p (repetition n p))

-- a pattern has at most the steps that it has with a quantifier, where it is not left out
times_most : (t : Times) (p : MarkedPattern) → is_never t ≡ false → steps p ≤ steps (quantified_pattern t p)
times_most any_times p some = star_most p
times_most some_times p some = plus_most p
times_most once_at_most p some = other_most empty p
times_most (exact_times n) p some = copies_most n p some
times_most (least_times n) p some = omega (arith, cat_steps (repetition n p) (star p), star_most p)
times_most (range_times zero zero) p some = absurd (true≢false some)
times_most (range_times zero (suc m)) p some =
    let both = cat_steps (repetition zero p) (repetition (suc m - zero) (alt empty p)) in
    omega (arith, both, copies_most (suc m - zero) (alt empty p) (some_left m), other_most empty p)
times_most (range_times (suc n) m) p some =
    omega (arith, cat_steps (repetition (suc n) p) (repetition (m - suc n) (alt empty p)), copies_most (suc n) p (some_copy n))

-- both parts of a small sequence are small
pub cat_small : (whole p q : MarkedPattern) → whole ≡ cat p q → IsSmall whole → IsSmall p × IsSmall q
cat_small whole p q is h =
    let both : steps (cat (spread p) (spread q)) ≤ max_steps = subst IsSmall is h in
    (omega (arith, cat_steps (spread p) (spread q), both), omega (arith, cat_steps (spread p) (spread q), both))

-- a small sequence is small in the other order
pub turned_small : (whole p q : MarkedPattern) → whole ≡ cat p q → IsSmall whole → IsSmall (cat q p)
turned_small whole p q is h =
    let both : steps (cat (spread p) (spread q)) ≤ max_steps = subst IsSmall is h in
    omega (arith, cat_steps (spread p) (spread q), cat_steps (spread q) (spread p), both)

-- both alternatives of a small pattern are small
pub alt_small : (whole p q : MarkedPattern) → whole ≡ alt p q → IsSmall whole → IsSmall p × IsSmall q
alt_small whole p q is h =
    let both : steps (alt (spread p) (spread q)) ≤ max_steps = subst IsSmall is h in
    (omega (arith, one_most (spread p) (spread q), both), omega (arith, other_most (spread p) (spread q), both))

-- what a quantifier stands behind is small where the whole is, and it is not left out
pub repeated_small : (t : Times) (whole p : MarkedPattern) → whole ≡ quantified_pattern t p → is_never t ≡ false → IsSmall whole → IsSmall p
repeated_small t whole p is some h =
    let all : steps (spread (quantified_pattern t p)) ≤ max_steps = subst IsSmall is h in
    omega (arith, all, ap steps (times_if true t p), times_most t (spread p) some)

-- what a small lookbehind looks for is small
pub behind_small : (n : Bool) (whole p : MarkedPattern) → whole ≡ lookbehind n p → IsSmall whole → IsSmall p
behind_small n whole p is h =
    let all : steps (spread (lookbehind n p)) ≤ max_steps = subst IsSmall is h in omega (arith, all, spread_look n (spread p))

-- what a small lookahead looks for is small
pub ahead_small : (n : Bool) (whole p : MarkedPattern) → whole ≡ lookahead n p → IsSmall whole → IsSmall p
ahead_small n whole p is h =
    let all : steps (spread (lookahead n p)) ≤ max_steps = subst IsSmall is h in omega (arith, all, spread_look n (spread p))

-- what is left
-- what is the same is alike
alike_same : (p q : MarkedPattern) → p ≡ q → EquivalentPatterns p q
alike_same p q is = subst (EquivalentPatterns p) is (alike_refl p)

-- nothing, and boundaries
nothing_faced : (b : Bool) → empty ≡ mirror_if b empty
nothing_faced true = refl
nothing_faced false = refl

-- a boundary of a word is the same from either end
boundary_faced : (b : Bool) → look boundary ≡ mirror_if b (look boundary)
boundary_faced true = refl
boundary_faced false = refl

-- and so is what is no boundary
no_boundary_faced : (b : Bool) → look no_boundary ≡ mirror_if b (look no_boundary)
no_boundary_faced true = refl
no_boundary_faced false = refl

-- an end of the text, or the other
edge_faced : (b : Bool) → look (if not b then start else end) ≡ mirror_if b (look start)
edge_faced true = refl
edge_faced false = refl

-- the end of the text is its start from the other end
end_faced : (b : Bool) → look (if b then start else end) ≡ mirror_if b (look end)
end_faced true = refl
end_faced false = refl

-- a class is the same from either end
class_faced : (b m n : Bool) (rs : List CharSet) → class m n rs ≡ mirror_if b (class m n rs)
class_faced true m n rs = refl
class_faced false m n rs = refl

module _ (b : Bool) (fs : List OracleQuery) (xs : List Seeking) (are : AreAsides [] xs fs) where
  -- what reads nothing and looks for nothing
  pub same_put : (whole p o : MarkedPattern) (old : List (Option ℕ)) → whole ≡ p → p ≡ mirror_if b p → o ≡ aside p → spots p ≡ []
      → PutsAside b whole o fs xs old old
  same_put whole p o old is faced slotted none =
      none_put b fs p (mirror_if b whole) o xs old [] old are (alike_same p (mirror_if b whole) (faced ∙ sym (ap (mirror_if b) is))) slotted
      (subst (AreToldAs fs b []) (sym none) tt) (sym (append-nil old))

  -- an outline that is none of the others
  same_node : (x : CountedRegex-F CountedRegex) (old : List (Option ℕ)) → (roll-CountedRegex x ≡ Start → ⊥) → (roll-CountedRegex x ≡ End → ⊥)
      → ((n : Bool) (s : Vec CharSet Global) → roll-CountedRegex x ≡ Class n s → ⊥) → ((p q : Box CountedRegex Global) → roll-CountedRegex x ≡ Then p q → ⊥)
      → ((p q : Box CountedRegex Global) → roll-CountedRegex x ≡ Or p q → ⊥) → ((t : Quantifier) (p : Box CountedRegex Global) → roll-CountedRegex x ≡ Repeated t p → ⊥)
      → ((n : Bool) (p : Box CountedRegex Global) → roll-CountedRegex x ≡ Behind n p → ⊥) → ((n : Bool) (p : Box CountedRegex Global) → roll-CountedRegex x ≡ Ahead n p → ⊥)
      → PutsAside b (outline_pattern (roll-CountedRegex x)) (outline_pattern (roll-CountedRegex x)) fs xs old old
  same_node CountedRegex-F.Empty old no_start no_end no_class no_then no_or no_times no_behind no_ahead =
      subst (λ (p : MarkedPattern). PutsAside b p p fs xs old old) (sym (fold-roll-CountedRegex MarkedPattern outline_node CountedRegex-F.Empty))
      (same_put empty empty empty old refl (nothing_faced b) refl refl)
  same_node CountedRegex-F.Boundary old no_start no_end no_class no_then no_or no_times no_behind no_ahead =
      subst (λ (p : MarkedPattern). PutsAside b p p fs xs old old) (sym (fold-roll-CountedRegex MarkedPattern outline_node CountedRegex-F.Boundary))
      (same_put (look boundary) (look boundary) (look boundary) old refl (boundary_faced b) refl refl)
  same_node CountedRegex-F.NoBoundary old no_start no_end no_class no_then no_or no_times no_behind no_ahead =
      subst (λ (p : MarkedPattern). PutsAside b p p fs xs old old) (sym (fold-roll-CountedRegex MarkedPattern outline_node CountedRegex-F.NoBoundary))
      (same_put (look no_boundary) (look no_boundary) (look no_boundary) old refl (no_boundary_faced b) refl refl)
  same_node CountedRegex-F.Start old no_start no_end no_class no_then no_or no_times no_behind no_ahead = absurd (no_start rolls-Start)
  same_node CountedRegex-F.End old no_start no_end no_class no_then no_or no_times no_behind no_ahead = absurd (no_end rolls-End)
  same_node (CountedRegex-F.Class n s) old no_start no_end no_class no_then no_or no_times no_behind no_ahead = absurd (no_class n s (rolls-Class n s))
  same_node (CountedRegex-F.Then p q) old no_start no_end no_class no_then no_or no_times no_behind no_ahead = absurd (no_then p q (rolls-Then p q))
  same_node (CountedRegex-F.Or p q) old no_start no_end no_class no_then no_or no_times no_behind no_ahead = absurd (no_or p q (rolls-Or p q))
  same_node (CountedRegex-F.Repeated t p) old no_start no_end no_class no_then no_or no_times no_behind no_ahead = absurd (no_times t p (rolls-Repeated t p))
  same_node (CountedRegex-F.Behind n p) old no_start no_end no_class no_then no_or no_times no_behind no_ahead = absurd (no_behind n p (rolls-Behind n p))
  same_node (CountedRegex-F.Ahead n p) old no_start no_end no_class no_then no_or no_times no_behind no_ahead = absurd (no_ahead n p (rolls-Ahead n p))

  -- nothing and the assertions about boundaries of words stay as they are
  pub others_put : (o : CountedRegex) (old : List (Option ℕ)) → (o ≡ Start → ⊥) → (o ≡ End → ⊥)
      → ((n : Bool) (s : Vec CharSet Global) → o ≡ Class n s → ⊥) → ((p q : Box CountedRegex Global) → o ≡ Then p q → ⊥)
      → ((p q : Box CountedRegex Global) → o ≡ Or p q → ⊥) → ((t : Quantifier) (p : Box CountedRegex Global) → o ≡ Repeated t p → ⊥)
      → ((n : Bool) (p : Box CountedRegex Global) → o ≡ Behind n p → ⊥) → ((n : Bool) (p : Box CountedRegex Global) → o ≡ Ahead n p → ⊥)
      → PutsAside b (outline_pattern o) (outline_pattern o) fs xs old old
  others_put o old =
      ind-CountedRegex
      (λ y. (y ≡ Start → ⊥) → (y ≡ End → ⊥) → ((n : Bool) (s : Vec CharSet Global) → y ≡ Class n s → ⊥)
      → ((p q : Box CountedRegex Global) → y ≡ Then p q → ⊥) → ((p q : Box CountedRegex Global) → y ≡ Or p q → ⊥)
      → ((t : Quantifier) (p : Box CountedRegex Global) → y ≡ Repeated t p → ⊥) → ((n : Bool) (p : Box CountedRegex Global) → y ≡ Behind n p → ⊥)
      → ((n : Bool) (p : Box CountedRegex Global) → y ≡ Ahead n p → ⊥) → PutsAside b (outline_pattern y) (outline_pattern y) fs xs old old)
      (λ x y is. same_node x old) o

  -- an assertion of an end of the text
  pub edge_put : (whole o : MarkedPattern) (l : Look) (old : List (Option ℕ)) → o ≡ look l → look l ≡ mirror_if b whole → PutsAside b whole o fs xs old old
  edge_put whole o l old is faced =
      none_put b fs (look l) (mirror_if b whole) o xs old [] old are (alike_same (look l) (mirror_if b whole) faced) is tt (sym (append-nil old))

  -- the beginning
  pub start_put : (whole o : MarkedPattern) (other : Bool) (old : List (Option ℕ)) → other ≡ not b → whole ≡ look start
      → o ≡ look (if other then start else end) → PutsAside b whole o fs xs old old
  start_put whole o other old way is made =
      edge_put whole o (if not b then start else end) old (made ∙ ap (λ (x : Bool). look (if x then start else end)) way)
      (edge_faced b ∙ sym (ap (mirror_if b) is))

  -- the end
  pub end_put : (whole o : MarkedPattern) (old : List (Option ℕ)) → whole ≡ look end → o ≡ look (if b then start else end)
      → PutsAside b whole o fs xs old old
  end_put whole o old is made = edge_put whole o (if b then start else end) old made (end_faced b ∙ sym (ap (mirror_if b) is))

  -- a class, which no number tells
  pub class_put : (n : Bool) (rs : List CharSet) (whole o : MarkedPattern) (old new : List (Option ℕ)) → whole ≡ class false n rs → o ≡ class false n rs
      → new ≡ old ++ (None ∷ []) → PutsAside b whole o fs xs old new
  class_put n rs whole o old new is made numbers =
      none_put b fs (class false n rs) (mirror_if b whole) o xs old (None ∷ []) new are
      (alike_same (class false n rs) (mirror_if b whole) (class_faced b false n rs ∙ sym (ap (mirror_if b) is))) made (tt, tt) numbers

  -- what takes no copy of what it repeats
  pub never_put : (t : Times) (whole p s : MarkedPattern) (old : List (Option ℕ)) → whole ≡ quantified_pattern t p → is_never t ≡ true
      → s ≡ quantified_pattern t empty → PutsAside b whole s fs xs old old
  never_put t whole p s old is never made =
      let q = mirror_if b p in
      none_put b fs (quantified_pattern t q) (mirror_if b whole) s xs old [] old are
      (subst (EquivalentPatterns (quantified_pattern t q)) (sym (ap (mirror_if b) is)) (times_facing b t p q (alike_refl q)))
      (made ∙ never_copied t q never) (subst (AreToldAs fs b []) (sym (never_spots t q never)) tt) (sym (append-nil old))

module _ (b : Bool) (fs : List OracleQuery) where
  -- of alternatives, what is left of each
  pub or_put : (whole p q o r s : MarkedPattern) (xs ys : List Seeking) (old mid new : List (Option ℕ)) → whole ≡ alt p q
      → (first : PutsAside b p o fs xs old mid) → PutsAside b q r (fs ++ first.added) ys mid new → s ≡ alt o r
      → PutsAside b whole s fs ys old new
  or_put whole p q o r s xs ys old mid new is first second made =
      subst (λ (z : MarkedPattern). Puts b z s fs ys old new) (sym (alt_facing b p q) ∙ sym (ap (mirror_if b) is))
      (either_put b fs (mirror_if b p) (mirror_if b q) o r s xs ys old mid new first second made)

  -- and what is set aside is what is left of it, with the numbers of its marks
  pub fresh_set : (p o : MarkedPattern) (x : Seeking) (xs : List Seeking) (fresh new : List (Option ℕ)) → fresh ≡ [] → PutsAside b p o fs xs fresh new
      → is_unmarked p ≡ true → IsSmall p → x.backward ≡ b → x.pattern ≡ o → x.told ≡ new → SetsAside b p x fs xs
  fresh_set p o x xs fresh new none one bare small way pattern_is told_is =
      set_put b fs p o x xs new (subst (λ (l : List (Option ℕ)). PutsAside b p o fs xs l new) none one) bare small way pattern_is told_is

  -- of two, one behind the other
  pub then_put : (p q pv qv o r s : MarkedPattern) (xs ys : List Seeking) (old mid new : List (Option ℕ)) → p ≡ pv → q ≡ qv
      → (first : PutsAside b p o fs xs old mid) → PutsAside b q r (fs ++ first.added) ys mid new → s ≡ cat o r
      → PutsBoth b pv qv s fs ys old new
  then_put p q pv qv o r s xs ys old mid new p_is q_is first second made =
      subst (λ (z : MarkedPattern). Puts b (cat (mirror_if b z) (mirror_if b qv)) s fs ys old new) p_is
      (subst (λ (z : MarkedPattern). Puts b (cat (mirror_if b p) (mirror_if b z)) s fs ys old new) q_is
      (both_put b fs (mirror_if b p) (mirror_if b q) o r s xs ys old mid new first second made))

  -- of what is repeated
  pub repeated_put : (t : Times) (whole p o s : MarkedPattern) (xs : List Seeking) (fresh own old new more : List (Option ℕ)) (n : ℕ)
      → whole ≡ quantified_pattern t p → fresh ≡ [] → PutsAside b p o fs xs fresh own → new ≡ old ++ concat_copies n more → n ≡ all_copies t → more ≡ own
      → s ≡ quantified_pattern t o → PutsAside b whole s fs xs old new
  repeated_put t whole p o s xs fresh own old new more n is none one numbers count all made =
      subst (λ (z : MarkedPattern). Puts b (mirror_if b z) s fs xs old new) (sym is)
      (times_put b fs t p o s xs own old new (subst (λ (l : List (Option ℕ)). PutsAside b p o fs xs l own) none one)
      (numbers ∙ ap (λ (k : ℕ). old ++ concat_copies k more) count ∙ ap (λ (l : List (Option ℕ)). old ++ concat_copies (all_copies t) l) all) made)

  -- of a lookaround, what is left of it by which way it looks
  pub behind_found : (n : Bool) (whole p pv o : MarkedPattern) (xs : List Seeking) (old new : List (Option ℕ)) → whole ≡ lookbehind n pv → p ≡ pv
      → PutsLook b n b p o fs xs old new → PutsAside b whole o fs xs old new
  behind_found n whole p pv o xs old new is same puts =
      subst (λ (z : MarkedPattern). PutsAside b z o fs xs old new) (ap (lookbehind n) same ∙ sym is) (behind_faced b n p o fs xs old new puts)

  -- of one that looks ahead
  pub ahead_found : (n other : Bool) (whole p pv o : MarkedPattern) (xs : List Seeking) (old new : List (Option ℕ)) → other ≡ not b → whole ≡ lookahead n pv
      → p ≡ pv → PutsLook other n b p o fs xs old new → PutsAside b whole o fs xs old new
  ahead_found n other whole p pv o xs old new way is same puts =
      subst (λ (z : MarkedPattern). PutsAside b z o fs xs old new) (ap (lookahead n) same ∙ sym is)
      (ahead_faced b n p o fs xs old new (subst (λ (x : Bool). PutsLook x n b p o fs xs old new) way puts))

  -- the mark of one that looks ahead
  pub mark_put : (is_ahead n other : Bool) (p s : MarkedPattern) (k : ℕ) (xs : List Seeking) (old new : List (Option ℕ)) → is_ahead ≡ true → other ≡ not b
      → TellsAside other p k fs xs → new ≡ old ++ (Some k ∷ []) → s ≡ slot n false → PutsLook is_ahead n b p s fs xs old new
  mark_put true n other p s k xs old new ahead way one numbers made =
      ahead_put b fs n p s k xs old new (subst (λ (x : Bool). TellsAside x p k fs xs) way one) numbers made
  mark_put false n other p s k xs old new ahead way one numbers made = absurd (true≢false (sym ahead))

  -- and what is left of what one behind looks for
  pub look_put : (is_ahead n : Bool) (p o s : MarkedPattern) (xs : List Seeking) (old new : List (Option ℕ)) → is_ahead ≡ false
      → PutsAside b p o fs xs old new → s ≡ lookbehind n o → PutsLook is_ahead n b p s fs xs old new
  look_put true n p o s xs old new behind one made = absurd (true≢false behind)
  look_put false n p o s xs old new behind one made = behind_put b fs n (mirror_if b p) o s xs old new one made
