-- The size of a whole pattern is how many steps a search for its parts takes.
use Rattle.std.proofs.Common.{◌≡◌, zero, suc, ◌+◌, Bool, true, false, not, List, [], ◌∷◌, ◌++◌, if◌then◌else◌, refl, sym, ap, ◌∙◌, true≢false, arith}
use Rattle.std.specs.Prelude.{◌&&◌}
use Rattle.strkw_regex_core.specs.Near as near
use Rattle.strkw_regex_core.specs.Near.{is_near, are_near}
use Rattle.strkw_regex_core.specs.Size.{forth, back, apart, size}
use Rattle.strkw_regex_core.specs.Tree.{Pattern, start}
use Rattle.strkw_regex_core.specs.Tree as tree
use Rattle.strkw_regex_core.specs.WholeSize as whole
use Rattle.strkw_regex_core.specs.WholeSize.{front_size, fronts_size, part_size, whole_size}
use Rattle.strkw_regex_core.specs.declared.leading_lookahead.Lead.{Lead}
use Rattle.strkw_regex_core.specs.declared.leading_lookahead.Lead.TheVariants.{Nothing, Anchored, Past}
use Rattle.strkw_regex_core.specs.machine.Expansion.{expand}
use Rattle.strkw_regex_core.specs.machine.LeadingLookahead.{Part, first_lead, fronts, is_apart_behind, is_far, lead, lead_behind, part_of, parts, reads_nothing, rest}
use Rattle.strkw_regex_core.specs.machine.LeadingLookahead.{steps_of_parts}
use Rattle.strkw_regex_core.specs.machine.MarkedPattern.{MarkedPattern, cat}
use Rattle.strkw_regex_core.specs.machine.Mirror.{mirror, mirror_if, target}
use Rattle.strkw_regex_core.specs.machine.OneCharLookahead.{are_told}
use Rattle.strkw_regex_core.specs.machine.ProgramSteps.{search_steps}
use Rattle.strkw_regex_core.specs.machine.Times.{Times, exact_times, quantified_pattern, times_of}
use Rattle.strkw_regex_core.proofs.Fronts.{far_of_times, fronts_apart, fronts_with, lead_of_nothing, lead_of_times, reads_of_times, rest_apart, rest_with}
use Rattle.strkw_regex_core.proofs.PatternSizes.{near_forth, sized_apart, sized_back, sized_forth, told_back, told_forth}
use Rattle.strkw_regex_core.proofs.Sizes.{far_steps, told_steps}
use Rattle.strkw_regex_core.proofs.Terms.{AreTerms, empty_times, is_repeat}

-- a part
-- it takes as many steps in the direction in which its lookarounds are told, or in none
part_steps : (p : Pattern) → AreTerms p → search_steps (target (expand p)) ≡ part_size p
part_steps p h = by_test (are_near false p) (are_near true p) refl refl
  where
    -- the target by those that are told
    target_is : (b c : Bool) → are_told (expand p) ≡ b → are_told (mirror (expand p)) ≡ c → target (expand p) ≡ mirror_if (not b && c) (expand p)
    target_is b c e f =
        ap (λ (x : Bool). mirror_if (not x && are_told (mirror (expand p))) (expand p)) e ∙ ap (λ (x : Bool). mirror_if (not b && x) (expand p)) f

    -- the size by them
    size_is : (b c : Bool) → are_near false p ≡ b → are_near true p ≡ c → part_size p ≡ (if b then size forth p else if c then size back p else size apart p)
    size_is b c e f =
        ap (λ (x : Bool). if x then size forth p else if are_near true p then size back p else size apart p) e
        ∙ ap (λ (x : Bool). if b then size forth p else if x then size back p else size apart p) f

    -- by which are near
    by_test : (b c : Bool) → are_near false p ≡ b → are_near true p ≡ c → search_steps (target (expand p)) ≡ part_size p
    by_test true c e f =
        ap search_steps (target_is true c (told_forth p h ∙ e) (told_back p h ∙ f)) ∙ told_steps (expand p) (told_forth p h ∙ e)
        ∙ (sized_forth p h).0 ∙ sym (size_is true c e f)
    by_test false true e f =
        ap search_steps (target_is false true (told_forth p h ∙ e) (told_back p h ∙ f)) ∙ told_steps (mirror (expand p)) (told_back p h ∙ f)
        ∙ (sized_back p h f).0 ∙ sym (size_is false true e f)
    by_test false false e f =
        ap search_steps (target_is false false (told_forth p h ∙ e) (told_back p h ∙ f)) ∙ far_steps (expand p) (told_forth p h ∙ e)
        ∙ (sized_apart p h).0 ∙ sym (size_is false false e f)

-- the front
-- a first term is the same front, expanded
first_expanded : (p : Pattern) → first_lead (expand p) ≡ whole.first_lead p
first_expanded tree.empty = refl
first_expanded (tree.class n rs) = refl
first_expanded (tree.look start) = refl
first_expanded (tree.look tree.end) = refl
first_expanded (tree.look tree.boundary) = refl
first_expanded (tree.look tree.no_boundary) = refl
first_expanded (tree.cat p q) = refl
first_expanded (tree.alt p q) = refl
first_expanded (tree.repeat min max p) = by_test (near.is_never min max) refl
  where
    -- by whether there is no round
    by_test : (b : Bool) → near.is_never min max ≡ b → first_lead (quantified_pattern (times_of min max) (expand p)) ≡ (if near.is_never min max then Nothing else Past)
    by_test true e =
        sym (lead_of_nothing _ (empty_times min max (expand p) ∙ e)) ∙ sym (ap (λ (b : Bool). if b then Nothing else Past) e)
    by_test false e =
        sym (lead_of_times (times_of min max) (expand p) (empty_times min max (expand p) ∙ e)) ∙ sym (ap (λ (b : Bool). if b then Nothing else Past) e)
first_expanded (tree.lookbehind n p) = refl
first_expanded (tree.lookahead n p) = refl

-- and reads nothing where that does
reads_expanded : (p : Pattern) → reads_nothing (expand p) ≡ whole.reads_nothing p
reads_expanded tree.empty = refl
reads_expanded (tree.class n rs) = refl
reads_expanded (tree.look l) = refl
reads_expanded (tree.cat p q) = refl
reads_expanded (tree.alt p q) = refl
reads_expanded (tree.repeat min max p) = sym (reads_of_times (times_of min max) (expand p)) ∙ empty_times min max (expand p)
reads_expanded (tree.lookbehind n p) = refl
reads_expanded (tree.lookahead n p) = refl

-- so does one term more
behind_expanded : (l : Lead) (q : Pattern) → lead_behind l (expand q) ≡ whole.lead_behind l q
behind_expanded Nothing q = first_expanded q
behind_expanded Anchored q = ap (λ (b : Bool). if b then Anchored else Past) (reads_expanded q)
behind_expanded Past q = refl

-- and a whole pattern
lead_expanded : (p : Pattern) → is_repeat p ≡ false → AreTerms p → lead (expand p) ≡ whole.lead p
lead_expanded tree.empty r h = refl
lead_expanded (tree.class n rs) r h = refl
lead_expanded (tree.look l) r h = first_expanded (tree.look l)
lead_expanded (tree.cat p q) _ (r, h, g) =
    ap (λ (l : Lead). lead_behind l (expand q)) (lead_expanded p r h) ∙ behind_expanded (whole.lead p) q
lead_expanded (tree.alt p q) r h = refl
lead_expanded (tree.repeat min max p) r h = absurd (true≢false r)
lead_expanded (tree.lookbehind n p) r h = refl
lead_expanded (tree.lookahead n p) r h = refl

-- a term looks far where it does so expanded
far_expanded : (q : Pattern) → AreTerms q → is_far (expand q) ≡ whole.is_far q
far_expanded tree.empty h = refl
far_expanded (tree.class n rs) h = refl
far_expanded (tree.look l) h = refl
far_expanded (tree.cat p q) h = refl
far_expanded (tree.alt p q) h = refl
far_expanded (tree.repeat min max p) h = sym (far_of_times (times_of min max) (expand p))
far_expanded (tree.lookbehind n p) h = refl
far_expanded (tree.lookahead n p) h = ap not (near_forth p h)

-- and is a part of its own
apart_behind : (l : Lead) (q : Pattern) → AreTerms q → is_apart_behind l (expand q) ≡ whole.is_apart_behind l q
apart_behind Nothing q h = refl
apart_behind Anchored q h = far_expanded q h
apart_behind Past q h = refl

-- behind a pattern
apart_expanded : (p q : Pattern) → is_repeat p ≡ false → AreTerms p → AreTerms q
    → is_apart_behind (lead (expand p)) (expand q) ≡ whole.is_apart_behind (whole.lead p) q
apart_expanded p q r h g =
    ap (λ (l : Lead). is_apart_behind l (expand q)) (lead_expanded p r h) ∙ apart_behind (whole.lead p) q g

-- the rest of a pattern
-- what is not repeated
rest_terms : (p : Pattern) → is_repeat p ≡ false → AreTerms p → (is_repeat (whole.rest p) ≡ false) × AreTerms (whole.rest p)
rest_terms tree.empty r h = (r, h)
rest_terms (tree.class n rs) r h = (r, h)
rest_terms (tree.look l) r h = (r, h)
rest_terms (tree.cat p q) _ (r, h, g) = by_test (rest_terms p r h) (whole.is_apart_behind (whole.lead p) q)
  where
    -- by whether the last term is a part of its own
    by_test : (is_repeat (whole.rest p) ≡ false) × AreTerms (whole.rest p) → (b : Bool) → (is_repeat (if b then whole.rest p else tree.cat (whole.rest p) q) ≡ false) × AreTerms (if b then whole.rest p else tree.cat (whole.rest p) q)
    by_test first true = first
    by_test first false = (refl, (first.0, first.1, g))
rest_terms (tree.alt p q) r h = (r, h)
rest_terms (tree.repeat min max p) r h = (r, h)
rest_terms (tree.lookbehind n p) r h = (r, h)
rest_terms (tree.lookahead n p) r h = (r, h)

-- is, expanded, that of the expanded pattern
rest_expanded : (p : Pattern) → is_repeat p ≡ false → AreTerms p → rest (expand p) ≡ expand (whole.rest p)
rest_expanded tree.empty r h = refl
rest_expanded (tree.class n rs) r h = refl
rest_expanded (tree.look l) r h = refl
rest_expanded (tree.cat p q) _ (r, h, g) = by_test (rest_expanded p r h) (whole.is_apart_behind (whole.lead p) q) refl
  where
    -- by whether the last term is a part of its own
    by_test : rest (expand p) ≡ expand (whole.rest p) → (b : Bool) → whole.is_apart_behind (whole.lead p) q ≡ b
        → rest (cat (expand p) (expand q)) ≡ expand (if whole.is_apart_behind (whole.lead p) q then whole.rest p else tree.cat (whole.rest p) q)
    by_test first true e =
        rest_apart (expand p) (expand q) (apart_expanded p q r h g ∙ e) ∙ first
        ∙ sym (ap (λ (b : Bool). expand (if b then whole.rest p else tree.cat (whole.rest p) q)) e)
    by_test first false e =
        rest_with (expand p) (expand q) (apart_expanded p q r h g ∙ e) ∙ ap (λ (w : MarkedPattern). cat w (expand q)) first
        ∙ sym (ap (λ (b : Bool). expand (if b then whole.rest p else tree.cat (whole.rest p) q)) e)
rest_expanded (tree.alt p q) r h = refl
rest_expanded (tree.repeat min max p) r h = absurd (true≢false r)
rest_expanded (tree.lookbehind n p) r h = refl
rest_expanded (tree.lookahead n p) r h = refl

-- the parts
-- the steps of parts one behind another add up
more_parts : (xs ys : List Part) → steps_of_parts (xs ++ ys) ≡ steps_of_parts xs + steps_of_parts ys
more_parts [] ys = omega arith
more_parts (x ∷ xs) ys = omega (arith, more_parts xs ys)

-- what is repeated is no part
times_part : (t : Times) (p : MarkedPattern) → part_of (quantified_pattern t p) ≡ []
times_part (exact_times zero) p = refl
times_part (exact_times (suc n)) p = refl
times_part _ p = refl

-- what a lookahead looks for
part_expanded : (q : Pattern) → AreTerms q → steps_of_parts (part_of (expand q)) ≡ front_size q
part_expanded tree.empty h = refl
part_expanded (tree.class n rs) h = refl
part_expanded (tree.look l) h = refl
part_expanded (tree.cat p q) h = refl
part_expanded (tree.alt p q) h = refl
part_expanded (tree.repeat min max p) h = ap steps_of_parts (times_part (times_of min max) (expand p))
part_expanded (tree.lookbehind n p) h = refl
part_expanded (tree.lookahead n p) h = omega (arith, part_steps (tree.cat (tree.look start) p) (refl, tt, h))

-- all at the front
fronts_expanded : (p : Pattern) → is_repeat p ≡ false → AreTerms p → steps_of_parts (fronts (expand p)) ≡ fronts_size p
fronts_expanded tree.empty r h = refl
fronts_expanded (tree.class n rs) r h = refl
fronts_expanded (tree.look l) r h = refl
fronts_expanded (tree.cat p q) _ (r, h, g) = by_test (fronts_expanded p r h) (whole.is_apart_behind (whole.lead p) q) refl
  where
    -- by whether the last term is a part of its own
    by_test : steps_of_parts (fronts (expand p)) ≡ fronts_size p → (b : Bool) → whole.is_apart_behind (whole.lead p) q ≡ b
        → steps_of_parts (fronts (cat (expand p) (expand q))) ≡ fronts_size p + (if whole.is_apart_behind (whole.lead p) q then front_size q else 0)
    by_test first true e =
        let last : (if whole.is_apart_behind (whole.lead p) q then front_size q else 0) ≡ front_size q =
        ap (λ (b : Bool). if b then front_size q else 0) e in
        ap steps_of_parts (fronts_apart (expand p) (expand q) (apart_expanded p q r h g ∙ e))
        ∙ omega (arith, more_parts (fronts (expand p)) (part_of (expand q)), first, part_expanded q g, last)
    by_test first false e =
        let last : (if whole.is_apart_behind (whole.lead p) q then front_size q else 0) ≡ 0 =
        ap (λ (b : Bool). if b then front_size q else 0) e in
        ap steps_of_parts (fronts_with (expand p) (expand q) (apart_expanded p q r h g ∙ e)) ∙ omega (arith, first, last)
fronts_expanded (tree.alt p q) r h = refl
fronts_expanded (tree.repeat min max p) r h = absurd (true≢false r)
fronts_expanded (tree.lookbehind n p) r h = refl
fronts_expanded (tree.lookahead n p) r h = refl

-- and so the whole
pub whole_steps : (p : Pattern) → is_repeat p ≡ false → AreTerms p → steps_of_parts (parts (expand p)) ≡ whole_size p
whole_steps p r h =
    let rest_is : search_steps (target (rest (expand p))) ≡ part_size (whole.rest p) =
    ap (λ (w : MarkedPattern). search_steps (target w)) (rest_expanded p r h) ∙ part_steps (whole.rest p) (rest_terms p r h).1 in
    omega (arith, rest_is, fronts_expanded p r h)
