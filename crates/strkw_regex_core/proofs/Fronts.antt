-- The parts of a pattern: the rest of it, and what lookaheads at its front look for.
use Rattle.std.proofs.Common.{◌≡◌, zero, suc, Bool, true, false, List, [], ◌∷◌, ◌++◌, Box, refl, sym, ap, subst, ◌∙◌, true≢false, if◌then◌else◌}
use Rattle.std.specs.declared.alloc.Global.{Global}
use Rattle.std.proofs.lemmas.List.{append-nil, append_assoc}
use Rattle.strkw_regex_core.specs.Tree.{start}
use Rattle.strkw_regex_core.specs.machine.MarkedPattern.{MarkedPattern, empty, class, look, cat, alt, star, plus, lookbehind, lookahead}
use Rattle.strkw_regex_core.specs.machine.Times.{Times, any_times, some_times, once_at_most, exact_times, least_times, range_times}
use Rattle.strkw_regex_core.specs.machine.Times.{quantified_pattern}
use Rattle.strkw_regex_core.specs.machine.Program.{is_empty}
use Rattle.strkw_regex_core.specs.machine.LeadingLookahead.{Part, first_lead, lead, lead_behind, reads_nothing, is_far, is_apart_behind, part_of, fronts, rest}
use Rattle.strkw_regex_core.specs.machine.Fronts.{Cuts, part_view, parts_view}
use Rattle.strkw_regex_core.specs.machine.Shape.{outline_pattern, outline_node, is_plain, plain_node, quantifier_of}
use Rattle.strkw_regex_core.specs.declared.counted_regex.CountedRegex.{CountedRegex}
use Rattle.strkw_regex_core.specs.declared.counted_regex.CountedRegex.TheOpen.{CountedRegex-F}
use Rattle.strkw_regex_core.specs.declared.counted_regex.CountedRegex.TheViews.{roll-CountedRegex}
use Rattle.strkw_regex_core.specs.declared.counted_regex.CountedRegex.TheFolds.{fold-roll-CountedRegex, ind-CountedRegex}
use Rattle.strkw_regex_core.specs.declared.counted_regex.CountedRegex.TheVariants.{Then, Ahead, rolls-Then, rolls-Ahead}
use Rattle.strkw_regex_core.specs.declared.leading_lookahead.Cut.{Cut}
use Rattle.strkw_regex_core.specs.declared.leading_lookahead.LeadingLookahead.{LeadingLookahead}
use Rattle.strkw_regex_core.specs.declared.leading_lookahead.Lead.{Lead}
use Rattle.strkw_regex_core.specs.declared.leading_lookahead.Lead.TheVariants.{Nothing, Anchored, Past}

-- of what is repeated
-- where it is nothing, so is the front
pub lead_of_nothing : (p : MarkedPattern) → is_empty p ≡ true → Nothing ≡ first_lead p
lead_of_nothing empty e = refl
lead_of_nothing (class m n rs) e = absurd (true≢false (sym e))
lead_of_nothing (look l) e = absurd (true≢false (sym e))
lead_of_nothing (cat p q) e = absurd (true≢false (sym e))
lead_of_nothing (alt p q) e = absurd (true≢false (sym e))
lead_of_nothing (star p) e = absurd (true≢false (sym e))
lead_of_nothing (plus p) e = absurd (true≢false (sym e))
lead_of_nothing (lookbehind n p) e = absurd (true≢false (sym e))
lead_of_nothing (lookahead n p) e = absurd (true≢false (sym e))

-- and else it is no front
pub lead_of_times : (t : Times) (p : MarkedPattern) → is_empty (quantified_pattern t p) ≡ false → Past ≡ first_lead (quantified_pattern t p)
lead_of_times any_times p e = refl
lead_of_times some_times p e = refl
lead_of_times once_at_most p e = refl
lead_of_times (exact_times zero) p e = absurd (true≢false e)
lead_of_times (exact_times (suc n)) p e = refl
lead_of_times (least_times n) p e = refl
lead_of_times (range_times n m) p e = refl

-- it reads nothing only where it is nothing
pub reads_of_times : (t : Times) (p : MarkedPattern) → is_empty (quantified_pattern t p) ≡ reads_nothing (quantified_pattern t p)
reads_of_times any_times p = refl
reads_of_times some_times p = refl
reads_of_times once_at_most p = refl
reads_of_times (exact_times zero) p = refl
reads_of_times (exact_times (suc n)) p = refl
reads_of_times (least_times n) p = refl
reads_of_times (range_times n m) p = refl

-- and it is no lookahead
pub far_of_times : (t : Times) (p : MarkedPattern) → false ≡ is_far (quantified_pattern t p)
far_of_times any_times p = refl
far_of_times some_times p = refl
far_of_times once_at_most p = refl
far_of_times (exact_times zero) p = refl
far_of_times (exact_times (suc n)) p = refl
far_of_times (least_times n) p = refl
far_of_times (range_times n m) p = refl

-- the same of a pattern that is what is repeated
pub lead_of_whole : (t : Times) (p q : MarkedPattern) → q ≡ quantified_pattern t p → is_empty q ≡ false → Past ≡ first_lead q
lead_of_whole t p q e h = subst (λ w. is_empty w ≡ false → Past ≡ first_lead w) (sym e) (lead_of_times t p) h

-- outlines by their nodes
-- what is no lookahead is none that looks far
node_not_far : (x : CountedRegex-F CountedRegex) → ((n : Bool) (b : Box CountedRegex Global) → roll-CountedRegex x ≡ Ahead n b → ⊥)
    → is_far (outline_pattern (roll-CountedRegex x)) ≡ false
node_not_far CountedRegex-F.Empty other = ap is_far (fold-roll-CountedRegex MarkedPattern outline_node CountedRegex-F.Empty)
node_not_far (CountedRegex-F.Class n s) other = ap is_far (fold-roll-CountedRegex MarkedPattern outline_node (CountedRegex-F.Class n s))
node_not_far CountedRegex-F.Start other = ap is_far (fold-roll-CountedRegex MarkedPattern outline_node CountedRegex-F.Start)
node_not_far CountedRegex-F.End other = ap is_far (fold-roll-CountedRegex MarkedPattern outline_node CountedRegex-F.End)
node_not_far CountedRegex-F.Boundary other = ap is_far (fold-roll-CountedRegex MarkedPattern outline_node CountedRegex-F.Boundary)
node_not_far CountedRegex-F.NoBoundary other = ap is_far (fold-roll-CountedRegex MarkedPattern outline_node CountedRegex-F.NoBoundary)
node_not_far (CountedRegex-F.Then a b) other = ap is_far (fold-roll-CountedRegex MarkedPattern outline_node (CountedRegex-F.Then a b))
node_not_far (CountedRegex-F.Or a b) other = ap is_far (fold-roll-CountedRegex MarkedPattern outline_node (CountedRegex-F.Or a b))
node_not_far (CountedRegex-F.Repeated q b) other =
    ap is_far (fold-roll-CountedRegex MarkedPattern outline_node (CountedRegex-F.Repeated q b)) ∙ sym (far_of_times (quantifier_of q) (outline_pattern b.value))
node_not_far (CountedRegex-F.Behind n b) other = ap is_far (fold-roll-CountedRegex MarkedPattern outline_node (CountedRegex-F.Behind n b))
node_not_far (CountedRegex-F.Ahead n b) other = absurd (other n b (rolls-Ahead n b))

-- an outline that is no lookahead stands for no lookahead that looks far
pub not_far : (o : CountedRegex) → ((n : Bool) (b : Box CountedRegex Global) → o ≡ Ahead n b → ⊥) → is_far (outline_pattern o) ≡ false
not_far = ind-CountedRegex (λ o. ((n : Bool) (b : Box CountedRegex Global) → o ≡ Ahead n b → ⊥) → is_far (outline_pattern o) ≡ false)
    (λ x y is. node_not_far x)

-- nothing is cut off a pattern that is one term
abbrev IsOneTerm : MarkedPattern → Type 0
IsOneTerm p = (lead p ≡ first_lead p) × (rest p ≡ p) × (fronts p ≡ [])

-- what is plain and no sequence is one term
node_one_term : (x : CountedRegex-F CountedRegex) → is_plain (roll-CountedRegex x) ≡ true
    → ((a b : Box CountedRegex Global) → roll-CountedRegex x ≡ Then a b → ⊥) → IsOneTerm (outline_pattern (roll-CountedRegex x))
node_one_term CountedRegex-F.Empty w other = subst IsOneTerm (sym (fold-roll-CountedRegex MarkedPattern outline_node CountedRegex-F.Empty)) (refl, refl, refl)
node_one_term (CountedRegex-F.Class n s) w other = subst IsOneTerm (sym (fold-roll-CountedRegex MarkedPattern outline_node (CountedRegex-F.Class n s))) (refl, refl, refl)
node_one_term CountedRegex-F.Start w other = subst IsOneTerm (sym (fold-roll-CountedRegex MarkedPattern outline_node CountedRegex-F.Start)) (refl, refl, refl)
node_one_term CountedRegex-F.End w other = subst IsOneTerm (sym (fold-roll-CountedRegex MarkedPattern outline_node CountedRegex-F.End)) (refl, refl, refl)
node_one_term CountedRegex-F.Boundary w other = subst IsOneTerm (sym (fold-roll-CountedRegex MarkedPattern outline_node CountedRegex-F.Boundary)) (refl, refl, refl)
node_one_term CountedRegex-F.NoBoundary w other = subst IsOneTerm (sym (fold-roll-CountedRegex MarkedPattern outline_node CountedRegex-F.NoBoundary)) (refl, refl, refl)
node_one_term (CountedRegex-F.Then a b) w other = absurd (other a b (rolls-Then a b))
node_one_term (CountedRegex-F.Or a b) w other = subst IsOneTerm (sym (fold-roll-CountedRegex MarkedPattern outline_node (CountedRegex-F.Or a b))) (refl, refl, refl)
node_one_term (CountedRegex-F.Repeated q b) w other = absurd (true≢false (sym w ∙ fold-roll-CountedRegex Bool plain_node (CountedRegex-F.Repeated q b)))
node_one_term (CountedRegex-F.Behind n b) w other = subst IsOneTerm (sym (fold-roll-CountedRegex MarkedPattern outline_node (CountedRegex-F.Behind n b))) (refl, refl, refl)
node_one_term (CountedRegex-F.Ahead n b) w other = subst IsOneTerm (sym (fold-roll-CountedRegex MarkedPattern outline_node (CountedRegex-F.Ahead n b))) (refl, refl, refl)

-- an outline that is plain and no sequence stands for one term
pub one_term : (o : CountedRegex) → is_plain o ≡ true → ((a b : Box CountedRegex Global) → o ≡ Then a b → ⊥) → IsOneTerm (outline_pattern o)
one_term = ind-CountedRegex (λ o. is_plain o ≡ true → ((a b : Box CountedRegex Global) → o ≡ Then a b → ⊥) → IsOneTerm (outline_pattern o))
    (λ x y is. node_one_term x)

-- a term that does not look far is no part of its own
pub near : (l : Lead) (t : MarkedPattern) → is_far t ≡ false → is_apart_behind l t ≡ false
near Nothing t e = refl
near Anchored t e = e
near Past t e = refl

-- a term that is one looks far
pub far : (l : Lead) (t : MarkedPattern) → is_apart_behind l t ≡ true → is_far t ≡ true
far Nothing t e = absurd (true≢false (sym e))
far Anchored t e = e
far Past t e = absurd (true≢false (sym e))

-- what a term adds to a pattern
module _ (p t : MarkedPattern) where
  -- where it is a part of its own, that part
  pub fronts_apart : is_apart_behind (lead p) t ≡ true → fronts (cat p t) ≡ fronts p ++ part_of t
  fronts_apart e = ap (λ (b : Bool). fronts p ++ (if b then part_of t else [])) e

  -- and the rest is as it was
  pub rest_apart : is_apart_behind (lead p) t ≡ true → rest (cat p t) ≡ rest p
  rest_apart e = ap (λ (b : Bool). if b then rest p else cat (rest p) t) e

  -- and else it stands behind the rest
  pub fronts_with : is_apart_behind (lead p) t ≡ false → fronts (cat p t) ≡ fronts p
  fronts_with e = ap (λ (b : Bool). fronts p ++ (if b then part_of t else [])) e ∙ append-nil (fronts p)

  -- so the rest has it last
  pub rest_with : is_apart_behind (lead p) t ≡ false → rest (cat p t) ≡ cat (rest p) t
  rest_with e = ap (λ (b : Bool). if b then rest p else cat (rest p) t) e

-- behind `^` a lookahead leaves the front as it is
lead_apart : (l : Lead) (n : Bool) (q : MarkedPattern) → is_apart_behind l (lookahead n q) ≡ true → l ≡ lead_behind l (lookahead n q)
lead_apart Nothing n q e = absurd (true≢false (sym e))
lead_apart Anchored n q e = refl
lead_apart Past n q e = absurd (true≢false (sym e))

-- cuts
-- what fronts of the code stand for, one behind another
view_append : (xs ys : List LeadingLookahead) → parts_view (xs ++ ys) ≡ parts_view xs ++ parts_view ys
view_append [] ys = refl
view_append (x ∷ xs) ys = ap (λ (l : List Part). part_view x ∷ l) (view_append xs ys)

-- what is cut off a pattern and a lookahead behind it that is a part of its own
pub cuts_apart : (c new : Cut) (p : MarkedPattern) (n : Bool) (q : MarkedPattern) (f : LeadingLookahead) (old mid last : List LeadingLookahead) → Cuts c p old mid
    → is_apart_behind c.lead (lookahead n q) ≡ true → new.lead ≡ c.lead → outline_pattern new.rest ≡ outline_pattern c.rest
    → f.negated ≡ n → outline_pattern f.pattern ≡ cat (look start) q → last ≡ mid ++ f ∷ [] → Cuts new (cat p (lookahead n q)) old last
cuts_apart c new p n q f old mid last w e lead_is rest_is negated_is pattern_is last_is =
    let t = lookahead n q in
    let apart : is_apart_behind (lead p) t ≡ true = ap (λ (l : Lead). is_apart_behind l t) (sym w.lead) ∙ e in
    record {
      lead = lead_is ∙ lead_apart c.lead n q e ∙ ap (λ (l : Lead). lead_behind l t) w.lead;
      rest = rest_is ∙ w.rest ∙ sym (rest_apart p t apart);
      fronts = ap parts_view last_is ∙ view_append mid (f ∷ [])
          ∙ ap (λ (l : List Part). l ++ part_view f ∷ []) w.fronts ∙ append_assoc (parts_view old) (fronts p) (part_view f ∷ [])
          ∙ ap (λ (b : Bool). parts_view old ++ (fronts p ++ record { negated = b; pattern = outline_pattern f.pattern } ∷ [])) negated_is
          ∙ ap (λ (r : MarkedPattern). parts_view old ++ (fronts p ++ record { negated = n; pattern = r } ∷ [])) pattern_is
          ∙ ap (λ (l : List Part). parts_view old ++ l) (sym (fronts_apart p t apart));
    }

-- and of any other term
pub cuts_with : (c new : Cut) (p t : MarkedPattern) (old mid : List LeadingLookahead) → Cuts c p old mid → is_apart_behind c.lead t ≡ false
    → new.lead ≡ lead_behind c.lead t → outline_pattern new.rest ≡ cat (outline_pattern c.rest) t → Cuts new (cat p t) old mid
cuts_with c new p t old mid w e lead_is rest_is =
    let with : is_apart_behind (lead p) t ≡ false = ap (λ (l : Lead). is_apart_behind l t) (sym w.lead) ∙ e in
    record {
      lead = lead_is ∙ ap (λ (l : Lead). lead_behind l t) w.lead;
      rest = rest_is ∙ ap (λ (r : MarkedPattern). cat r t) w.rest ∙ sym (rest_with p t with);
      fronts = w.fronts ∙ ap (λ (l : List Part). parts_view old ++ l) (sym (fronts_with p t with));
    }
