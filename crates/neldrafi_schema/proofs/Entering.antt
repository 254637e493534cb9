-- A target is inside the instance, or it is the instance, and the ways from its schema end.
use Rattle.std.proofs.Common.{◌≡◌, ℕ, suc, zero, ◌<◌, List, [], ◌∷◌, ◌++◌, length, get_or, map, refl, sym, ◌∙◌, subst, arith, Bool, true, false, Some, None, Option}
use Rattle.std.proofs.lemmas.Bool.{false≢true}
use Rattle.std.specs.Prelude.{if◌then◌else◌, option_and_then}
use Rattle.std.specs.List.{AllByRecursion, flat_map, list_all}
use Rattle.serde_json.specs.Data.{Data}
use Rattle.strkw_keywords.specs.Errors.{Assertion}
use Rattle.neldrafi_schema.specs.declared.targets.Target.{Target as FoundTarget}
use Rattle.neldrafi_schema.specs.Paths.{Path, Segment, child}
use Rattle.neldrafi_schema.specs.Refusals.{ends, in_place, is_in_place, schemas_in}
use Rattle.neldrafi_schema.specs.Rules.{Target, applied, counts_nothing, on_child, on_items, on_matched, on_members, option_list, other_items_in, other_members_in, path_of, placed_items, found_valid, is_choice, reached, spans, tested, valid_of}
use Rattle.neldrafi_schema.specs.Schemas.{Rule, types, among, equal_to, limited, multiple_of, sized, distinct, required, reference, all_of, dependent, properties, matching, other_members, no_other_members, member_names, placed, other_items, no_other_items, negation, any_of, one_of, contains, where_valid, where_not_valid, condition, unevaluated, held, Branch, Keyword, Schema, rule}
use Rattle.neldrafi_schema.specs.machine.Compiled.{target_of, targets_of}
use Rattle.neldrafi_schema.specs.machine.Left.{AreSpans, EndsHere}
use Rattle.neldrafi_schema.specs.Meaning.{Below}
use Rattle.neldrafi_schema.proofs.Fitting.{and_left, and_right}
use Rattle.neldrafi_schema.proofs.Keeping.{all_weaker}
use Rattle.neldrafi_schema.proofs.Within.{Deep, Hold, applied_hold, spans_hold, tested_hold}

abbrev Enters : Target → Type 0
Enters t = t.inside ≡ [] → ⊥

abbrev All : List Target → Type 0
All ts = AllByRecursion Enters ts

both_enter : (ts us : List Target) → All ts → All us → All (ts ++ us)
both_enter [] us p q = q
both_enter (t ∷ ts) us p q = (p.0, both_enter ts us p.1 q)

members_enter : (ms : List (List ℕ × Data)) (b : Branch) → All (on_members ms b)
members_enter [] b = tt
members_enter (m ∷ ms) b = ((λ e. cc), members_enter ms b)

items_enter : (is : List (ℕ × Data)) (b : Branch) → All (on_items is b)
items_enter [] b = tt
items_enter (i ∷ is) b = ((λ e. cc), items_enter is b)

abbrev made : ℕ → Path → Path → Data → Target
made n way inside v = record { schema = n; value = v; way = way; inside = inside }

one_enters : (n : ℕ) (way inside : Path) → (inside ≡ [] → ⊥) → (o : Option Data) → All (map (made n way inside) (option_list o))
one_enters n way inside some None = tt
one_enters n way inside some (Some v) = (some, tt)

at_enters : (d : Data) (n : ℕ) (way : Path) (k : Option Segment) → All (map (made n way (path_of k)) (option_list (option_and_then (λ s. child s d) k)))
at_enters d n way None = tt
at_enters d n way (Some s) = one_enters n way (s ∷ []) (λ e. cc) (child s d)

child_enters : (d : Data) (b : Branch) → All (on_child d b)
child_enters d b = at_enters d b.schema (path_of b.key) b.key

flat_enter : (f : Branch → List Target) → ((b : Branch) → All (f b)) → (bs : List Branch) → All (flat_map f bs)
flat_enter f h [] = tt
flat_enter f h (b ∷ bs) = both_enter (f b) (flat_map f bs) (h b) (flat_enter f h bs)

matched_enter : (d : Data) (ps : List (List Assertion)) (bs : List Branch) → All (on_matched d ps bs)
matched_enter d [] bs = tt
matched_enter d (p ∷ ps) [] = tt
matched_enter d (p ∷ ps) (b ∷ bs) = both_enter _ (on_matched d ps bs) (members_enter _ b) (matched_enter d ps bs)

valid_enter : (ts : List Target) (vs : List Bool) → All ts → All (valid_of ts vs)
valid_enter [] vs all = tt
valid_enter (t ∷ ts) [] all = tt
valid_enter (t ∷ ts) (true ∷ vs) all = (all.0, valid_enter ts vs all.1)
valid_enter (t ∷ ts) (false ∷ vs) all = valid_enter ts vs all.1

module _ (d : Data) where
  tested_enter : (r : Rule) (bs : List Branch) → is_in_place r ≡ false → All (tested r bs d)
  tested_enter (types f ts) bs e = tt
  tested_enter (among ds) bs e = tt
  tested_enter (equal_to v) bs e = tt
  tested_enter (limited l m) bs e = tt
  tested_enter (multiple_of m) bs e = tt
  tested_enter (sized s n) bs e = tt
  tested_enter distinct bs e = tt
  tested_enter (required names) bs e = tt
  tested_enter reference bs e = absurd (false≢true (sym e))
  tested_enter all_of bs e = absurd (false≢true (sym e))
  tested_enter (dependent names) bs e = absurd (false≢true (sym e))
  tested_enter properties bs e = tt
  tested_enter (matching ps) bs e = tt
  tested_enter other_members bs e = tt
  tested_enter no_other_members bs e = tt
  tested_enter member_names bs e = tt
  tested_enter placed bs e = tt
  tested_enter other_items bs e = tt
  tested_enter no_other_items bs e = tt
  tested_enter (negation schema) bs e = absurd (false≢true (sym e))
  tested_enter any_of bs e = absurd (false≢true (sym e))
  tested_enter one_of bs e = absurd (false≢true (sym e))
  tested_enter (contains least most counts) bs e = flat_enter (on_items (placed_items d)) (items_enter (placed_items d)) bs
  tested_enter where_valid bs e = absurd (false≢true (sym e))
  tested_enter where_not_valid bs e = absurd (false≢true (sym e))
  tested_enter condition bs e = absurd (false≢true (sym e))
  tested_enter (unevaluated x) bs e = tt
  tested_enter held bs e = tt

  applied_enter : (beside : List Keyword) (r : Rule) (bs : List Branch) (vs : List Bool) → is_in_place r ≡ false → counts_nothing r ≡ false → All (applied beside r bs d vs)
  applied_enter beside (types f ts) bs vs e c = tt
  applied_enter beside (among ds) bs vs e c = tt
  applied_enter beside (equal_to v) bs vs e c = tt
  applied_enter beside (limited l m) bs vs e c = tt
  applied_enter beside (multiple_of m) bs vs e c = tt
  applied_enter beside (sized s n) bs vs e c = tt
  applied_enter beside distinct bs vs e c = tt
  applied_enter beside (required names) bs vs e c = tt
  applied_enter beside reference bs vs e c = absurd (false≢true (sym e))
  applied_enter beside all_of bs vs e c = absurd (false≢true (sym e))
  applied_enter beside (dependent names) bs vs e c = absurd (false≢true (sym e))
  applied_enter beside properties bs vs e c = flat_enter (on_child d) (child_enters d) bs
  applied_enter beside (matching ps) bs vs e c = matched_enter d ps bs
  applied_enter beside other_members bs vs e c = flat_enter (on_members (other_members_in beside d)) (members_enter (other_members_in beside d)) bs
  applied_enter beside no_other_members bs vs e c = tt
  applied_enter beside member_names bs vs e c = absurd (false≢true (sym c))
  applied_enter beside placed bs vs e c = flat_enter (on_child d) (child_enters d) bs
  applied_enter beside other_items bs vs e c = flat_enter (on_items (other_items_in beside d)) (items_enter (other_items_in beside d)) bs
  applied_enter beside no_other_items bs vs e c = tt
  applied_enter beside (negation schema) bs vs e c = absurd (false≢true (sym e))
  applied_enter beside any_of bs vs e c = absurd (false≢true (sym e))
  applied_enter beside one_of bs vs e c = absurd (false≢true (sym e))
  applied_enter beside (contains least most counts) bs vs e c = tt
  applied_enter beside where_valid bs vs e c = absurd (false≢true (sym e))
  applied_enter beside where_not_valid bs vs e c = absurd (false≢true (sym e))
  applied_enter beside condition bs vs e c = absurd (false≢true (sym e))
  applied_enter beside (unevaluated x) bs vs e c = tt
  applied_enter beside held bs vs e c = tt

  chosen : (P : Target → Type 0) (b : Bool) (ts : List Target) → (b ≡ false → AllByRecursion P ts) → AllByRecursion P (if b then [] else ts)
  chosen P true ts h = tt
  chosen P false ts h = h refl

  module _ (schemas : List Schema) (steps : ℕ) (beside : List Keyword) (word : List ℕ) (r : Rule) (bs : List Branch) (vs : List Bool)
      (end : list_all (ends schemas steps) (in_place (rule word r bs)) ≡ true) where
    abbrev IsHere : ℕ → Data → Type 0
    IsHere n v = (ends schemas steps n ≡ true) × (v ≡ d)

    each_here : (cs : List Branch) → list_all (ends schemas steps) (schemas_in cs) ≡ true → AllByRecursion (λ b. IsHere b.schema d) cs
    each_here [] e = tt
    each_here (b ∷ cs) e = ((and_left _ _ e, refl), each_here cs (and_right (ends schemas steps b.schema) _ e))

    all_here : is_in_place r ≡ true → Hold IsHere (spans beside r bs d vs)
    all_here is =
        let here : is_in_place r ≡ true → AllByRecursion (λ b. IsHere b.schema d) bs = λ h. each_here bs (rw h at end) in
        let below : is_in_place r ≡ false → AllByRecursion (Deep IsHere d) bs = λ h. absurd (false≢true (sym h ∙ is)) in
        spans_hold IsHere d beside r bs vs (tested_hold IsHere d r bs here below) (applied_hold IsHere d beside r bs vs here below)

    none_here : is_in_place r ≡ false → All (spans beside r bs d vs)
    none_here is = chosen Enters (counts_nothing r) (reached beside r bs d vs) (λ c.
        both_enter (found_valid r bs d vs) (applied beside r bs d vs)
        (chosen Enters (is_choice r) (valid_of (tested r bs d) vs) (λ e. valid_enter (tested r bs d) vs (tested_enter r bs is))) (applied_enter beside r bs vs is c))

    by_place : (b : Bool) → is_in_place r ≡ b → AllByRecursion (EndsHere schemas steps d) (spans beside r bs d vs)
    by_place true is = all_weaker _ _ (λ t p e. p) (spans beside r bs d vs) (all_here is)
    by_place false is = all_weaker _ _ (λ t n e. absurd (n e)) (spans beside r bs d vs) (none_here is)

    pub spans_end : AllByRecursion (EndsHere schemas steps d) (spans beside r bs d vs)
    spans_end = by_place (is_in_place r) refl

  span_at : (P : Target → Type 0) (items : List FoundTarget) (i : ℕ) (t : FoundTarget) → AllByRecursion P (targets_of items) → i < length items → t ≡ get_or items i t → P (target_of t)
  span_at P [] i t all h e = absurd (omega arith)
  span_at P (u ∷ items) zero t all h e = subst (λ x. P (target_of x)) (sym e) all.0
  span_at P (u ∷ items) (suc i) t all h e = span_at P items i t all.1 (omega arith) e

  pub span_ends : (schemas : List Schema) (below : Below) (steps : ℕ) (beside : List Keyword) (word : List ℕ) (r : Rule) (bs : List Branch) (items : List FoundTarget) (i : ℕ) (t : FoundTarget)
      → list_all (ends schemas steps) (in_place (rule word r bs)) ≡ true → AreSpans below beside (rule word r bs) d (targets_of items)
      → i < length items → t ≡ get_or items i t → EndsHere schemas steps d (target_of t)
  span_ends schemas below steps beside word r bs items i t end (vs, tests, e) = span_at (EndsHere schemas steps d) items i t
      (subst (AllByRecursion (EndsHere schemas steps d)) (sym e) (spans_end schemas steps beside word r bs vs end))
