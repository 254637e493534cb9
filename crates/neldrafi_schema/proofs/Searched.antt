-- A binary search among branches whose keys are in order.
use Rattle.std.proofs.Common.{◌≡◌, ◌∙◌, ℕ, zero, suc, ◌+◌, ◌<◌, List, [], ◌∷◌, length, get_or, refl, sym, ap, arith, Bool, true, false, Option, None, Some, inl, inr, string_bytes}
use Rattle.std.proofs.lemmas.Bool.{cases_lt, false≢true, or_from, or_left, or_right}
use Rattle.std.proofs.lemmas.Cmp.{nat_list_cmp_total}
use Rattle.std.proofs.lemmas.List.Sorted.{searchable_from_sorted}
use Rattle.std.proofs.lemmas.Map.Text.{is_eq-slice_cmp}
use Rattle.std.specs.Prelude.{IsTrue, option_map}
use Rattle.std.specs.Cmp.Lexicographic.{slice_cmp}
use Rattle.std.specs.List.{IsAllAdjacentAnswer, list_any}
use Rattle.std.specs.List.Sorted.{IsNonDecreasingBy, IsPartitionPoint}
use Rattle.std.specs.Ordering.{is_eq, is_le, is_lt, nat_cmp, ordering_index, ordering_reverse}
use Rattle.std.specs.declared.cmp.Ordering.{Ordering}
use Rattle.std.specs.declared.cmp.Ordering.TheVariants.{Less, Equal, Greater}
use Rattle.neldrafi_schema.specs.declared.node.Branch.{Branch}
use Rattle.neldrafi_schema.specs.declared.segment.Segment.{Segment}
use Rattle.neldrafi_schema.specs.declared.segment.Segment.TheVariants.{Key, Place, Document}
use Rattle.neldrafi_schema.specs.Rules.{is_named}
use Rattle.neldrafi_schema.specs.machine.Compiled.{branches_of, segment_of}
use Rattle.neldrafi_schema.specs.machine.Ordered.{AreInOrder, name_in}

abbrev cmp : List ℕ → List ℕ → Ordering
cmp = slice_cmp nat_cmp

rises : (o : Ordering) → true ≡ is_le o → is_lt (ordering_reverse o) ≡ false
rises Less h = refl
rises Equal h = refl
rises Greater h = absurd (false≢true (sym h))

-- keys of which each is at most the next
pub in_order : (bs : List Branch) (r : Bool) → IsAllAdjacentAnswer (λ x y b. b ≡ is_le (cmp (name_in x.key) (name_in y.key))) bs r → IsTrue r → AreInOrder bs
in_order bs true answer h = λ k d low below. ap is_lt (nat_list_cmp_total.antisymm (name_in (get_or bs (k + 1) d).key) (name_in (get_or bs k d).key)) ∙ rises _ (answer k d below)
in_order bs false answer h = absurd (false≢true h)

-- a key that does not compare as equal is another one
unnamed : (name : List ℕ) (k : Option Segment) (o : Ordering) → cmp (name_in k) name ≡ o → is_eq (ordering_reverse o) ≡ false → is_named name (option_map segment_of k) ≡ false
unnamed name None o e other = refl
unnamed name (Some (Key n)) o e other =
    sym (is_eq-slice_cmp name (string_bytes n)) ∙ ap is_eq (nat_list_cmp_total.antisymm name (string_bytes n) ∙ ap ordering_reverse e) ∙ other
unnamed name (Some (Place n)) o e other = refl
unnamed name (Some (Document n)) o e other = refl

none_named : (name : List ℕ) (bs : List Branch) → ((k : ℕ) (d : Branch) → k < length bs → is_named name (option_map segment_of (get_or bs k d).key) ≡ false)
    → list_any (λ b. is_named name b.key) (branches_of bs) ≡ false
none_named name [] each = refl
none_named name (b ∷ bs) each = or_from _ _ (each 0 b (omega arith)) (none_named name bs (λ k d below. each (suc k) d (omega arith)))

-- what a search does not find is not there
pub not_there : (name : List ℕ) (bs : List Branch) (i : ℕ) → AreInOrder bs
    → (IsNonDecreasingBy (λ b. ordering_index (cmp (name_in b.key) name)) bs
    → IsPartitionPoint (λ b. cmp (name_in b.key) name ≡ Less) (λ b. cmp (name_in b.key) name ≡ Greater) bs i)
    → list_any (λ b. is_named name b.key) (branches_of bs) ≡ false
not_there name bs i order parted =
    let parts = parted (searchable_from_sorted nat_list_cmp_total (λ b. name_in b.key) bs name order) in
    none_named name bs (λ k d below. elim (cases_lt k i) [
      | inl before ↦ unnamed name (get_or bs k d).key Less (parts.0 k d (omega arith) before) refl
      | inr past ↦ unnamed name (get_or bs k d).key Greater (parts.1 k d past below) refl
    ])

-- one that has the name
pub there : (name : List ℕ) (bs : List Branch) (i : ℕ) (d : Branch) → i < length bs → is_named name (option_map segment_of (get_or bs i d).key) ≡ true
    → list_any (λ b. is_named name b.key) (branches_of bs) ≡ true
there name [] i d below named = absurd (omega arith)
there name (b ∷ bs) zero d below named = or_left _ _ named
there name (b ∷ bs) (suc i) d below named = or_right _ _ (there name bs i d (omega arith) named)
