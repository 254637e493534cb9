-- Members that are put into an object, one after the other.
use Rattle.std.proofs.Common.{◌≡◌, ◌∙◌, ℕ, ◌+◌, ◌<◌, ◌≤◌, ◌∷◌, List, length, get_or, drop, Bor, sym, ap}
use Rattle.std.proofs.lemmas.List.{drop_all, drop_more}
use Rattle.serde_json.specs.Data.{Data, Members, put}
use Rattle.neldrafi_check.specs.Objects.{data_of, with_members}
use Rattle.neldrafi_check.specs.declared.objects.Datum.{Datum}

module _ (ms : List (Bor (List ℕ) × Datum)) (i : ℕ) where
  -- with the next member put in, the rest makes of the object what it made with that member
  pub put_next : (m : Bor (List ℕ) × Datum) (value : Data) (old new : Members) → i < length ms
      → m ≡ get_or ms i m → value ≡ data_of m.1 → new ≡ put m.0.now value old
      → with_members (drop (i + 1) ms) new ≡ with_members (drop i ms) old
  put_next m value old new less is is_value is_new =
      ap (with_members (drop (i + 1) ms)) (is_new ∙ ap (λ d. put m.0.now d old) is_value)
      ∙ ap (λ x. with_members (x ∷ drop (i + 1) ms) old) is
      ∙ ap (λ rest. with_members rest old) (sym (drop_more ms i m less))

  -- with none left, the object stays as it is
  pub none_left : length ms ≤ i → (old : Members) → with_members (drop i ms) old ≡ old
  none_left past old = ap (λ rest. with_members rest old) (drop_all i ms past)
