-- A name is looked for spelling by spelling, each beside its value.
use Rattle.std.proofs.Common.{◌≡◌, ℕ, ◌+◌, ◌<◌, ◌≤◌, Bool, true, false, List, map, drop, length, get_or, bytes_eq, Option, Some, None, Bor}
use Rattle.std.proofs.Common.{if◌then◌else◌, sym, ap, ◌∙◌, arith}
use Rattle.std.specs.List.{zip}
use Rattle.std.proofs.lemmas.List.{at_drop_more, at_drop_all}
use Rattle.std.proofs.lemmas.Slice.Zip.{length-zip, get_or-zip}
use Rattle.ucd_sets.specs.Loose.{value_named}

module _ {V : Type 0} (spellings : List (Bor (List ℕ))) (values : List V) (name : List ℕ) (k : ℕ) where
  -- the value that the rows from number i on have for the name
  abbrev rest : ℕ → Option V
  rest i = value_named (map (λ row. (row.0.now, row.1)) (drop i (zip spellings values))) name

  module _ (spelling : Bor (List ℕ)) (value : V)
      (at : (k < length spellings) × (k < length values)
      × ((d : Bor (List ℕ)) → spelling ≡ get_or spellings k d) × ((d : V) → value ≡ get_or values k d))
      (same : Bool) (test : same ≡ bytes_eq spelling.now name) where
    -- the row at k
    row_at : get_or (zip spellings values) k (spelling, value) ≡ (spelling, value)
    row_at =
        get_or-zip spellings values k (spelling, value) at.0 at.1
        ∙ sym (ap (λ s. (s, value)) (at.2 spelling) ∙ ap (λ v. (get_or spellings k spelling, v)) (at.3 value))

    -- it is that of the row at k where this has the name, and that of the rows behind it elsewhere
    turn : rest k ≡ (if same then Some value else rest (k + 1))
    unfolding value_named
    turn =
        let within : k < length (zip spellings values) = omega (arith, at.0, at.1, length-zip spellings values) in
        at_drop_more (λ rows. value_named (map (λ row. (row.0.now, row.1)) rows) name) (zip spellings values) k (spelling, value) within
        ∙ ap (λ r. if bytes_eq r.0.now name then Some r.1 else rest (k + 1)) row_at
        ∙ ap (λ (b : Bool). if b then Some value else rest (k + 1)) (sym test)

    -- where the row has the name, its value is the one
    pub found : same ≡ true → Some value ≡ rest k
    found e = sym (turn ∙ ap (λ (b : Bool). if b then Some value else rest (k + 1)) e)

    -- where it has not, the value is that of the rows behind it
    pub passed : same ≡ false → rest k ≡ rest (k + 1)
    passed e = turn ∙ ap (λ (b : Bool). if b then Some value else rest (k + 1)) e

  -- behind the last row there is no value
  pub missed : length (zip spellings values) ≤ k → None ≡ rest k
  unfolding value_named
  missed h = sym (at_drop_all (λ rows. value_named (map (λ row. (row.0.now, row.1)) rows) name) (zip spellings values) k h)
