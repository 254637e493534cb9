-- The schema objects of what is in an array or an object.
use Rattle.std.proofs.Common.{◌≡◌, ◌∙◌, ◌+◌, ◌<◌, ℕ, suc, List, [], ◌∷◌, ◌++◌, ap, sym, subst, add-one, append_assoc, drop, drop-cons, get_or, length}
use Rattle.serde_json.specs.Data.{Data, Members, member}
use Rattle.serde_json.specs.View.{items_view, view}
use Rattle.serde_json.specs.declared.value.Value.{Value}
use Rattle.strkw_report.specs.declared.draft.Draft.{Draft}
use Rattle.neldrafi_schema.specs.declared.known.Holding.{Holding}
use Rattle.neldrafi_schema.specs.Drafts.{known_named}
use Rattle.neldrafi_schema.specs.Paths.{Path, key, place}
use Rattle.neldrafi_schema.specs.Resources.{held_by, holding, of_items, of_keyed, of_members, schema_objects}

-- what comes next is appended, and completes the same list with what is left
found_more : (found more next rest all : List (Path × Members)) → found ++ (next ++ rest) ≡ all → more ≡ found ++ next → more ++ rest ≡ all
found_more found more next rest all so_far e = ap (λ is. is ++ rest) e ∙ append_assoc found next rest ∙ so_far

module _ (draft : Draft) (path below : Path) (found more all : List (Path × Members)) where
  -- one item more
  pub item_listed : (vs : List Value) (i : ℕ) (v : Value) → i < length vs → v ≡ get_or vs i v → below ≡ path ++ place i ∷ []
      → found ++ of_items draft path i (items_view (drop i vs)) ≡ all → more ≡ found ++ schema_objects draft below (view v)
      → more ++ of_items draft path (i + 1) (items_view (drop (i + 1) vs)) ≡ all
  item_listed vs i v inside is there so_far e =
      let front : drop i vs ≡ v ∷ drop (suc i) vs = drop-cons vs i v inside ∙ ap (λ w. w ∷ drop (suc i) vs) (sym is) in
      let next = schema_objects draft (path ++ place i ∷ []) (view v) in
      rw add-one (found_more found more next (of_items draft path (suc i) (items_view (drop (suc i) vs))) all
      (subst (λ ws. found ++ of_items draft path i (items_view ws) ≡ all) front so_far) (e ∙ ap (λ p. found ++ schema_objects draft p (view v)) there))

  -- one member more, whose value has schemas as its keyword says
  pub member_listed : (members : Members) (name : List ℕ) (d : Data) (rest : Members) (h : Holding) → h ≡ holding (known_named draft members name)
      → below ≡ path ++ key name ∷ [] → found ++ of_members draft path members (member name d rest) ≡ all
      → more ≡ found ++ held_by h (schema_objects draft below d) (of_keyed draft below d) → more ++ of_members draft path members rest ≡ all
  member_listed members name d rest h is there so_far e =
      let held = λ (g : Holding) (p : Path). held_by g (schema_objects draft p d) (of_keyed draft p d) in
      found_more found more (held (holding (known_named draft members name)) (path ++ key name ∷ [])) (of_members draft path members rest) all so_far
      (e ∙ ap (λ p. found ++ held h p) there ∙ ap (λ g. found ++ held g (path ++ key name ∷ [])) is)
