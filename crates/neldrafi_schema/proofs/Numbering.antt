-- Leads that are numbered, one after the other.
use Rattle.std.proofs.Common.{◌≡◌, ◌<◌, List, [], ◌∷◌, ◌++◌, length, map, refl, sym, ap, ◌∙◌, subst, append_assoc, append-nil}
use Rattle.std.proofs.lemmas.List.{map-append}
use Rattle.std.proofs.lemmas.Option.{slice_get_within}
use Rattle.std.specs.Prelude.{option_map}
use Rattle.std.specs.List.{AllByRecursion}
use Rattle.neldrafi_schema.specs.declared.node.Branch.{Branch as CompiledBranch}
use Rattle.neldrafi_schema.specs.declared.places.Places.{Places}
use Rattle.neldrafi_schema.specs.declared.leads.Lead.{Lead as CompiledLead}
use Rattle.neldrafi_schema.specs.Scopes.{Scope, ScopedPath}
use Rattle.neldrafi_schema.specs.Reading.{AreNumbered, numbered_by}
use Rattle.neldrafi_schema.specs.Schemas.{Branch}
use Rattle.neldrafi_schema.specs.machine.Compiled.{branch_of, branches_of, segment_of}
use Rattle.neldrafi_schema.specs.machine.Places.{documents_of, Extends, Grown, IsPlace, IsTable, StaysAt, place_path, scoped_paths}
use Rattle.neldrafi_schema.specs.machine.Said.{lead_of}
use Rattle.neldrafi_schema.proofs.Keeping.{all_more, extends_both}
use Rattle.neldrafi_schema.proofs.Tables.{grown_both, grown_itself}

module _ (start : Places) (scope : Scope) (leads : List CompiledLead) where
  -- with leads that are still to be numbered
  pub record NumberedSoFar (rest : List CompiledLead) (places : Places) (bs : List CompiledBranch) : Type 0 where
    pub grown : Grown start places
    pub there : AllByRecursion (λ l. IsPlace (documents_of start.documents) l.place) rest
    pub goes_on : (all : List ScopedPath) → Extends (scoped_paths places.places.items) all → (later : List Branch)
        → AreNumbered (numbered_by all scope) (map lead_of rest) later → AreNumbered (numbered_by all scope) (map lead_of leads) (branches_of bs ++ later)
    pub inside : (all : List ScopedPath) → Extends (scoped_paths places.places.items) all → AllByRecursion (λ b. b.schema < length all) bs

  pub none_numbered : IsTable start → AllByRecursion (λ l. IsPlace (documents_of start.documents) l.place) leads → NumberedSoFar leads start []
  none_numbered table there = record { grown = grown_itself start table; there = there; goes_on = λ all extends later are. are; inside = λ all extends. tt }

  pub one_numbered : (l : CompiledLead) (rest : List CompiledLead) (places next : Places) (bs more : List CompiledBranch) (b : CompiledBranch)
      → NumberedSoFar (l ∷ rest) places bs → Grown places next → StaysAt (scoped_paths next.places.items) b.schema scope (place_path l.place) → b.key ≡ l.key
      → more ≡ bs ++ b ∷ [] → NumberedSoFar rest next more
  one_numbered l rest places next bs more b so_far grown stays key e = record {
    grown = grown_both start places next so_far.grown grown;
    there = so_far.there.1;
    goes_on = λ all extends later are.
        let same : branch_of b ∷ later ≡ record { key = (lead_of l).key; schema = b.schema } ∷ later =
        ap (λ k. record { key = option_map segment_of k; schema = b.schema } ∷ later) key in
        let before = so_far.goes_on all (extends_both (scoped_paths places.places.items) (scoped_paths next.places.items) all grown.extends extends)
        (branch_of b ∷ later) (b.schema, later, stays all extends, are, same) in
        subst (AreNumbered (numbered_by all scope) (map lead_of leads))
        (sym (ap (λ l. branches_of l ++ later) e ∙ ap (λ l. l ++ later) (map-append branch_of bs (b ∷ []))
        ∙ append_assoc (branches_of bs) (branch_of b ∷ []) later)) before;
    inside = λ all extends.
        subst (AllByRecursion (λ b. b.schema < length all)) (sym e) (all_more (λ b. b.schema < length all) bs b
        (so_far.inside all (extends_both (scoped_paths places.places.items) (scoped_paths next.places.items) all grown.extends extends))
        (slice_get_within all b.schema (record { scope = scope; path = place_path l.place }) (stays all extends)));
  }

  pub all_numbered : (places : Places) (bs : List CompiledBranch) → NumberedSoFar [] places bs → (all : List ScopedPath) → Extends (scoped_paths places.places.items) all
      → AreNumbered (numbered_by all scope) (map lead_of leads) (branches_of bs)
  all_numbered places bs so_far all extends =
      subst (AreNumbered (numbered_by all scope) (map lead_of leads)) (append-nil (branches_of bs)) (so_far.goes_on all extends [] refl)
