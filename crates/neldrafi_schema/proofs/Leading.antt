-- The leads to what is in an array or an object.
use Rattle.std.proofs.Common.{◌≡◌, ℕ, suc, ◌+◌, ◌<◌, List, [], ◌∷◌, ◌++◌, map, refl, sym, ap, ◌∙◌, subst, append-nil, add-one, drop, drop-cons, get_or, length, None, Some, Option, inl, inr, true}
use Rattle.std.specs.Prelude.{option_map}
use Rattle.std.specs.List.{AllByRecursion}
use Rattle.serde_json.specs.Data.{Data, Members, no_members, member, object}
use Rattle.serde_json.specs.Find.{get_member}
use Rattle.serde_json.specs.View.{items_view, view}
use Rattle.serde_json.specs.declared.value.Value.{Value}
use Rattle.strkw_report.specs.declared.draft.Draft.{Draft}
use Rattle.neldrafi_schema.specs.declared.node.Dependency.{Dependency as CompiledDependency}
use Rattle.neldrafi_schema.specs.Schemas.{Dependency}
use Rattle.neldrafi_schema.specs.machine.Compiled.{dependency_of}
use Rattle.neldrafi_schema.specs.declared.leads.Lead.{Lead as CompiledLead}
use Rattle.neldrafi_schema.specs.Documents.{Documents, value_in}
use Rattle.neldrafi_schema.specs.Paths.{Path, Segment, key, place, child}
use Rattle.neldrafi_schema.specs.Values.{Lead, dependencies_in, dependent_names, is_array, item_leads, lead_below, lead_to, names_in}
use Rattle.neldrafi_schema.specs.machine.Places.{IsPlace, place_path}
use Rattle.neldrafi_schema.specs.machine.Said.{lead_of}
use Rattle.neldrafi_schema.proofs.Finding.{IsAmong, value_below}
use Rattle.neldrafi_schema.proofs.Keeping.{all_more}
use Rattle.neldrafi_schema.proofs.Lists.{mapped_more}

-- a lead to what is at a step of a value
pub lead_there : (documents : Documents) (at : Path) (s : Segment) (d v : Data) (l : CompiledLead) → lead_of l ≡ lead_below at s → view l.place.value.now ≡ v
    → value_in documents at ≡ Some d → child s d ≡ Some v → IsPlace documents l.place
lead_there documents at s d v l same value there found =
    let path : place_path l.place ≡ at ++ s ∷ [] = ap (λ x. x.path) same in
    rw (path, value) (value_below at documents s d v there found)

module _ (at : Path) (whole : Data) where
  abbrev pub AreThere : List CompiledLead → Type 0
  AreThere ls = (documents : Documents) → value_in documents at ≡ Some whole → AllByRecursion (λ l. IsPlace documents l.place) ls

  pub one_there : (ls more : List CompiledLead) (l : CompiledLead) (s : Segment) (v : Data) → AreThere ls → lead_of l ≡ lead_below at s → view l.place.value.now ≡ v
      → child s whole ≡ Some v → more ≡ ls ++ l ∷ [] → AreThere more
  one_there ls more l s v all same value found e = λ documents there.
      rw e (all_more (λ l. IsPlace documents l.place) ls l (all documents there) (lead_there documents at s whole v l same value there found))

-- the leads to some members so far
module _ (at : Path) (of : Members → List Lead) (all : Members) where
  pub record LeadsSoFar (rest : Members) (ls : List CompiledLead) : Type 0 where
    pub said : map lead_of ls ++ of rest ≡ of all
    pub found : (name : List ℕ) (d : Data) → IsAmong name d rest → get_member name all ≡ Some d
    pub there : AreThere at (object all) ls

  pub no_leads : ((name : List ℕ) (d : Data) → IsAmong name d all → get_member name all ≡ Some d) → LeadsSoFar all []
  no_leads found = record { said = refl; found = found; there = λ documents there. tt }

  pub one_lead : (name : List ℕ) (d : Data) (rest : Members) (ls more : List CompiledLead) (l : CompiledLead) → LeadsSoFar (member name d rest) ls
      → of (member name d rest) ≡ lead_below at (key name) ∷ of rest → lead_of l ≡ lead_below at (key name) → view l.place.value.now ≡ d → more ≡ ls ++ l ∷ []
      → LeadsSoFar rest more
  one_lead name d rest ls more l so_far first same value e = record {
    said = mapped_more lead_of ls more l (lead_below at (key name)) (of rest) (of all) (ap (λ x. map lead_of ls ++ x) (sym first) ∙ so_far.said) same e;
    found = λ other v is. so_far.found other v (inr is);
    there = one_there at (object all) ls more l (key name) d so_far.there same value (so_far.found name d (inl (refl, refl))) e;
  }

  pub not_led_to : (name : List ℕ) (d : Data) (rest : Members) (ls : List CompiledLead) → LeadsSoFar (member name d rest) ls
      → of (member name d rest) ≡ of rest → LeadsSoFar rest ls
  not_led_to name d rest ls so_far first = record {
    said = ap (λ x. map lead_of ls ++ x) (sym first) ∙ so_far.said;
    found = λ other v is. so_far.found other v (inr is);
    there = so_far.there;
  }

  pub all_leads : (ls : List CompiledLead) → LeadsSoFar no_members ls → of no_members ≡ [] → map lead_of ls ≡ of all
  all_leads ls so_far end = sym (append-nil (map lead_of ls)) ∙ ap (λ x. map lead_of ls ++ x) (sym end) ∙ so_far.said

-- one more item of an array
pub item_led_to : (at : Path) (items : List Value) (i : ℕ) (v : Value) (ls more : List CompiledLead) (l : CompiledLead) (all : List Lead) → i < length items
    → v ≡ get_or items i v → map lead_of ls ++ item_leads at i (items_view (drop i items)) ≡ all → lead_of l ≡ lead_below at (place i) → more ≡ ls ++ l ∷ []
    → map lead_of more ++ item_leads at (i + 1) (items_view (drop (i + 1) items)) ≡ all
item_led_to at items i v ls more l all h is before same e =
    let front : drop i items ≡ v ∷ drop (suc i) items = drop-cons items i v h ∙ ap (λ w. w ∷ drop (suc i) items) (sym is) in
    rw add-one (mapped_more lead_of ls more l (lead_below at (place i)) (item_leads at (suc i) (items_view (drop (suc i) items))) all
    (subst (λ vs. map lead_of ls ++ item_leads at i (items_view vs) ≡ all) front before) same e)

-- one name more that requires others
pub one_dependency : (draft : Draft) (name : List ℕ) (d : Data) (rest : Members) (xs more : List CompiledDependency) (x : CompiledDependency) (required : List (List ℕ))
    (all : Option (List Dependency)) → option_map (λ later. map dependency_of xs ++ later) (dependencies_in draft (member name d rest)) ≡ all
    → is_array d ≡ true → names_in draft d ≡ Some required → dependency_of x ≡ (name, required) → more ≡ xs ++ x ∷ []
    → option_map (λ later. map dependency_of more ++ later) (dependencies_in draft rest) ≡ all
one_dependency draft name d rest xs more x required all before is names same e = by (dependencies_in draft rest) ∙ (rw (is, names) at before) where
  by : (o : Option (List Dependency)) → option_map (λ later. map dependency_of more ++ later) o
      ≡ option_map (λ later. map dependency_of xs ++ later) (option_map (λ later. (name, required) ∷ later) o)
  by None = refl
  by (Some later) = ap Some (mapped_more dependency_of xs more x (name, required) later (map dependency_of xs ++ (name, required) ∷ later) refl same e)

-- the same where each member has names
pub one_requirement : (draft : Draft) (name : List ℕ) (d : Data) (rest : Members) (xs more : List CompiledDependency) (x : CompiledDependency) (required : List (List ℕ))
    (all : Option (List Dependency)) → option_map (λ later. map dependency_of xs ++ later) (dependent_names draft (member name d rest)) ≡ all
    → names_in draft d ≡ Some required → dependency_of x ≡ (name, required) → more ≡ xs ++ x ∷ []
    → option_map (λ later. map dependency_of more ++ later) (dependent_names draft rest) ≡ all
one_requirement draft name d rest xs more x required all before names same e = by (dependent_names draft rest) ∙ (rw names at before) where
  by : (o : Option (List Dependency)) → option_map (λ later. map dependency_of more ++ later) o
      ≡ option_map (λ later. map dependency_of xs ++ later) (option_map (λ later. (name, required) ∷ later) o)
  by None = refl
  by (Some later) = ap Some (mapped_more dependency_of xs more x (name, required) later (map dependency_of xs ++ (name, required) ∷ later) refl same e)

-- a lead with no key stands at its path
pub only_lead : (l : CompiledLead) (at : Path) → lead_of l ∷ [] ≡ lead_to at → place_path l.place ≡ at
only_lead l at e = ap (λ ls. path_of_first ls) e where
  path_of_first : List Lead → Path
  path_of_first [] = []
  path_of_first (l ∷ ls) = l.path
