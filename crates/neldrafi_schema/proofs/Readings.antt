-- What was read of the schemas of documents so far.
use Rattle.std.proofs.Common.{◌≡◌, ◌⊎◌, ℕ, zero, suc, ◌+◌, ◌<◌, ◌≤◌, List, [], ◌∷◌, ◌++◌, length, take, map, refl, sym, ap, ◌∙◌, subst, inl, inr, arith, Bool, length-append, Some, None, Option}
use Rattle.std.proofs.Math.Path.{ap₂}
use Rattle.std.proofs.lemmas.List.{map-append, length-map, take-append-le, take_all}
use Rattle.std.proofs.lemmas.Option.{slice_get-map, slice_get_within, get_or_from_slice_get}
use Rattle.std.specs.Prelude.{slice_get, option_map}
use Rattle.std.specs.List.{AllByRecursion}
use Rattle.serde_json.specs.View.{view}
use Rattle.strkw_pattern.specs.declared.engine.Outcome.{Outcome}
use Rattle.strkw_keywords.specs.Object.{Settings}
use Rattle.neldrafi_schema.specs.declared.node.Node.{Node}
use Rattle.neldrafi_schema.specs.declared.places.ScopedPlace.{ScopedPlace}
use Rattle.neldrafi_schema.specs.declared.places.Places.{Places}
use Rattle.neldrafi_schema.specs.declared.problem.Problem.{Problem}
use Rattle.neldrafi_schema.specs.Headers.{header_at}
use Rattle.neldrafi_schema.specs.Paths.{Path, document, location_of}
use Rattle.neldrafi_schema.specs.machine.Compiled.{header_of}
use Rattle.neldrafi_schema.specs.Reading.{BodySays, SchemaSays, Says, numbered_by, paths_in}
use Rattle.neldrafi_schema.specs.Refusals.{IsSaid, IsRefused, ends, problems, body_problems, schemas_endless, refused}
use Rattle.neldrafi_schema.specs.Schemas.{Schema}
use Rattle.neldrafi_schema.specs.Settings.{document_settings}
use Rattle.neldrafi_schema.specs.machine.Compiled.{schemas_of, schema_of}
use Rattle.neldrafi_schema.specs.machine.Places.{documents_of, Extends, Grown, IsPlace, IsTable, paths_of, place_path, scope_of, scoped_path, scoped_paths}
use Rattle.neldrafi_schema.specs.machine.Problems.{IsKept, Notes, problem_of}
use Rattle.neldrafi_schema.specs.machine.Ready.{IsBodyReady, IsReady, RestsOn}
use Rattle.neldrafi_schema.specs.machine.Said.{Reads}
use Rattle.neldrafi_schema.specs.Documents.{Documents, uri_at, value_in}
use Rattle.neldrafi_schema.specs.Scopes.{ScopedPath, entered}
use Rattle.neldrafi_schema.proofs.Keeping.{all_more, extends_itself, extends_both, stays, problems_more, problems_stay}
use Rattle.neldrafi_schema.proofs.Lists.{all_at, take_one}
use Rattle.neldrafi_schema.proofs.Tables.{paths_count}
use Rattle.neldrafi_schema.proofs.Meaningful.{meaningful_schema, ends_same, endless_same, endless_alike, schemas_all, nil_first, nil_second}
use Rattle.neldrafi_schema.proofs.Ways.{IsBodyDown, all_ways_end, body_down}

-- an element of a list with one more at its end
at_end : {A : Type 0} (xs : List A) (x y : A) (n : ℕ) → slice_get (xs ++ x ∷ []) n ≡ Some y → (slice_get xs n ≡ Some y) ⊎ ((n ≡ length xs) × (x ≡ y))
at_end [] x y zero e = inr (refl, cc)
at_end [] x y (suc n) e = cc
at_end (z ∷ xs) x y zero e = inl e
at_end (z ∷ xs) x y (suc n) e = further (at_end xs x y n e) where
  further : (slice_get xs n ≡ Some y) ⊎ ((n ≡ length xs) × (x ≡ y)) → (slice_get xs n ≡ Some y) ⊎ ((suc n ≡ suc (length xs)) × (x ≡ y))
  further (inl f) = inl f
  further (inr f) = inr (ap suc f.0, f.1)

-- the root, entered from no scope
abbrev pub root_path : ScopedPath
root_path = record { scope = []; path = document 0 ∷ [] }

-- a path without its scope, and back
path_at : (paths : List ScopedPath) (n : ℕ) (at : ScopedPath) → slice_get paths n ≡ Some at → slice_get (paths_in paths) n ≡ Some at.path
path_at paths n at e = slice_get-map (λ at. at.path) paths n ∙ ap (option_map (λ at. at.path)) e

scoped_at : (paths : List ScopedPath) (n : ℕ) (path : Path) → slice_get (paths_in paths) n ≡ Some path
    → (at : ScopedPath) × (slice_get paths n ≡ Some at) × (at.path ≡ path)
scoped_at [] n path e = cc
scoped_at (p ∷ paths) zero path e = (p, refl, cc)
scoped_at (p ∷ paths) (suc n) path e = scoped_at paths n path e

module _ {E : Type 0} (outcome : E → List ℕ → Outcome) (s : Settings) (documents : Documents) where
  -- with the draft of the schema
  abbrev pub settled : Settings
  settled = document_settings s documents.schema

  -- so many schemas were read
  pub record ReadDocument (places : Places) (nodes : List (Node E)) (first : Option Problem) (i : ℕ) : Type 0 where
    pub table : IsTable places
    pub whole : documents_of places.documents ≡ documents
    pub root : slice_get (scoped_paths places.places.items) 0 ≡ Some root_path
    pub within : i ≤ length places.places.items
    pub said : List Schema
    pub count : length said ≡ i
    pub headed : map (λ t. t.header) said ≡ map (header_at settled.draft documents) (take i (paths_of places.places.items))
    pub compiled : schemas_of outcome nodes ≡ map meaningful_schema said
    pub each : (all : List ScopedPath) → Extends (scoped_paths places.places.items) all → (n : ℕ) (at : ScopedPath) (t : Schema) → slice_get all n ≡ Some at
        → slice_get said n ≡ Some t → SchemaSays all settled documents at t.body
    pub kept : IsKept (problems (paths_of places.places.items) said) first
    pub ready : (all : List ScopedPath) → Extends (scoped_paths places.places.items) all
        → AllByRecursion (λ node. IsBodyReady outcome (RestsOn outcome s.lists) (length all) node.body) nodes

  pub nothing_read : (places : Places) → IsTable places → documents_of places.documents ≡ documents → scoped_paths places.places.items ≡ root_path ∷ []
      → ReadDocument places [] None 0
  nothing_read places table whole root = record {
    table = table;
    whole = whole;
    root = rw root refl;
    within = omega arith;
    said = [];
    count = refl;
    headed = refl;
    compiled = refl;
    each = λ all extends n at t there e. cc;
    kept = nothing (paths_of places.places.items);
    ready = λ all extends. tt;
  } where
    nothing : (paths : List Path) → problems paths [] ≡ []
    nothing [] = refl
    nothing (p ∷ paths) = refl

  module _ (places next : Places) (nodes more : List (Node E)) (first after : Option Problem) (i : ℕ) (place : ScopedPlace) (node : Node E)
      (read : ReadDocument places nodes first i) (there : slice_get places.places.items i ≡ Some place) (grown : Grown places next)
      (reads : (let scope = entered settled.draft documents (scope_of place.scope.items) (place_path place.place) in
      Reads outcome s.lists (λ numbered body. BodySays numbered settled documents scope (place_path place.place) (view place.place.value.now) body) scope
      (place_path place.place) (scoped_paths next.places.items) first after node.body))
      (headed : header_of node.header ≡ header_at settled.draft documents (place_path place.place)) (longer : more ≡ nodes ++ node ∷ []) where
    abbrev old_scoped : List ScopedPath
    old_scoped = scoped_paths places.places.items

    abbrev scoped : List ScopedPath
    scoped = scoped_paths next.places.items

    abbrev old_paths : List Path
    old_paths = paths_in old_scoped

    abbrev paths : List Path
    paths = paths_in scoped

    abbrev at : ScopedPath
    at = scoped_path place

    abbrev path : Path
    path = place_path place.place

    abbrev schema : Schema
    schema = record { header = header_at settled.draft documents path; body = reads.said }

    scoped_found : slice_get old_scoped i ≡ Some at
    scoped_found = slice_get-map scoped_path places.places.items i ∙ ap (option_map scoped_path) there

    found : slice_get old_paths i ≡ Some path
    found = path_at old_scoped i at scoped_found

    still_found : slice_get paths i ≡ Some path
    still_found = path_at scoped i at (stays old_scoped scoped i at grown.extends scoped_found)

    inside : i < length old_paths
    inside = slice_get_within old_paths i path found

    is_there : IsPlace (documents_of places.documents) place.place
    is_there = all_at (λ p. IsPlace (documents_of places.documents) p.place) places.places.items i place read.table.values
        (slice_get_within places.places.items i place there) (sym (get_or_from_slice_get places.places.items i place place there))

    longer_paths : paths ≡ old_paths ++ paths_in grown.extends.more
    longer_paths = ap paths_in grown.extends.longer ∙ map-append (λ at. at.path) old_scoped grown.extends.more

    all_paths : take (i + 1) paths ≡ take i old_paths ++ path ∷ []
    all_paths =
        ap (take (i + 1)) longer_paths ∙ take-append-le (i + 1) old_paths (paths_in grown.extends.more) (omega (arith, inside))
        ∙ take_one old_paths i path inside (sym (get_or_from_slice_get old_paths i path path found))

    each_more : (all : List ScopedPath) → Extends scoped all → (n : ℕ) (other : ScopedPath) (t : Schema) → slice_get all n ≡ Some other
        → (slice_get read.said n ≡ Some t) ⊎ ((n ≡ length read.said) × (schema ≡ t)) → SchemaSays all settled documents other t.body
    each_more all extends n other t e (inl f) = read.each all (extends_both old_scoped scoped all grown.extends extends) n other t e f
    each_more all extends n other t e (inr f) =
        let here : slice_get all n ≡ Some at = rw (f.0, read.count) (stays scoped all i at extends (stays old_scoped scoped i at grown.extends scoped_found)) in
        let same : at ≡ other = cc in
        rw (← f.1, ← same) (record {
          value = view place.place.value.now;
          stands = subst (λ ds. value_in ds path ≡ Some (view place.place.value.now)) read.whole is_there;
          says = reads.means all extends;
        })

    problems_then : problems paths (read.said ++ schema ∷ []) ≡ problems old_paths read.said ++ body_problems path reads.said
    problems_then =
        problems_more paths read.said path schema (rw read.count still_found)
        ∙ ap (λ l. l ++ body_problems path reads.said)
        (ap (λ l. problems l read.said) longer_paths ∙ problems_stay old_paths (paths_in grown.extends.more) read.said (omega (arith, inside, read.count)))

    ready_more : (all : List ScopedPath) → Extends scoped all → AllByRecursion (λ node. IsBodyReady outcome (RestsOn outcome s.lists) (length all) node.body) more
    ready_more all extends =
        rw longer (all_more (λ node. IsBodyReady outcome (RestsOn outcome s.lists) (length all) node.body) nodes node
        (read.ready all (extends_both old_scoped scoped all grown.extends extends)) (reads.ready all extends))

    pub one_more : ReadDocument next more after (i + 1)
    one_more = record {
      table = grown.table;
      whole = grown.documents ∙ read.whole;
      root = stays old_scoped scoped 0 root_path grown.extends read.root;
      within =
          let last : i < length paths = slice_get_within paths i path still_found in
          omega (arith, last, paths_count next.places.items);
      said = read.said ++ schema ∷ [];
      count = length-append read.said (schema ∷ []) ∙ ap (λ n. n + 1) read.count;
      headed = map-append (λ t. t.header) read.said (schema ∷ []) ∙ ap (λ l. l ++ header_at settled.draft documents path ∷ []) read.headed
          ∙ sym (map-append (header_at settled.draft documents) (take i old_paths) (path ∷ [])) ∙ ap (map (header_at settled.draft documents)) (sym all_paths);
      compiled = ap (schemas_of outcome) longer ∙ map-append (schema_of outcome) nodes (node ∷ [])
          ∙ ap₂ (λ a b. a ++ b ∷ []) read.compiled (ap₂ (λ h b. record { header = h; body = b }) headed reads.same)
          ∙ sym (map-append meaningful_schema read.said (schema ∷ []));
      each = λ all extends n other t e f. each_more all extends n other t e (at_end read.said schema t n f);
      kept = subst (λ l. IsKept l after) (sym problems_then) (reads.notes.kept (problems old_paths read.said) read.kept);
      ready = ready_more;
    }

  -- ---- where all were read

  module _ (places : Places) (nodes : List (Node E)) (first : Option Problem) (i : ℕ) (read : ReadDocument places nodes first i) (all : length places.places.items ≤ i) where
    abbrev scoped_all : List ScopedPath
    scoped_all = scoped_paths places.places.items

    abbrev paths_found : List Path
    paths_found = paths_in scoped_all

    abbrev count_is : i ≡ length paths_found
    count_is = omega (arith, all, read.within, paths_count places.places.items)

    abbrev scoped_count : length scoped_all ≡ length paths_found
    scoped_count = sym (length-map scoped_all (λ at. at.path))

    pub all_said : Says s documents read.said
    all_said = record {
      paths = scoped_all;
      headed = read.headed ∙ ap (map (header_at settled.draft documents)) (take_all i paths_found (omega (arith, count_is)));
      root = read.root;
      each = read.each scoped_all (extends_itself scoped_all);
    }

    -- the tests of the code are those of what is said
    abbrev Ends : (ℕ → Bool) → Type 0
    Ends end = (n : ℕ) → end n ≡ ends (schemas_of outcome nodes) (length nodes) n

    abbrev said_ends : ℕ → Bool
    said_ends = ends read.said (length read.said)

    nodes_count : length nodes ≡ length read.said
    nodes_count = sym (length-map nodes (schema_of outcome)) ∙ ap length read.compiled ∙ length-map read.said meaningful_schema

    ends_alike : (end : ℕ → Bool) → Ends end → (n : ℕ) → end n ≡ said_ends n
    ends_alike end same n = same n ∙ rw (read.compiled, nodes_count) (ends_same read.said (length read.said) n)

    endless_then : (end : ℕ → Bool) → Ends end → schemas_endless end paths_found (schemas_of outcome nodes) ≡ schemas_endless said_ends paths_found read.said
    endless_then end same = ap (schemas_endless end paths_found) read.compiled ∙ endless_same end paths_found read.said
        ∙ endless_alike end said_ends (ends_alike end same) paths_found read.said

    pub is_kept : (end : ℕ → Bool) (after : Option Problem) → Ends end → Notes (schemas_endless end paths_found (schemas_of outcome nodes)) first after
        → IsKept (refused paths_found read.said) after
    is_kept end after same notes =
        subst (λ l. IsKept (problems paths_found read.said ++ l) after) (endless_then end same) (notes.kept (problems paths_found read.said) read.kept)

    -- with a problem, the documents are refused for it
    pub is_refused : (end : ℕ → Bool) (after : Option Problem) (p : Problem) → Ends end
        → Notes (schemas_endless end paths_found (schemas_of outcome nodes)) first after → after ≡ Some p
        → IsRefused s documents (problem_of p).1 (uri_at documents (problem_of p).0) (location_of (problem_of p).0)
    unfolding all_said
    is_refused end after p same notes e = record {
      schemas = read.said;
      says = all_said;
      path = (problem_of p).0;
      first = subst (IsKept (refused paths_found read.said)) e (is_kept end after same notes);
      within = refl;
      stands = refl;
    }

    down : (n : ℕ) (path : Path) (t : Schema) → slice_get paths_found n ≡ Some path → slice_get read.said n ≡ Some t → IsBodyDown paths_found path t.body
    down n path t there here =
        let found = scoped_at scoped_all n path there in
        let at = found.0 in
        let says = read.each scoped_all (extends_itself scoped_all) n at t found.1 here in
        let scope = entered settled.draft documents at.scope at.path in
        subst (λ p. IsBodyDown paths_found p t.body) found.2
        (body_down paths_found (numbered_by scoped_all scope) (λ m p is. path_at scoped_all m (record { scope = scope; path = p }) is)
        settled documents scope at.path says.value t.body says.says)

    -- with none, it is said, and instances can be validated
    pub is_said : (end : ℕ → Bool) (after : Option Problem) → Ends end
        → Notes (schemas_endless end paths_found (schemas_of outcome nodes)) first after → after ≡ None
        → IsSaid s documents (schemas_of outcome nodes) × IsReady outcome (RestsOn outcome s.lists) nodes
    unfolding all_said
    is_said end after same notes e =
        let nothing : refused paths_found read.said ≡ [] = subst (IsKept (refused paths_found read.said)) e (is_kept end after same notes) in
        let is : schemas_of outcome nodes ≡ read.said =
        read.compiled ∙ schemas_all paths_found read.said (omega (arith, count_is, read.count)) (nil_first (problems paths_found read.said) _ nothing) in
        let all_end = all_ways_end paths_found read.said (read.count ∙ count_is) down (nil_second (problems paths_found read.said) _ nothing) in (
          subst (IsSaid s documents) (sym is) (record { says = all_said; sound = nothing }),
          record {
            some = omega (arith, nodes_count, read.count, count_is, scoped_count, slice_get_within scoped_all 0 root_path read.root);
            end = λ n h. sym (same n) ∙ ends_alike end same n ∙ all_end n (omega (arith, nodes_count));
            each = subst (λ count. AllByRecursion (λ node. IsBodyReady outcome (RestsOn outcome s.lists) count node.body) nodes)
                (sym (nodes_count ∙ read.count ∙ count_is ∙ sym scoped_count)) (read.ready scoped_all (extends_itself scoped_all));
          },
        )
