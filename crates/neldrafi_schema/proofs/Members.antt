-- What was read of the members of a schema object so far.
use Rattle.std.proofs.Common.{◌≡◌, ℕ, List, [], ◌∷◌, ◌++◌, length, map, refl, sym, ap, ◌∙◌, subst, append_assoc, append-nil, Option, Vec, Global, String, string_bytes}
use Rattle.std.proofs.lemmas.List.{map-append}
use Rattle.std.specs.List.{AllByRecursion}
use Rattle.serde_json.specs.Data.{Data, object, Members, no_members, member}
use Rattle.strkw_pattern.specs.declared.engine.Outcome.{Outcome}
use Rattle.strkw_keywords.specs.Object.{Settings}
use Rattle.neldrafi_schema.specs.declared.node.Body.TheVariants as body
use Rattle.neldrafi_schema.specs.declared.node.Keyword.{Keyword as CompiledKeyword}
use Rattle.neldrafi_schema.specs.declared.node.Keyword.TheVariants as compiled
use Rattle.neldrafi_schema.specs.declared.places.Places.{Places}
use Rattle.neldrafi_schema.specs.declared.problem.Problem.{Problem}
use Rattle.neldrafi_schema.specs.machine.Compiled.{keyword_of}
use Rattle.neldrafi_schema.specs.Paths.{Path, key}
use Rattle.neldrafi_schema.specs.machine.Places.{Extends, Grown, IsTable, scoped_paths}
use Rattle.neldrafi_schema.specs.machine.Problems.{Notes, reason_of}
use Rattle.neldrafi_schema.specs.declared.reading.Said.{Said}
use Rattle.neldrafi_schema.specs.declared.reading.Said.TheVariants as said
use Rattle.neldrafi_schema.specs.declared.refusal.SchemaErrorKind.{SchemaErrorKind}
use Rattle.neldrafi_schema.specs.Drafts.{known_named}
use Rattle.neldrafi_schema.specs.Reading.{KnownSays, MembersSay, BodySays, numbered_by}
use Rattle.neldrafi_schema.specs.machine.Ready.{IsKeywordReady, RestsOn}
use Rattle.neldrafi_schema.specs.Refusals.{keyword_problems, keywords_problems}
use Rattle.neldrafi_schema.specs.machine.Said.{Always, IsSaidReady, Reads, meaningful, meaningful_one, said_keywords}
use Rattle.neldrafi_schema.specs.Schemas.{Keyword, keywords, Reason, malformed}
use Rattle.neldrafi_schema.specs.Documents.{Documents}
use Rattle.neldrafi_schema.specs.Scopes.{Scope, ScopedPath}
use Rattle.neldrafi_schema.proofs.Keeping.{all_more, extends_both, noted_both, nothing_noted}
use Rattle.neldrafi_schema.proofs.Tables.{grown_both, grown_itself}

pub problems-append : (path : Path) (ks others : List Keyword) → keywords_problems path (ks ++ others) ≡ keywords_problems path ks ++ keywords_problems path others
problems-append path [] others = refl
problems-append path (k ∷ ks) others = ap (λ l. keyword_problems path k ++ l) (problems-append path ks others)
    ∙ sym (append_assoc (keyword_problems path k) (keywords_problems path ks) (keywords_problems path others))

-- what is compiled has a meaning
pub no_problem : {E : Type 0} (outcome : E → List ℕ → Outcome) (path : Path) (k : CompiledKeyword E) → keywords_problems path (keyword_of outcome k ∷ []) ≡ []
no_problem outcome path (compiled.Rule r) = refl
no_problem outcome path (compiled.Text n v) = refl

-- and stays
pub compiled_means : {E : Type 0} (outcome : E → List ℕ → Outcome) (k : CompiledKeyword E) → meaningful (keyword_of outcome k ∷ []) ≡ keyword_of outcome k ∷ []
compiled_means outcome (compiled.Rule r) = refl
compiled_means outcome (compiled.Text n v) = refl

pub meaningful-append : (ks others : List Keyword) → meaningful (ks ++ others) ≡ meaningful ks ++ meaningful others
meaningful-append [] others = refl
meaningful-append (k ∷ ks) others = ap (λ l. meaningful_one k ++ l) (meaningful-append ks others)
    ∙ sym (append_assoc (meaningful_one k) (meaningful ks) (meaningful others))

module _ {E : Type 0} (outcome : E → List ℕ → Outcome) (s : Settings) (documents : Documents) (scope : Scope) (path : Path) (ms : Members) (start : Places) (old : Option Problem) where
  -- what was read, with rest still to come
  pub record ReadSoFar (rest : Members) (places : Places) (first : Option Problem) (ks : List (CompiledKeyword E)) : Type 0 where
    pub said : List Keyword
    pub goes_on : (all : List ScopedPath) → Extends (scoped_paths places.places.items) all → (later : List Keyword)
        → MembersSay (numbered_by all scope) s documents scope path ms rest later → MembersSay (numbered_by all scope) s documents scope path ms ms (said ++ later)
    pub notes : Notes (keywords_problems path said) old first
    pub same : map (keyword_of outcome) ks ≡ meaningful said
    pub ready : (all : List ScopedPath) → Extends (scoped_paths places.places.items) all → AllByRecursion (IsKeywordReady outcome (RestsOn outcome s.lists) (length all)) ks
    pub grown : Grown start places

  pub nothing_read : IsTable start → ReadSoFar ms start old []
  nothing_read table = record {
    said = [];
    goes_on = λ all extends later says. says;
    notes = nothing_noted old;
    same = refl;
    ready = λ all extends. tt;
    grown = grown_itself start table;
  }

  -- one member more
  pub read_more : (name : List ℕ) (d : Data) (rest : Members) (places next : Places) (first after : Option Problem) (ks more : List (CompiledKeyword E)) (says : List Keyword)
      → ReadSoFar (member name d rest) places first ks → Grown places next
      → Always (scoped_paths next.places.items) scope (λ numbered. KnownSays numbered s documents scope path ms name (known_named s.draft ms name) d says)
      → Notes (keywords_problems path says) first after
      → map (keyword_of outcome) more ≡ map (keyword_of outcome) ks ++ meaningful says
      → ((all : List ScopedPath) → Extends (scoped_paths next.places.items) all → AllByRecursion (IsKeywordReady outcome (RestsOn outcome s.lists) (length all)) ks
      → AllByRecursion (IsKeywordReady outcome (RestsOn outcome s.lists) (length all)) more)
      → ReadSoFar rest next after more
  read_more name d rest places next first after ks more says read grown known notes same ready = record {
    said = read.said ++ says;
    goes_on = λ all extends later p.
        subst (MembersSay (numbered_by all scope) s documents scope path ms ms) (sym (append_assoc read.said says later))
        (read.goes_on all (extends_both (scoped_paths places.places.items) (scoped_paths next.places.items) all grown.extends extends) (says ++ later)
        (says, later, known all extends, p, refl));
    notes = subst (λ l. Notes l old after) (sym (problems-append path read.said says))
        (noted_both (keywords_problems path read.said) (keywords_problems path says) old first after read.notes notes);
    same = same ∙ ap (λ l. l ++ meaningful says) read.same ∙ sym (meaningful-append read.said says);
    ready = λ all extends. ready all extends
        (read.ready all (extends_both (scoped_paths places.places.items) (scoped_paths next.places.items) all grown.extends extends));
    grown = grown_both start places next read.grown grown;
  }

  -- a member that says nothing
  pub read_nothing : (name : List ℕ) (d : Data) (rest : Members) (places next : Places) (first : Option Problem) (ks : List (CompiledKeyword E))
      → ReadSoFar (member name d rest) places first ks → Grown places next
      → Always (scoped_paths next.places.items) scope (λ numbered. KnownSays numbered s documents scope path ms name (known_named s.draft ms name) d [])
      → ReadSoFar rest next first ks
  read_nothing name d rest places next first ks read grown known = read_more name d rest places next first first ks ks [] read grown known
      (nothing_noted first) (sym (append-nil (map (keyword_of outcome) ks))) (λ all extends is. is)

  -- one that is compiled
  pub read_keyword : (name : List ℕ) (d : Data) (rest : Members) (places next : Places) (first : Option Problem) (ks more : List (CompiledKeyword E)) (k : CompiledKeyword E)
      → ReadSoFar (member name d rest) places first ks → Grown places next
      → Always (scoped_paths next.places.items) scope (λ numbered. KnownSays numbered s documents scope path ms name (known_named s.draft ms name) d (keyword_of outcome k ∷ []))
      → ((all : List ScopedPath) → Extends (scoped_paths next.places.items) all → IsKeywordReady outcome (RestsOn outcome s.lists) (length all) k) → more ≡ ks ++ k ∷ []
      → ReadSoFar rest next first more
  read_keyword name d rest places next first ks more k read grown known ready e =
      read_more name d rest places next first first ks more (keyword_of outcome k ∷ []) read grown known
      (subst (λ l. Notes l first first) (sym (no_problem outcome path k)) (nothing_noted first))
      (ap (map (keyword_of outcome)) e ∙ map-append (keyword_of outcome) ks (k ∷ []) ∙ ap (λ l. map (keyword_of outcome) ks ++ l) (sym (compiled_means outcome k)))
      (λ all extends is. subst (AllByRecursion (IsKeywordReady outcome (RestsOn outcome s.lists) (length all))) (sym e)
      (all_more (IsKeywordReady outcome (RestsOn outcome s.lists) (length all)) ks k is (ready all extends)))

  -- one that has no meaning
  pub read_malformed : (name : List ℕ) (d : Data) (rest : Members) (places next : Places) (first after : Option Problem) (ks : List (CompiledKeyword E)) (below : Path) (why : Reason)
      → ReadSoFar (member name d rest) places first ks → Grown places next
      → Always (scoped_paths next.places.items) scope (λ numbered. KnownSays numbered s documents scope path ms name (known_named s.draft ms name) d (malformed below why ∷ []))
      → Notes ((path ++ below, why) ∷ []) first after → ReadSoFar rest next after ks
  read_malformed name d rest places next first after ks below why read grown known notes =
      read_more name d rest places next first after ks ks (malformed below why ∷ []) read grown known
      notes (sym (append-nil (map (keyword_of outcome) ks))) (λ all extends is. is)

  -- one member more, by what it came to
  module _ (name : List ℕ) (d : Data) (rest : Members) (places next : Places) (first after : Option Problem) (ks more : List (CompiledKeyword E)) (answer : Said E)
      (read : ReadSoFar (member name d rest) places first ks) (grown : Grown places next)
      (says : Always (scoped_paths next.places.items) scope (λ numbered. KnownSays numbered s documents scope path ms name (known_named s.draft ms name) d (said_keywords outcome name answer)))
      (ready : IsSaidReady outcome s.lists (scoped_paths next.places.items) answer) where
    abbrev Says : Said E → Type 0
    Says o = Always (scoped_paths next.places.items) scope (λ numbered. KnownSays numbered s documents scope path ms name (known_named s.draft ms name) d (said_keywords outcome name o))

    pub said_nothing : answer ≡ said.Nothing → after ≡ first → more ≡ ks → ReadSoFar rest next after more
    said_nothing is same are = rw (same, are) (read_nothing name d rest places next first ks read grown (subst Says is says))

    pub said_keyword : (k : CompiledKeyword E) (pushed : List (CompiledKeyword E)) → answer ≡ said.Keyword k → after ≡ first → more ≡ pushed
        → pushed ≡ ks ++ k ∷ [] → ReadSoFar rest next after more
    said_keyword k pushed is same are e = rw (same, are) (read_keyword name d rest places next first ks pushed k read grown (subst Says is says)
        (subst (IsSaidReady outcome s.lists (scoped_paths next.places.items)) is ready) e)

    pub said_malformed : (kind : SchemaErrorKind) (noted : Option Problem) (at : Path) → answer ≡ said.Malformed kind → after ≡ noted → more ≡ ks
        → at ≡ path ++ key name ∷ []
        → Notes ((at, reason_of kind) ∷ []) first noted → ReadSoFar rest next after more
    said_malformed kind noted at is same are there notes =
        rw (same, are) (read_malformed name d rest places next first noted ks (key name ∷ []) (reason_of kind) read grown (subst Says is says)
        (subst (λ p. Notes ((p, reason_of kind) ∷ []) first noted) there notes))

    pub said_malformed_at : (inner : String Global) (kind : SchemaErrorKind) (noted : Option Problem) (at : Path) → answer ≡ said.MalformedAt inner kind → after ≡ noted
        → more ≡ ks → at ≡ (path ++ key name ∷ []) ++ key (string_bytes inner) ∷ []
        → Notes ((at, reason_of kind) ∷ []) first noted → ReadSoFar rest next after more
    said_malformed_at inner kind noted at is same are there notes =
        rw (same, are) (read_malformed name d rest places next first noted ks (key name ∷ key (string_bytes inner) ∷ []) (reason_of kind) read grown (subst Says is says)
        (subst (λ p. Notes ((p, reason_of kind) ∷ []) first noted) (there ∙ append_assoc path (key name ∷ []) (key (string_bytes inner) ∷ [])) notes))

  -- the whole object was read
  pub read_all : (places : Places) (first : Option Problem) (ks : Vec (CompiledKeyword E) Global) → ReadSoFar no_members places first ks.items
      → Reads outcome s.lists (λ numbered said. BodySays numbered s documents scope path (object ms) said) scope path (scoped_paths places.places.items) old first (body.Keywords ks)
  read_all places first ks read = record {
    said = keywords read.said;
    means = λ all extends. (read.said, subst (MembersSay (numbered_by all scope) s documents scope path ms ms) (append-nil read.said) (read.goes_on all extends [] refl), refl);
    notes = read.notes;
    same = ap keywords read.same;
    ready = read.ready;
  }
