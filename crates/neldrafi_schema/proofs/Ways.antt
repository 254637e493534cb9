-- Where every reference comes to an end, every way does: every other schema that is of the whole instance stands further
-- down in the document.
use Rattle.std.proofs.Common.{◌≡◌, ◌⊎◌, ◌+◌, ◌<◌, ◌≤◌, ◌++◌, ℕ, zero, suc, List, [], ◌∷◌, length, get_or, Bool, true, false, Option, Some, None, inl, inr, refl, arith, length-append, suc-add}
use Rattle.std.proofs.lemmas.Option.{slice_get-get_or, slice_get_within}
use Rattle.std.specs.Prelude.{slice_get, if◌then◌else◌}
use Rattle.std.specs.List.{AllByRecursion, list_all}
use Rattle.serde_json.specs.Data.{Data, null, boolean, number, string, array, object, Members, no_members, member}
use Rattle.serde_json.specs.Find.{as_object}
use Rattle.strkw_keywords.specs.declared.keyword.Keyword.{Keyword as TextKeyword}
use Rattle.strkw_keywords.specs.Errors.{Assertion}
use Rattle.strkw_keywords.specs.Object.{Settings}
use Rattle.strkw_report.specs.Refusals.{Refusal}
use Rattle.neldrafi_schema.specs.declared.known.Known.{Known}
use Rattle.neldrafi_schema.specs.declared.known.Known.TheVariants as known
use Rattle.neldrafi_schema.specs.Drafts.{is_draft_4, known_named}
use Rattle.neldrafi_schema.specs.Paths.{Path, key}
use Rattle.neldrafi_schema.specs.Reading.{AreNumbered, BodySays, KnownSays, MembersSay, PatternPropertiesSay, Patterns, PatternsSay, SaysEntries, SenseSays, Numbered, malformed_at, patterns}
use Rattle.neldrafi_schema.specs.References.{schema_referred}
use Rattle.neldrafi_schema.specs.Refusals.{body_endless, body_ends, ends, in_place, is_in_place, is_reference, keyword_endless, keywords_end, keywords_endless, schema_ends, schemas_endless, schemas_in}
use Rattle.neldrafi_schema.specs.Schemas.{Branch, Rule, Body, Keyword, Schema, always, keywords, malformed, neither, never, rule, string_keyword}
use Rattle.neldrafi_schema.specs.Values.{Lead, Sense, nothing, says, refused, sense}
use Rattle.neldrafi_schema.specs.Documents.{Documents}
use Rattle.neldrafi_schema.specs.Scopes.{Scope}
use Rattle.neldrafi_schema.proofs.Keeping.{all_both}
use Rattle.neldrafi_schema.proofs.Lists.{past_end}
use Rattle.neldrafi_schema.proofs.Meaningful.{flag, nil_first, nil_second}
use Rattle.neldrafi_schema.proofs.Deeper.{IsFarther, IsSenseDown, members_down, reference_down, sense_down}
use Rattle.neldrafi_schema.proofs.Stable.{all_keep, enough_to_end, steps_keep}

module _ (paths : List Path) where
  -- the schema of this number stands further down
  abbrev pub IsDeeper : Path → ℕ → Type 0
  IsDeeper path n = (other : Path) × (slice_get paths n ≡ Some other) × (length path < length other)

  abbrev pub IsDown : Path → Keyword → Type 0
  IsDown path (rule word r bs) = (is_reference r ≡ true) ⊎ AllByRecursion (λ b. IsDeeper path b.schema) bs
  IsDown path (string_keyword word asserted) = Unit {0}
  IsDown path (malformed below why) = Unit {0}

  abbrev pub IsBodyDown : Path → Body → Type 0
  IsBodyDown path always = Unit {0}
  IsBodyDown path never = Unit {0}
  IsBodyDown path neither = Unit {0}
  IsBodyDown path (keywords ks) = AllByRecursion (IsDown path) ks

  module _ (numbered : Numbered) (there : (n : ℕ) (path : Path) → numbered n path → slice_get paths n ≡ Some path) (path : Path) where
    abbrev AreDown : List Keyword → Type 0
    AreDown ks = AllByRecursion (IsDown path) ks

    numbered_down : (leads : List Lead) (bs : List Branch) → AllByRecursion (IsFarther path) leads → AreNumbered numbered leads bs
        → AllByRecursion (λ b. IsDeeper path b.schema) bs
    numbered_down [] bs down e = rw e tt
    numbered_down (l ∷ leads) bs down (n, rest, at, are, e) = rw e ((l.path, there n l.path at, down.0), numbered_down leads rest down.1 are)

    branches_down : (r : Rule) (leads : List Lead) (bs : List Branch) → (is_reference r ≡ true) ⊎ AllByRecursion (IsFarther path) leads
        → AreNumbered numbered leads bs → (is_reference r ≡ true) ⊎ AllByRecursion (λ b. IsDeeper path b.schema) bs
    branches_down r leads bs (inl e) are = inl e
    branches_down r leads bs (inr down) are = inr (numbered_down leads bs down are)

    says_down : (name : List ℕ) (s : Sense) (ks : List Keyword) → IsSenseDown path s → SenseSays numbered name s ks → AreDown ks
    says_down name nothing ks down e = rw e tt
    says_down name (says r leads) ks down (bs, are, e) = rw e (branches_down r leads bs down.down are, tt)
    says_down name (refused why) ks down e = rw e (tt, tt)

    entries_down : (at : Path) (k : TextKeyword) (asserted : List Assertion) (o : Option Refusal) (ks : List Keyword) → SaysEntries at k asserted o ks → AreDown ks
    entries_down at k asserted (Some r) ks e = rw e (tt, tt)
    entries_down at k asserted None ks (inl e) = rw e (tt, tt)
    entries_down at k asserted None ks (inr (none, e)) = rw e tt

    patterns_down : (at : Path) (name : List ℕ) (ms : Members) (found : Patterns) (ks : List Keyword) → length path < length at
        → PatternsSay numbered at name ms found ks → AreDown ks
    patterns_down at name ms (patterns asserted) ks h (bs, are, e) = rw e (inr (numbered_down _ bs (members_down path at h ms) are), tt)
    patterns_down at name ms (malformed_at below why) ks h e = rw e (tt, tt)

    pattern_properties_down : (s : Settings) (name : List ℕ) (o : Option Members) (ks : List Keyword) → PatternPropertiesSay numbered s path name o ks → AreDown ks
    pattern_properties_down s name None ks e = rw e (tt, tt)
    pattern_properties_down s name (Some ms) ks (found, are, e) =
        patterns_down (path ++ key name ∷ []) name ms found ks (omega (arith, length-append path (key name ∷ []))) e

    sense_says_down : (s : Settings) (ms : Members) (name : List ℕ) (k : Known) (d : Data) (ks : List Keyword)
        → SenseSays numbered name (sense s.draft ms path (path ++ key name ∷ []) k d) ks → AreDown ks
    sense_says_down s ms name k d ks e = says_down name _ ks (sense_down path s.draft ms (path ++ key name ∷ []) k d (omega (arith, length-append path (key name ∷ [])))) e

    known_down : (s : Settings) (documents : Documents) (scope : Scope) (ms : Members) (name : List ℕ) (k : Known) (d : Data) (ks : List Keyword)
        → KnownSays numbered s documents scope path ms name k d ks → AreDown ks
    known_down s documents scope ms name known.Dialect d ks e = sense_says_down s ms name known.Dialect d ks e
    known_down s documents scope ms name known.Reference d ks e = says_down name _ ks (reference_down path (schema_referred s.draft documents [] path) d) e
    known_down s documents scope ms name known.DynamicReference d ks e = says_down name _ ks (reference_down path (schema_referred s.draft documents scope path) d) e
    known_down s documents scope ms name known.RecursiveReference d ks e = says_down name _ ks (reference_down path (schema_referred s.draft documents scope path) d) e
    known_down s documents scope ms name known.DynamicAnchor d ks e = sense_says_down s ms name known.DynamicAnchor d ks e
    known_down s documents scope ms name known.RecursiveAnchor d ks e = sense_says_down s ms name known.RecursiveAnchor d ks e
    known_down s documents scope ms name known.Draft4Identifier d ks e = sense_says_down s ms name known.Draft4Identifier d ks e
    known_down s documents scope ms name known.Identifier d ks e = sense_says_down s ms name known.Identifier d ks e
    known_down s documents scope ms name known.Anchor d ks e = sense_says_down s ms name known.Anchor d ks e
    known_down s documents scope ms name known.Types d ks e = sense_says_down s ms name known.Types d ks e
    known_down s documents scope ms name known.Enumeration d ks e = sense_says_down s ms name known.Enumeration d ks e
    known_down s documents scope ms name known.Constant d ks e = sense_says_down s ms name known.Constant d ks e
    known_down s documents scope ms name known.MultipleOf d ks e = sense_says_down s ms name known.MultipleOf d ks e
    known_down s documents scope ms name (known.Limited l) d ks e = sense_says_down s ms name (known.Limited l) d ks e
    known_down s documents scope ms name (known.Sized size) d ks e = sense_says_down s ms name (known.Sized size) d ks e
    known_down s documents scope ms name known.UniqueItems d ks e = sense_says_down s ms name known.UniqueItems d ks e
    known_down s documents scope ms name known.Required d ks e = sense_says_down s ms name known.Required d ks e
    known_down s documents scope ms name known.Dependencies d ks e = sense_says_down s ms name known.Dependencies d ks e
    known_down s documents scope ms name known.DependentRequired d ks e = sense_says_down s ms name known.DependentRequired d ks e
    known_down s documents scope ms name known.DependentSchemas d ks e = sense_says_down s ms name known.DependentSchemas d ks e
    known_down s documents scope ms name known.Properties d ks e = sense_says_down s ms name known.Properties d ks e
    known_down s documents scope ms name known.PatternProperties d ks e = pattern_properties_down s name (as_object d) ks e
    known_down s documents scope ms name known.AdditionalProperties d ks e = sense_says_down s ms name known.AdditionalProperties d ks e
    known_down s documents scope ms name known.PropertyNames d ks e = sense_says_down s ms name known.PropertyNames d ks e
    known_down s documents scope ms name known.PrefixItems d ks e = sense_says_down s ms name known.PrefixItems d ks e
    known_down s documents scope ms name known.Items d ks e = sense_says_down s ms name known.Items d ks e
    known_down s documents scope ms name known.AdditionalItems d ks e = sense_says_down s ms name known.AdditionalItems d ks e
    known_down s documents scope ms name known.Contains d ks e = sense_says_down s ms name known.Contains d ks e
    known_down s documents scope ms name known.ContainsCount d ks e = sense_says_down s ms name known.ContainsCount d ks e
    known_down s documents scope ms name known.AllOf d ks e = sense_says_down s ms name known.AllOf d ks e
    known_down s documents scope ms name known.AnyOf d ks e = sense_says_down s ms name known.AnyOf d ks e
    known_down s documents scope ms name known.OneOf d ks e = sense_says_down s ms name known.OneOf d ks e
    known_down s documents scope ms name known.Not d ks e = sense_says_down s ms name known.Not d ks e
    known_down s documents scope ms name known.If d ks e = sense_says_down s ms name known.If d ks e
    known_down s documents scope ms name known.Then d ks e = sense_says_down s ms name known.Then d ks e
    known_down s documents scope ms name known.Else d ks e = sense_says_down s ms name known.Else d ks e
    known_down s documents scope ms name known.Definitions d ks e = sense_says_down s ms name known.Definitions d ks e
    known_down s documents scope ms name known.Defs d ks e = sense_says_down s ms name known.Defs d ks e
    known_down s documents scope ms name (known.Unevaluated part) d ks e = sense_says_down s ms name (known.Unevaluated part) d ks e
    known_down s documents scope ms name known.Description d ks e = sense_says_down s ms name known.Description d ks e
    known_down s documents scope ms name known.Default d ks e = sense_says_down s ms name known.Default d ks e
    known_down s documents scope ms name known.Examples d ks e = sense_says_down s ms name known.Examples d ks e
    known_down s documents scope ms name known.Comment d ks e = sense_says_down s ms name known.Comment d ks e
    known_down s documents scope ms name known.Access d ks e = sense_says_down s ms name known.Access d ks e
    known_down s documents scope ms name known.Deprecated d ks e = sense_says_down s ms name known.Deprecated d ks e
    known_down s documents scope ms name known.Content d ks e = sense_says_down s ms name known.Content d ks e
    known_down s documents scope ms name known.Vocabulary d ks e = sense_says_down s ms name known.Vocabulary d ks e
    known_down s documents scope ms name known.ContentSchema d ks e = sense_says_down s ms name known.ContentSchema d ks e
    known_down s documents scope ms name (known.Text text) d ks e = entries_down _ _ _ _ ks e.said
    known_down s documents scope ms name known.Unknown d ks e = sense_says_down s ms name known.Unknown d ks e

  module _ (numbered : Numbered) (there : (n : ℕ) (path : Path) → numbered n path → slice_get paths n ≡ Some path)
      (s : Settings) (documents : Documents) (scope : Scope) (path : Path) where
    all_members_down : (all ms : Members) (ks : List Keyword) → MembersSay numbered s documents scope path all ms ks → AllByRecursion (IsDown path) ks
    all_members_down all no_members ks e = rw e tt
    all_members_down all (member name d ms) ks (first, later, stated, more, e) =
        rw e (all_both (IsDown path) first later (known_down numbered there path s documents scope all name (known_named s.draft all name) d first stated) (all_members_down all ms later more))

    boolean_down : (draft_4 b : Bool) → IsBodyDown path (if draft_4 then neither else (if b then always else never))
    boolean_down true b = tt
    boolean_down false true = tt
    boolean_down false false = tt

    pub body_down : (d : Data) (body : Body) → BodySays numbered s documents scope path d body → IsBodyDown path body
    body_down null body e = rw e tt
    body_down (boolean b) body e = rw e (boolean_down (is_draft_4 s.draft) b)
    body_down (number x) body e = rw e tt
    body_down (string text) body e = rw e tt
    body_down (array ds) body e = rw e tt
    body_down (object ms) body (ks, stated, e) = rw e (all_members_down ms ms ks stated)

  -- a schema ends in more steps where its references do, and those further down
  module _ (path : Path) (end next : ℕ → Bool) (keeps : (n : ℕ) → end n ≡ true → next n ≡ true)
      (deeper : (n : ℕ) (other : Path) → slice_get paths n ≡ Some other → length path < length other → next n ≡ true) where
    deeper_come : (bs : List Branch) → AllByRecursion (λ b. IsDeeper path b.schema) bs → list_all next (schemas_in bs) ≡ true
    deeper_come [] down = refl
    deeper_come (b ∷ bs) down = rw (deeper b.schema down.0.0 down.0.1 down.0.2, deeper_come bs down.1) refl

    placed : (b : Bool) (ns : List ℕ) → list_all next ns ≡ true → list_all next (if b then ns else []) ≡ true
    placed true ns e = e
    placed false ns e = refl

    rule_comes : (word : List ℕ) (r : Rule) (bs : List Branch) → IsDown path (rule word r bs) → keyword_endless end path (rule word r bs) ≡ []
        → list_all next (in_place (rule word r bs)) ≡ true
    rule_comes word r bs (inl is) e =
        let all : list_all end (schemas_in bs) ≡ true = flag (list_all end (schemas_in bs)) (path ++ key word ∷ []) (rw is at e) in
        placed (is_in_place r) (schemas_in bs) (all_keep end next keeps (schemas_in bs) all)
    rule_comes word r bs (inr down) e = placed (is_in_place r) (schemas_in bs) (deeper_come bs down)

    keywords_come : (ks : List Keyword) → AllByRecursion (IsDown path) ks → keywords_endless end path ks ≡ [] → keywords_end next ks ≡ true
    keywords_come [] down e = refl
    keywords_come (rule word r bs ∷ ks) down e =
        rw (
          rule_comes word r bs down.0 (nil_first (keyword_endless end path (rule word r bs)) (keywords_endless end path ks) e),
          keywords_come ks down.1 (nil_second (keyword_endless end path (rule word r bs)) (keywords_endless end path ks) e),
        ) refl
    keywords_come (string_keyword word asserted ∷ ks) down e = keywords_come ks down.1 e
    keywords_come (malformed below why ∷ ks) down e = keywords_come ks down.1 e

    body_comes : (body : Body) → IsBodyDown path body → body_endless end path body ≡ [] → body_ends next body ≡ true
    body_comes always down e = refl
    body_comes never down e = refl
    body_comes neither down e = refl
    body_comes (keywords ks) down e = keywords_come ks down e

-- what is so of all is so of each
body_at : (end : ℕ → Bool) (paths : List Path) (ts : List Schema) (n : ℕ) (path : Path) (t : Schema) → schemas_endless end paths ts ≡ []
    → slice_get paths n ≡ Some path → slice_get ts n ≡ Some t → body_endless end path t.body ≡ []
body_at end [] ts n path t e at is = cc
body_at end (p ∷ paths) [] n path t e at is = cc
body_at end (p ∷ paths) (s ∷ ts) zero path t e at is =
    let here : p ≡ path = cc in
    let this : s ≡ t = cc in
    rw (← here, ← this) (nil_first (body_endless end p s.body) (schemas_endless end paths ts) e)
body_at end (p ∷ paths) (s ∷ ts) (suc n) path t e at is =
    body_at end paths ts n path t (nil_second (body_endless end p s.body) (schemas_endless end paths ts) e) at is

-- more than each path has keys
keys : List Path → ℕ
keys [] = 0
keys (p ∷ paths) = suc (length p) + keys paths

fewer_keys : (paths : List Path) (n : ℕ) (path : Path) → slice_get paths n ≡ Some path → length path < keys paths
unfolding keys
fewer_keys [] n path e = cc
fewer_keys (p ∷ paths) zero path e = let here : p ≡ path = cc in rw here (omega arith)
fewer_keys (p ∷ paths) (suc n) path e = omega (arith, fewer_keys paths n path e)

module _ (paths : List Path) (ts : List Schema) (same : length ts ≡ length paths)
    (down : (n : ℕ) (path : Path) (t : Schema) → slice_get paths n ≡ Some path → slice_get ts n ≡ Some t → IsBodyDown paths path t.body)
    (none : schemas_endless (ends ts (length ts)) paths ts ≡ []) where
  schema_comes : (steps n : ℕ) (path : Path) → slice_get paths n ≡ Some path
      → ((m : ℕ) (other : Path) → slice_get paths m ≡ Some other → length path < length other → ends ts (steps + length ts) m ≡ true)
      → (o : Option Schema) → slice_get ts n ≡ o → schema_ends (ends ts (steps + length ts)) o ≡ true
  schema_comes steps n path at deeper None e = absurd (omega (arith, past_end ts n e, slice_get_within paths n path at))
  schema_comes steps n path at deeper (Some t) e =
      body_comes paths path (ends ts (length ts)) (ends ts (steps + length ts)) (steps_keep ts steps (length ts)) deeper
      t.body (down n path t at e) (body_at (ends ts (length ts)) paths ts n path t none at e)

  way_ends : (more n : ℕ) (path : Path) → slice_get paths n ≡ Some path → keys paths ≤ length path + more → ends ts (more + length ts) n ≡ true
  unfolding ends
  way_ends zero n path at h = absurd (omega (arith, fewer_keys paths n path at))
  way_ends (suc more) n path at h =
      rw suc-add (schema_comes more n path at
      (λ m other is longer. way_ends more m other is (omega arith)) (slice_get ts n) refl)

  pub all_ways_end : (n : ℕ) → n < length ts → ends ts (length ts) n ≡ true
  all_ways_end n h =
      enough_to_end ts (keys paths + length ts) n (omega arith)
      (way_ends (keys paths) n (get_or paths n []) (slice_get-get_or paths n [] (omega arith)) (omega arith))
