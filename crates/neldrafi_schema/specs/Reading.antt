-- Which list of schemas a document says.
use Rattle.std.specs.Prelude.{◌≡◌, ◌⊎◌, ℕ, List, [], ◌∷◌, ◌++◌, map, Option, Some, None}
use Rattle.std.specs.Prelude.{if◌then◌else◌, slice_get, option_map, unwrap_or}
use Rattle.serde_json.specs.Data.{Data, boolean, number, string, object, unsigned}
use Rattle.serde_json.specs.Data.{Members, no_members, member}
use Rattle.serde_json.specs.Find.{as_object}
use Rattle.strkw_report.specs.Refusals.{Refusal}
use Rattle.strkw_keywords.specs.declared.keyword.Keyword.{Keyword as TextKeyword}
use Rattle.strkw_keywords.specs.declared.keyword.Keyword.TheVariants as text
use Rattle.strkw_keywords.specs.Errors.{Assertion}
use Rattle.strkw_keywords.specs.Keywords.{keyword_name}
use Rattle.strkw_keywords.specs.Object.{Settings, Keyed, AreEntriesOf, refusal, all_assertions}
use Rattle.neldrafi_schema.specs.declared.known.Known.{Known}
use Rattle.neldrafi_schema.specs.declared.known.Known.TheVariants as known
use Rattle.neldrafi_schema.specs.Numbers.{size_in}
use Rattle.neldrafi_schema.specs.Paths.{Path, key, document}
use Rattle.neldrafi_schema.specs.Documents.{Documents, value_in}
use Rattle.neldrafi_schema.specs.Drafts.{draft_of, is_draft_4, known_named}
use Rattle.neldrafi_schema.specs.Headers.{header_at}
use Rattle.neldrafi_schema.specs.Values.{Lead, Sense, nothing, says, refused, sense, reference_sense, member_leads}
use Rattle.neldrafi_schema.specs.References.{schema_referred}
use Rattle.neldrafi_schema.specs.Scopes.{Scope, ScopedPath, entered}
use Rattle.neldrafi_schema.specs.Settings.{document_settings, keyword_settings}
use Rattle.neldrafi_schema.specs.Schemas.{Reason, wrong_type, by_string_keyword, matching, Branch}
use Rattle.neldrafi_schema.specs.Schemas.{Keyword, rule, string_keyword, malformed}
use Rattle.neldrafi_schema.specs.Schemas.{Body, always, never, keywords, neither, Schema}

-- ---- the string keywords, each as `strkw_keywords` reads it alone

-- A size may be written as a float.
abbrev pub handed : TextKeyword → Data → Data
handed text.MinLength d = unwrap_or (option_map (λ n. number (unsigned n)) (size_in d)) d
handed text.MaxLength d = unwrap_or (option_map (λ n. number (unsigned n)) (size_in d)) d
handed other d = d

-- the object that has this keyword alone
abbrev pub alone : TextKeyword → Data → Members
alone k d = member (keyword_name k) (handed k d) no_members

-- what entries assert, or why they are refused; none is needed where they assert nothing
abbrev pub SaysEntries : Path → TextKeyword → List Assertion → Option Refusal → List Keyword → Type 0
SaysEntries at k asserted (Some r) ks = ks ≡ malformed at (by_string_keyword r.reason) ∷ []
SaysEntries at k asserted None ks =
    (ks ≡ string_keyword (keyword_name k) asserted ∷ []) ⊎ ((asserted ≡ []) × (ks ≡ []))

pub record TextSays (s : Settings) (at : Path) (k : TextKeyword) (d : Data) (ks : List Keyword)
    : Type 0 where
  pub entries : List Keyed
  pub are_entries : AreEntriesOf s (alone k d) (k ∷ []) entries
  pub said : SaysEntries at k (all_assertions s.place entries) (refusal s.place entries) ks

-- ---- schemas by number

-- which number stands for the schema at a path
abbrev pub Numbered : Type 1
Numbered = ℕ → Path → Type 0

abbrev pub AreNumbered : Numbered → List Lead → List Branch → Type 0
AreNumbered numbered [] bs = bs ≡ []
AreNumbered numbered (l ∷ ls) bs = (n : ℕ) × (rest : List Branch) × numbered n l.path
    × AreNumbered numbered ls rest × (bs ≡ record { key = l.key; schema = n } ∷ rest)

abbrev pub SenseSays : Numbered → List ℕ → Sense → List Keyword → Type 0
SenseSays numbered name nothing ks = ks ≡ []
SenseSays numbered name (says r leads) ks = (bs : List Branch) × AreNumbered numbered leads bs
    × (ks ≡ rule name r bs ∷ [])
SenseSays numbered name (refused why) ks = ks ≡ malformed (key name ∷ []) why ∷ []

-- ---- `patternProperties` (draft 7, Validation, section 6.5.5)

-- what the patterns of some members assert, each alone, or the first that is refused
pub data Patterns : Type 0 where
  patterns : List (List Assertion) → Patterns
  malformed_at : Path → Reason → Patterns

abbrev pub with_pattern : List Keyword → Patterns → Patterns
with_pattern (string_keyword word asserted ∷ []) (patterns others) = patterns (asserted ∷ others)
with_pattern other others = others

-- behind a pattern that is refused none counts
abbrev pub IsFollowedBy : List Keyword → (Patterns → Type 0) → Patterns → Type 0
IsFollowedBy (malformed at why ∷ []) Later found = found ≡ malformed_at at why
IsFollowedBy first Later found = (rest : Patterns) × Later rest × (found ≡ with_pattern first rest)

abbrev pub PatternsAre : Settings → Path → List ℕ → Members → Patterns → Type 0
PatternsAre s path name no_members found = found ≡ patterns []
PatternsAre s path name (member pattern d ms) found = (first : List Keyword)
    × TextSays (keyword_settings s path text.Pattern) (key name ∷ key pattern ∷ []) text.Pattern
    (string pattern) first
    × IsFollowedBy first (PatternsAre s path name ms) found

abbrev pub PatternsSay : Numbered → Path → List ℕ → Members → Patterns → List Keyword → Type 0
PatternsSay numbered at name ms (patterns asserted) ks =
    SenseSays numbered name (says (matching asserted) (member_leads at ms)) ks
PatternsSay numbered at name ms (malformed_at below why) ks = ks ≡ malformed below why ∷ []

abbrev pub PatternPropertiesSay : Numbered → Settings → Path → List ℕ → Option Members
    → List Keyword → Type 0
PatternPropertiesSay numbered s path name None ks = ks ≡ malformed (key name ∷ []) wrong_type ∷ []
PatternPropertiesSay numbered s path name (Some ms) ks = (found : Patterns)
    × PatternsAre s path name ms found
    × PatternsSay numbered (path ++ key name ∷ []) name ms found ks

-- ---- the members of the schema object at a path

-- what a member of the object ms comes to
abbrev pub KnownSays : Numbered → Settings → Documents → Scope → Path → Members → List ℕ → Known → Data
    → List Keyword → Type 0
KnownSays numbered s documents scope path ms name known.PatternProperties d ks =
    PatternPropertiesSay numbered s path name (as_object d) ks
KnownSays numbered s documents scope path ms name known.Reference d ks =
    SenseSays numbered name (reference_sense (schema_referred s.draft documents [] path) d) ks
KnownSays numbered s documents scope path ms name known.DynamicReference d ks =
    SenseSays numbered name (reference_sense (schema_referred s.draft documents scope path) d) ks
KnownSays numbered s documents scope path ms name known.RecursiveReference d ks =
    SenseSays numbered name (reference_sense (schema_referred s.draft documents scope path) d) ks
KnownSays numbered s documents scope path ms name (known.Text k) d ks =
    TextSays (keyword_settings s path k) (key name ∷ []) k d ks
KnownSays numbered s documents scope path ms name other d ks =
    SenseSays numbered name (sense s.draft ms path (path ++ key name ∷ []) other d) ks

-- member by member, in the order of the document
abbrev pub MembersSay : Numbered → Settings → Documents → Scope → Path → Members → Members
    → List Keyword → Type 0
MembersSay numbered s documents scope path ms no_members ks = ks ≡ []
MembersSay numbered s documents scope path ms (member name d rest) ks = (first : List Keyword)
    × (later : List Keyword)
    × KnownSays numbered s documents scope path ms name (known_named s.draft ms name) d first
    × MembersSay numbered s documents scope path ms rest later × (ks ≡ first ++ later)

-- draft 4 has no booleans for schemas
abbrev pub BodySays : Numbered → Settings → Documents → Scope → Path → Data → Body → Type 0
BodySays numbered s documents scope path (boolean b) body =
    body ≡ (if is_draft_4 s.draft then neither else (if b then always else never))
BodySays numbered s documents scope path (object ms) body = (ks : List Keyword)
    × MembersSay numbered s documents scope path ms ms ks × (body ≡ keywords ks)
BodySays numbered s documents scope path other body = body ≡ neither

-- which number stands for the schema at a path, entered from this scope
abbrev pub numbered_by : List ScopedPath → Scope → Numbered
numbered_by paths scope n path = slice_get paths n ≡ Some (record { scope = scope; path = path })

-- The schema at a path, entered from a scope, says this. Those to which it leads are entered from the
-- scope in it.
pub record SchemaSays (paths : List ScopedPath) (s : Settings) (documents : Documents) (at : ScopedPath)
    (body : Body) : Type 0 where
  pub value : Data
  pub stands : value_in documents at.path ≡ Some value
  pub says : let scope = entered s.draft documents at.scope at.path in
      BodySays (numbered_by paths scope) s documents scope at.path value body

abbrev pub paths_in : List ScopedPath → List Path
paths_in paths = map (λ at. at.path) paths

-- The documents say this list: the schemas at these paths, the first of which is the root of the
-- first, entered from no scope. A schema is in the list once for each scope from which it is entered.
pub record Says (s : Settings) (documents : Documents) (schemas : List Schema) : Type 0 where
  pub paths : List ScopedPath
  pub headed : map (λ t. t.header) schemas
      ≡ map (header_at (draft_of s.draft documents.schema) documents) (paths_in paths)
  pub root : slice_get paths 0 ≡ Some (record { scope = []; path = document 0 ∷ [] })
  pub each : (n : ℕ) (at : ScopedPath) (t : Schema) → slice_get paths n ≡ Some at
      → slice_get schemas n ≡ Some t
      → SchemaSays paths (document_settings s documents.schema) documents at t.body
