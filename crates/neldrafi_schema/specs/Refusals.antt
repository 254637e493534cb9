-- Why a schema document is refused, and where.
use Rattle.std.specs.Prelude.{◌≡◌, ℕ, zero, suc, List, [], ◌∷◌, ◌++◌, map, Bool, true, false, not, ◌&&◌, ◌||◌}
use Rattle.std.specs.Prelude.{Option, Some, None, length, slice_get, if◌then◌else◌}
use Rattle.std.specs.List.{AllByRecursion, list_all}
use Rattle.strkw_keywords.specs.Object.{Settings}
use Rattle.neldrafi_schema.specs.Paths.{Path, key, location_of, StandsBefore}
use Rattle.neldrafi_schema.specs.Schemas.{Reason, wrong_type, circular_reference}
use Rattle.neldrafi_schema.specs.Schemas.{Rule, reference, all_of, dependent, negation, any_of, one_of}
use Rattle.neldrafi_schema.specs.Schemas.{where_valid, where_not_valid, condition, Branch, Keyword, rule, malformed}
use Rattle.neldrafi_schema.specs.Schemas.{Body, always, never, keywords, neither, Schema}
use Rattle.neldrafi_schema.specs.Documents.{Documents, uri_at}
use Rattle.neldrafi_schema.specs.Reading.{Says, paths_in}

-- a reason, and the path to the value that is refused
abbrev pub Problem : Type 0
Problem = Path × Reason

-- ---- what has no meaning

abbrev pub keyword_problems : Path → Keyword → List Problem
keyword_problems path (malformed below why) = (path ++ below, why) ∷ []
keyword_problems path other = []

abbrev pub keywords_problems : Path → List Keyword → List Problem
keywords_problems path [] = []
keywords_problems path (k ∷ ks) = keyword_problems path k ++ keywords_problems path ks

abbrev pub body_problems : Path → Body → List Problem
body_problems path always = []
body_problems path never = []
body_problems path neither = (path, wrong_type) ∷ []
body_problems path (keywords ks) = keywords_problems path ks

-- those of the schemas at these paths
abbrev pub problems : List Path → List Schema → List Problem
problems [] ts = []
problems (path ∷ paths) [] = []
problems (path ∷ paths) (t ∷ ts) = body_problems path t.body ++ problems paths ts

-- ---- references that come to no end

-- whether a rule's schemas are of the whole instance
abbrev pub is_in_place : Rule → Bool
is_in_place reference = true
is_in_place all_of = true
is_in_place (dependent names) = true
is_in_place (negation schema) = true
is_in_place any_of = true
is_in_place one_of = true
is_in_place where_valid = true
is_in_place where_not_valid = true
is_in_place condition = true
is_in_place other = false

abbrev pub schemas_in : List Branch → List ℕ
schemas_in bs = map (λ b. b.schema) bs

-- the schemas to which a keyword leads without entering the instance
abbrev pub in_place : Keyword → List ℕ
in_place (rule name r bs) = if is_in_place r then schemas_in bs else []
in_place other = []

abbrev pub keywords_end : (ℕ → Bool) → List Keyword → Bool
keywords_end end [] = true
keywords_end end (k ∷ ks) = list_all end (in_place k) && keywords_end end ks

abbrev pub body_ends : (ℕ → Bool) → Body → Bool
body_ends end always = true
body_ends end never = true
body_ends end neither = true
body_ends end (keywords ks) = keywords_end end ks

abbrev pub schema_ends : (ℕ → Bool) → Option Schema → Bool
schema_ends end None = false
schema_ends end (Some t) = body_ends end t.body

-- each way from a schema to others that does not enter the instance ends within so many steps
unfoldable pub ends : List Schema → ℕ → ℕ → Bool
ends schemas zero n = false
ends schemas (suc steps) n = schema_ends (ends schemas steps) (slice_get schemas n)

abbrev pub is_reference : Rule → Bool
is_reference reference = true
is_reference other = false

abbrev pub keyword_endless : (ℕ → Bool) → Path → Keyword → List Problem
keyword_endless end path (rule name r bs) =
    if not (is_reference r) || list_all end (schemas_in bs) then []
    else (path ++ key name ∷ [], circular_reference) ∷ []
keyword_endless end path other = []

abbrev pub keywords_endless : (ℕ → Bool) → Path → List Keyword → List Problem
keywords_endless end path [] = []
keywords_endless end path (k ∷ ks) = keyword_endless end path k ++ keywords_endless end path ks

abbrev pub body_endless : (ℕ → Bool) → Path → Body → List Problem
body_endless end path (keywords ks) = keywords_endless end path ks
body_endless end path other = []

abbrev pub schemas_endless : (ℕ → Bool) → List Path → List Schema → List Problem
schemas_endless end [] ts = []
schemas_endless end (path ∷ paths) [] = []
schemas_endless end (path ∷ paths) (t ∷ ts) =
    body_endless end path t.body ++ schemas_endless end paths ts

-- ---- the first

-- All that is refused. Where each reference comes to an end, each way does: every other schema stands
-- further down in the document, or that of `if` beside.
abbrev pub refused : List Path → List Schema → List Problem
refused paths schemas = problems paths schemas
    ++ schemas_endless (ends schemas (length schemas)) paths schemas

-- it is among these, and none of them stands before it in the document
pub record IsFirst (all : List Problem) (p : Problem) : Type 0 where
  pub before : List Problem
  pub behind : List Problem
  pub among : all ≡ before ++ p ∷ behind
  pub first : AllByRecursion (λ q. StandsBefore q.0 p.0 → ⊥) all

-- the documents say these schemas, none of which is refused
pub record IsSaid (s : Settings) (documents : Documents) (schemas : List Schema) : Type 0 where
  pub says : Says s documents schemas
  pub sound : refused (paths_in says.paths) schemas ≡ []

-- they are refused for this reason, at this location of the document of this URI
pub record IsRefused (s : Settings) (documents : Documents) (why : Reason)
    (uri location : List ℕ) : Type 0 where
  pub schemas : List Schema
  pub says : Says s documents schemas
  pub path : Path
  pub first : IsFirst (refused (paths_in says.paths) schemas) (path, why)
  pub within : uri ≡ uri_at documents path
  pub stands : location ≡ location_of path
