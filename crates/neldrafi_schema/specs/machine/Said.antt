-- What was read of a document, as the code has it.
use Rattle.std.specs.Prelude.{◌≡◌, ◌++◌, ℕ, List, [], ◌∷◌, map, Bool, true, false, Option, Some, None, option_map}
use Rattle.std.specs.Prelude.{Result, Ok, Err, Vec, string_bytes, unwrap_or, length, slice_get}
use Rattle.std.specs.List.{AllByRecursion}
use Rattle.std.specs.declared.alloc.Global.{Global}
use Rattle.strkw_report.specs.Refusals.{reason_of as text_reason_of}
use Rattle.strkw_report.specs.declared.refusal.CompileError.{CompileError}
use Rattle.strkw_report.specs.declared.refusal.CompileErrorKind.{CompileErrorKind}
use Rattle.strkw_report.specs.declared.refusal.CompileErrorKind.TheVariants.{Memory as OutOfMemory}
use Rattle.strkw_keywords.specs.declared.keyword.Keyword.{Keyword as TextKeyword}
use Rattle.strkw_keywords.specs.declared.keyword.Keyword.TheVariants as text
use Rattle.strkw_keywords.specs.declared.validator.Validator.{Validator}
use Rattle.strkw_keywords.specs.Keywords.{keyword_name}
use Rattle.strkw_keywords.specs.Validators.{assertions_of, demands_of}
use Rattle.strkw_pattern.specs.declared.engine.Outcome.{Outcome}
use Rattle.strkw_keywords.specs.Meanings.{Lists}
use Rattle.neldrafi_schema.specs.declared.node.Body.{Body as CompiledBody}
use Rattle.neldrafi_schema.specs.declared.problem.Problem.{Problem}
use Rattle.neldrafi_schema.specs.declared.reading.RefusedPattern.{RefusedPattern}
use Rattle.neldrafi_schema.specs.declared.reading.Said.{Said}
use Rattle.neldrafi_schema.specs.declared.reading.Said.TheVariants as said
use Rattle.neldrafi_schema.specs.declared.leads.Lead.{Lead as CompiledLead}
use Rattle.neldrafi_schema.specs.declared.senses.Sense.{Sense as CompiledSense}
use Rattle.neldrafi_schema.specs.declared.senses.Sense.TheVariants as sense
use Rattle.neldrafi_schema.specs.Values.{Lead, Sense, nothing, says, refused}
use Rattle.neldrafi_schema.specs.Paths.{Path, key}
use Rattle.neldrafi_schema.specs.Schemas.{by_string_keyword, Keyword, malformed, string_keyword, Body, always, never, neither, keywords}
use Rattle.neldrafi_schema.specs.Reading.{Numbered, Patterns, patterns, malformed_at, numbered_by}
use Rattle.neldrafi_schema.specs.Scopes.{Scope, ScopedPath}
use Rattle.neldrafi_schema.specs.Refusals.{body_problems}
use Rattle.neldrafi_schema.specs.machine.Compiled.{segment_of, rule_of, keyword_of, body_of}
use Rattle.neldrafi_schema.specs.machine.Places.{Extends, place_path}
use Rattle.neldrafi_schema.specs.machine.Problems.{Notes, reason_of}
use Rattle.neldrafi_schema.specs.machine.Ready.{IsBodyReady, IsKeywordReady, IsPattern, IsPatternReady}
use Rattle.neldrafi_schema.specs.machine.Ready.{IsRuleReady, RestsOn}

-- a fact of the numbers of these paths, entered from a scope, however many more are found
abbrev pub Always : List ScopedPath → Scope → (Numbered → Type 0) → Type 0
Always paths scope P = (all : List ScopedPath) → Extends paths all → P (numbered_by all scope)

-- what a keyword came to, with its schemas by their places
abbrev pub lead_of : CompiledLead → Lead
lead_of l = record { key = option_map segment_of l.key; path = place_path l.place }

abbrev pub is_memory : CompileErrorKind → Bool
is_memory OutOfMemory = true
is_memory other = false

abbrev pub is_out_of_memory : {V : Type 0} → Option (Result V CompileError) → Bool
is_out_of_memory (Some (Err e)) = is_memory e.kind
is_out_of_memory other = false

module _ {E : Type 0} (outcome : E → List ℕ → Outcome) where
  abbrev pub sense_of : CompiledSense E → Sense
  sense_of sense.Nothing = nothing
  sense_of (sense.Says r leads) = says (rule_of outcome r) (map lead_of leads.items)
  sense_of (sense.Refused kind) = refused (reason_of kind)

  -- the keywords that a member of this name comes to
  abbrev pub said_keywords : List ℕ → Said E → List Keyword
  said_keywords name said.Nothing = []
  said_keywords name (said.Keyword k) = keyword_of outcome k ∷ []
  said_keywords name (said.Malformed kind) = malformed (key name ∷ []) (reason_of kind) ∷ []
  said_keywords name (said.MalformedAt below kind) =
      malformed (key name ∷ key (string_bytes below) ∷ []) (reason_of kind) ∷ []

  abbrev pub IsSaidReady : Lists → List ScopedPath → Said E → Type 0
  IsSaidReady lists paths (said.Keyword k) = (all : List ScopedPath) → Extends paths all
      → IsKeywordReady outcome (RestsOn outcome lists) (length all) k
  IsSaidReady lists paths other = Unit {0}

  -- a rule with patterns, and what a rule may be called with
  abbrev pub IsSenseReady : Lists → CompiledSense E → Type 0
  IsSenseReady lists (sense.Says r leads) =
      (count : ℕ) → IsRuleReady outcome (RestsOn outcome lists) count r
  IsSenseReady lists other = Unit {0}

  -- what a string keyword comes to, which stands there
  abbrev pub read_keywords : Path → TextKeyword → Option (Result (Validator E) CompileError) → List Keyword
  read_keywords at k None = []
  read_keywords at k (Some (Ok v)) =
      string_keyword (keyword_name k) (assertions_of outcome v) ∷ []
  read_keywords at k (Some (Err e)) = malformed at (by_string_keyword (text_reason_of e.kind)) ∷ []

  abbrev pub IsReadReady : Lists → TextKeyword → Option (Result (Validator E) CompileError) → Type 0
  IsReadReady lists k (Some (Ok v)) = RestsOn outcome lists v
      × (k ≡ text.Pattern → AllByRecursion IsPattern (demands_of outcome v))
  IsReadReady lists k other = Unit {0}

  -- what patterns come to below a keyword of this name
  abbrev pub patterns_of : List ℕ → Result (Vec (Validator E) Global) RefusedPattern → Patterns
  patterns_of name (Ok vs) = patterns (map (assertions_of outcome) vs.items)
  patterns_of name (Err p) = malformed_at (key name ∷ key (string_bytes p.pattern) ∷ [])
      (by_string_keyword (text_reason_of p.refusal.kind))

  abbrev pub ArePatternsReady : Lists → Result (Vec (Validator E) Global) RefusedPattern → Type 0
  ArePatternsReady lists (Ok vs) = (count : ℕ)
      → AllByRecursion (IsPatternReady outcome (RestsOn outcome lists) count) vs.items
  ArePatternsReady lists (Err p) = Unit {0}

-- the keywords that have a meaning
abbrev pub meaningful_one : Keyword → List Keyword
meaningful_one (malformed path why) = []
meaningful_one k = k ∷ []

abbrev pub meaningful : List Keyword → List Keyword
meaningful [] = []
meaningful (k ∷ ks) = meaningful_one k ++ meaningful ks

-- a value that is no schema is compiled to one that says nothing
abbrev pub meaningful_body : Body → Body
meaningful_body always = always
meaningful_body never = never
meaningful_body neither = always
meaningful_body (keywords ks) = keywords (meaningful ks)

-- What was read of a schema: what it says, its problems, which were noted, and that what has a
-- meaning was compiled.
pub record Reads {E : Type 0} (outcome : E → List ℕ → Outcome) (lists : Lists)
    (says : Numbered → Body → Type 0) (scope : Scope) (path : Path) (paths : List ScopedPath)
    (old new : Option Problem) (body : CompiledBody E) : Type 0 where
  pub said : Body
  pub means : Always paths scope (λ numbered. says numbered said)
  pub notes : Notes (body_problems path said) old new
  pub same : body_of outcome body ≡ meaningful_body said
  pub ready : (all : List ScopedPath) → Extends paths all
      → IsBodyReady outcome (RestsOn outcome lists) (length all) body

-- a flag, false where there is none
abbrev pub flag_at : List Bool → ℕ → Bool
flag_at flags n = unwrap_or (slice_get flags n) false
