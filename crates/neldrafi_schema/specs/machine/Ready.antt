-- When the calls of a compiled schema may be made.
use Rattle.std.specs.Prelude.{◌≡◌, ◌<◌, ◌+◌, ◌*◌, ℕ, suc, List, true, length}
use Rattle.std.specs.List.{AllByRecursion}
use Rattle.serde_json.specs.Data.{Data, depth}
use Rattle.strkw_pattern.specs.declared.engine.Outcome.{Outcome}
use Rattle.strkw_keywords.specs.Demands.{Demand, compares, matches, IsInUse}
use Rattle.strkw_keywords.specs.Meanings.{Lists}
use Rattle.strkw_keywords.specs.Validators.{demands_of}
use Rattle.strkw_keywords.specs.declared.validator.Validator.{Validator}
use Rattle.neldrafi_schema.specs.declared.node.Node.{Node}
use Rattle.neldrafi_schema.specs.declared.node.Body.{Body}
use Rattle.neldrafi_schema.specs.declared.node.Body.TheVariants.{Always, Never, Keywords}
use Rattle.neldrafi_schema.specs.declared.node.Keyword.{Keyword}
use Rattle.neldrafi_schema.specs.declared.node.Keyword.TheVariants.{Rule as Rule_, Text}
use Rattle.neldrafi_schema.specs.declared.node.Rule.{Rule}
use Rattle.neldrafi_schema.specs.declared.node.Rule.TheVariants.{Matching}
use Rattle.neldrafi_schema.specs.declared.node.Ruled.{Ruled}
use Rattle.neldrafi_schema.specs.Refusals.{ends}
use Rattle.neldrafi_schema.specs.machine.Compiled.{schemas_of}

-- the rows on which a string keyword rests are there
abbrev pub RestsOn : {E : Type 0} → (E → List ℕ → Outcome) → Lists → Validator E → Type 0
RestsOn outcome lists v = IsInUse (demands_of outcome v) lists

-- it demands nothing but patterns
abbrev pub IsPattern : Demand → Type 0
IsPattern (compares p search) = Unit {0}
IsPattern (matches p search) = Unit {0}
IsPattern other = ⊥

module _ {E : Type 0} (outcome : E → List ℕ → Outcome) (MayCall : Validator E → Type 0) (count : ℕ) where
  abbrev pub IsPatternReady : Validator E → Type 0
  IsPatternReady v = MayCall v × AllByRecursion IsPattern (demands_of outcome v)

  abbrev pub IsRuleReady : Rule E → Type 0
  IsRuleReady (Matching patterns) = AllByRecursion IsPatternReady patterns.items
  IsRuleReady other = Unit {0}

  abbrev pub IsRuledReady : Ruled E → Type 0
  IsRuledReady r = IsRuleReady r.rule × AllByRecursion (λ b. b.schema < count) r.branches.items

  -- the schemas to which it leads are there, and string keywords may be called
  abbrev pub IsKeywordReady : Keyword E → Type 0
  IsKeywordReady (Rule_ r) = IsRuledReady r
  IsKeywordReady (Text k v) = MayCall v

  abbrev pub IsBodyReady : Body E → Type 0
  IsBodyReady Always = Unit {0}
  IsBodyReady Never = Unit {0}
  IsBodyReady (Keywords ks) = AllByRecursion IsKeywordReady ks.items

-- there is a root, ways that do not enter an instance end, and each keyword is ready
pub record IsReady {E : Type 0} (outcome : E → List ℕ → Outcome) (MayCall : Validator E → Type 0)
    (nodes : List (Node E)) : Type 0 where
  pub some : 0 < length nodes
  pub end : (n : ℕ) → n < length nodes
      → ends (schemas_of outcome nodes) (length nodes) n ≡ true
  pub each : AllByRecursion (λ node. IsBodyReady outcome MayCall (length nodes) node.body) nodes

-- how many steps are taken at most for an instance, where so many are left that do not enter it
abbrev pub steps_for : ℕ → Data → ℕ → ℕ
steps_for count d steps = depth d * suc count + steps
