-- The members to which the schema of a keyword applies, by their names.
use Rattle.std.specs.Prelude.{◌≡◌, ℕ, List, Bool, true, not}
use Rattle.std.specs.List.{AllByRecursion, filter, list_any}
use Rattle.serde_json.specs.Data.{Data}
use Rattle.strkw_pattern.specs.declared.engine.Outcome.{Outcome}
use Rattle.strkw_keywords.specs.Validators.{assertions_of}
use Rattle.strkw_keywords.specs.declared.validator.Validator.{Validator}
use Rattle.neldrafi_schema.specs.Rules.{is_matched, leads_to, members_in}
use Rattle.neldrafi_schema.specs.declared.rules.Chosen.{Chosen}
use Rattle.neldrafi_schema.specs.declared.rules.Chosen.TheVariants.{Others, Matched}
use Rattle.neldrafi_schema.specs.machine.Compiled.{keywords_of}
use Rattle.neldrafi_schema.specs.machine.Ordered.{IsInOrder}
use Rattle.neldrafi_schema.specs.machine.Ready.{IsKeywordReady, IsPatternReady}

module _ {E : Type 0} (outcome : E → List ℕ → Outcome) where
  abbrev pub is_chosen : Chosen E → List ℕ → Bool
  is_chosen (Others beside in_order) name =
      not (list_any (leads_to name) (keywords_of outcome beside.now))
  is_chosen (Matched pattern) name = is_matched name (assertions_of outcome pattern.now)

  abbrev pub chosen_members : Chosen E → Data → List (List ℕ × Data)
  chosen_members chosen d = filter (λ m. is_chosen chosen m.0) (members_in d)

  -- what is looked at is ready
  abbrev pub IsChosenReady : (Validator E → Type 0) → ℕ → Chosen E → Type 0
  IsChosenReady MayCall count (Others beside in_order) =
      AllByRecursion (IsKeywordReady outcome MayCall count) beside.now
      × (in_order ≡ true → AllByRecursion IsInOrder beside.now)
  IsChosenReady MayCall count (Matched pattern) =
      IsPatternReady outcome MayCall count pattern.now
