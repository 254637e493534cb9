-- A compiled schema in words, by the outcomes of its engines and the meanings of the boxes that its
-- lists hold.
use Rattle.std.specs.Prelude.{ℕ, List, [], ◌∷◌, Bool, false, ◌==◌, ◌||◌, codes, if◌then◌else◌}
use Rattle.std.specs.Str.{byte}
use Rattle.strkw_pattern.specs.declared.engine.Outcome.{Outcome}
use Rattle.strkw_keywords.specs.Handed.{lists_of}
use Rattle.strkw_keywords.specs.Meanings.{Decoded, Lists}
use Rattle.neldrafi_schema.specs.declared.node.Node.{Node}
use Rattle.neldrafi_schema.specs.declared.schema.Schema.{Schema as CompiledSchema}
use Rattle.neldrafi_schema.specs.Schemas.{Schema}
use Rattle.neldrafi_schema.specs.machine.Compiled.{schemas_of}
use Rattle.neldrafi_schema.specs.machine.Ready.{IsReady, RestsOn}

-- a token begins with a plus, or with a 0 before more
abbrev pub begins_oddly : List ℕ → Bool
begins_oddly [] = false
begins_oddly (c ∷ []) = c == byte "+"
begins_oddly (c ∷ d ∷ rest) = c == byte "+" || c == byte "0"

-- what a `~` and the part of a token behind it stand for
abbrev pub after_tilde : List ℕ → List ℕ
after_tilde [] = codes "~"
after_tilde (c ∷ cs) =
    if c == byte "1" then byte "/" ∷ cs else (if c == byte "0" then byte "~" ∷ cs else byte "~" ∷ c ∷ cs)

-- the calls of nodes may be made with these checks
abbrev pub AreReady : {E : Type 0} → (E → List ℕ → Outcome) → Lists → List (Node E) → Type 0
AreReady outcome lists nodes = IsReady outcome (RestsOn outcome lists) nodes

module _ {E X : Type 0} {F : X → Type 0} {Y : Type 0} {M : Y → Type 0} {Z : Type 0} {C : Z → Type 0} where
  -- the list of schemas that it stands for
  abbrev pub schemas_in : (E → List ℕ → Outcome) → CompiledSchema E X Y Z F M C → List Schema
  schemas_in outcome schema = schemas_of outcome schema.nodes.items

  -- the checks that it was compiled with
  abbrev pub lists_in : ((x : X) × F x → List ℕ → Bool) → ((y : Y) × M y → List ℕ → Bool)
      → ((z : Z) × C z → List ℕ → Bool) → ((z : Z) × C z → List ℕ → Decoded)
      → CompiledSchema E X Y Z F M C → Lists
  lists_in admits accepts is_encoding decoding schema =
      lists_of admits accepts is_encoding decoding schema.checks

  -- its calls may be made with these checks
  abbrev pub IsCompiled : (E → List ℕ → Outcome) → Lists → CompiledSchema E X Y Z F M C → Type 0
  IsCompiled outcome lists schema = AreReady outcome lists schema.nodes.items
