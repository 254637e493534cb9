-- A name that is duplicated in an object of a JSON text, and why such a text is refused.
-- `HasUniqueKeys` of the kit says that none is. Names are compared as they are without escapes.
use Rattle.std.specs.Prelude.{◌≡◌, ◌⊎◌, ℕ, List, ◌∷◌, ◌++◌, None, string_bytes}
use Rattle.std.specs.Prelude.{IsSome, IsSomeAnd, IsTrue, ⊤}
use Rattle.std.specs.List.{list_any}
use Rattle.std.specs.Str.{bytes_eq}
use Rattle.json.specs.Json.{Json, null, boolean, number, string, array, object, document}
use Rattle.json.specs.Json.{Items, no_items, item, Members, no_members, member}
use Rattle.json.specs.Strict.{keys}
use Rattle.serde_json.specs.Read.{read}
use Rattle.neldrafi.specs.declared.distinct.TextFault.{TextFault}
use Rattle.neldrafi.specs.declared.distinct.TextFault.TheVariants.{NotJson, Duplicate, Memory}

-- a name comes again among these: it stands behind others, one of which is the same
abbrev pub ComesAgain : List ℕ → List (List ℕ) → Type 0
ComesAgain name names = (before : List (List ℕ)) × (after : List (List ℕ))
    × (names ≡ before ++ name ∷ after) × IsTrue (list_any (bytes_eq name) before)

-- an object in the value, at any depth, has two members of this name
abbrev mutual
  pub HasDuplicate : List ℕ → Json → Type 0
  HasDuplicate name null = ⊥
  HasDuplicate name (boolean b) = ⊥
  HasDuplicate name (number s) = ⊥
  HasDuplicate name (string s) = ⊥
  HasDuplicate name (array js) = ItemsHaveDuplicate name js
  HasDuplicate name (object ms) = ComesAgain name (keys ms) ⊎ MembersHaveDuplicate name ms

  pub ItemsHaveDuplicate : List ℕ → Items → Type 0
  ItemsHaveDuplicate name no_items = ⊥
  ItemsHaveDuplicate name (item j js) = HasDuplicate name j ⊎ ItemsHaveDuplicate name js

  -- in the values of the members
  pub MembersHaveDuplicate : List ℕ → Members → Type 0
  MembersHaveDuplicate name no_members = ⊥
  MembersHaveDuplicate name (member k j ms) = HasDuplicate name j ⊎ MembersHaveDuplicate name ms

-- The fault says why the text is refused: `serde_json` reads no value of it; or it does, and a name
-- is duplicated in an object; or it is out of memory.
abbrev pub RefusesText : List ℕ → TextFault → Type 0
RefusesText text (NotJson e) = read text ≡ None
RefusesText text (Duplicate name) = IsSome (read text)
    × IsSomeAnd (document text) (HasDuplicate (string_bytes name))
RefusesText text Memory = ⊤
