-- What `serde_json` reads of a text's tokens, and what is left of them behind it.
use Rattle.std.specs.Prelude.{ℕ, List, length, Option, Some, None, option_map}
use Rattle.json.specs.Token.{Token}
use Rattle.json.specs.Json.{value, items, members}
use Rattle.serde_json.specs.Data.{Data, null, boolean, number, string, array, object, Items}
use Rattle.serde_json.specs.Data.{Members, no_members}
use Rattle.serde_json.specs.Read.{of_json, of_items, of_members, converted}

-- the value that comes first, with what is left
abbrev pub value_read : ℕ → List Token → Option (Data × List Token)
value_read depth ts = converted of_json (value depth ts)

-- .. the items that are left of an array
abbrev pub items_read : ℕ → List Token → Option (Items × List Token)
items_read depth ts = converted of_items (items (value depth) (length ts) ts)

-- .. the members that are left of an object
abbrev pub members_read : ℕ → List Token → Option (Members × List Token)
members_read depth ts = converted (λ ms. of_members ms no_members)
    (members (value depth) (length ts) ts)

-- what is left, whatever was read
abbrev pub tokens_left : {A : Type 0} → Option (A × List Token) → Option (List Token)
tokens_left read = option_map (λ p. p.1) read

abbrev pub after_value : ℕ → List Token → Option (List Token)
after_value depth ts = tokens_left (value_read depth ts)

abbrev pub after_items : ℕ → List Token → Option (List Token)
after_items depth ts = tokens_left (items_read depth ts)

abbrev pub after_members : ℕ → List Token → Option (List Token)
after_members depth ts = tokens_left (members_read depth ts)

-- a value, where it is no text, no array and no object
abbrev pub scalar_in : Data → Option Data
scalar_in null = Some null
scalar_in (boolean b) = Some (boolean b)
scalar_in (number n) = Some (number n)
scalar_in (string s) = None
scalar_in (array ds) = None
scalar_in (object ms) = None
