-- Values that are built token by token.
use Rattle.std.proofs.Common.{◌≡◌, List, [], ◌∷◌, ◌++◌, Bool, String, Global, string_bytes, Option, Some, None, refl, ap, rules}
use Rattle.json.specs.Token.{Token}
use Rattle.json.specs.Json.{parse_map}
use Rattle.serde_json.specs.Data.{null, boolean, number, string, Items, no_items, item}
use Rattle.serde_json.specs.View.{view, number_view, items_view}
use Rattle.serde_json.specs.declared.number.Number as declared
use Rattle.serde_json.specs.declared.value.Value.{Value, Null, the_lemmas}

-- ---- a value, by what it is made of

-- null is seen as null
pub null_built : view Null ≡ null
null_built = search (rules, the_lemmas)

-- a truth value is seen as that truth value
pub bool_built : (b : Bool) → view (Value.Bool b) ≡ boolean b
bool_built b = search (rules, the_lemmas)

-- a number is seen as that number
pub number_built : (x : declared.Number) → view (Value.Number x) ≡ number (number_view x)
number_built x = search (rules, the_lemmas)

-- and a text is seen as its bytes
pub string_built : (s : String Global) → view (Value.String s) ≡ string (string_bytes s)
string_built s = search (rules, the_lemmas)

-- ---- items that are built one after the other

-- values, and then what is to come
abbrev pub behind_built : List Value → Items → Items
behind_built [] rest = rest
behind_built (v ∷ vs) rest = item (view v) (behind_built vs rest)

-- with nothing to come, they are the items of an array of these values
pub all_built : (vs : List Value) → behind_built vs no_items ≡ items_view vs
all_built [] = refl
all_built (v ∷ vs) = ap (item (view v)) (all_built vs)

-- behind no values, what was read stays as it is
pub none_built : (r : Option (Items × List Token)) → r ≡ parse_map (behind_built []) r
none_built None = refl
none_built (Some p) = refl

-- values put before one more, and that before what was read, are all put before it
pub one_more_built : (vs : List Value) (v : Value) (r : Option (Items × List Token))
    → parse_map (behind_built vs) (parse_map (item (view v)) r) ≡ parse_map (behind_built (vs ++ v ∷ [])) r
one_more_built vs v None = refl
one_more_built vs v (Some p) = ap (λ ds. Some (ds, p.1)) (at_end vs)
  where
    at_end : (ws : List Value) → behind_built ws (item (view v) p.0) ≡ behind_built (ws ++ v ∷ []) p.0
    at_end [] = refl
    at_end (w ∷ ws) = ap (item (view w)) (at_end ws)
