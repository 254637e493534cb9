-- The tokens of a line. No public clause speaks of them.
use Rattle.std.specs.Prelude.{Bool, true, false, List, [], ◌∷◌}
use Rattle.json.specs.Token.{Token}

abbrev pub begins_object : List Token → Bool
begins_object [] = false
begins_object (Token.begin_object ∷ ts) = true
begins_object (Token.end_object ∷ ts) = false
begins_object (Token.begin_array ∷ ts) = false
begins_object (Token.end_array ∷ ts) = false
begins_object (Token.key s ∷ ts) = false
begins_object (Token.string s ∷ ts) = false
begins_object (Token.number s ∷ ts) = false
begins_object (Token.boolean b ∷ ts) = false
begins_object (Token.null ∷ ts) = false
begins_object (Token.bad ∷ ts) = false
