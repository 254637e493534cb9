-- Which characters are in a set, in one of some sets, and in a class.
use Rattle.std.specs.Prelude.{ℕ, Bool, true, false, not, ◌&&◌, ◌||◌, nat_le, List, [], ◌∷◌}
use Rattle.strkw_charset.specs.Properties.{has_property}
use Rattle.strkw_charset.specs.declared.tree.CharSet.{CharSet}
use Rattle.strkw_charset.specs.declared.tree.CharSet.TheVariants.{Range, Property}

abbrev pub differ : Bool → Bool → Bool
differ true b = not b
differ false b = b

-- the character lies in the range, both ends included; or it has the property, or where the first
-- holds, has it not
abbrev pub in_set : CharSet → ℕ → Bool
in_set (Range low high) c = nat_le low c && nat_le c high
in_set (Property lacked p) c = differ lacked (has_property p c)

-- it is one of some set
abbrev pub in_sets : List CharSet → ℕ → Bool
in_sets [] c = false
in_sets (r ∷ rs) c = in_set r c || in_sets rs c

-- the class has the character
abbrev pub is_member : Bool → List CharSet → ℕ → Bool
is_member negated rs c = differ negated (in_sets rs c)
