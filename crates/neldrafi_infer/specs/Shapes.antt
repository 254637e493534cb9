-- What is seen of a JSON value.
use Rattle.std.specs.Prelude.{ℕ, List, [], ◌∷◌, ◌++◌, true, false, codes, if◌then◌else◌}
use Rattle.json.specs.Json.{Json, null, boolean, number, string, array, object}
use Rattle.neldrafi_infer.specs.Hypotheses.{Seen}
use Rattle.neldrafi_infer.specs.Kinds.{has_part}
use Rattle.neldrafi_infer.specs.Properties.{IsPropertyOf}
use Rattle.neldrafi_infer.specs.declared.kinds.Kind.{Kind}
use Rattle.neldrafi_infer.specs.declared.kinds.Kind.TheVariants as kind
use Rattle.neldrafi_infer.specs.declared.property.Property.{Property}
use Rattle.neldrafi_infer.specs.declared.shape.Shape.{Shape, out-Shape}
use Rattle.neldrafi_infer.specs.declared.shape.Member.{Member, out-Member}

-- its kind
abbrev pub kind_of : Json → Kind
kind_of null = kind.Null
kind_of (boolean b) = kind.Boolean
kind_of (number s) = if has_part s then kind.Number else kind.Integer
kind_of (string s) = kind.String
kind_of (array items) = kind.Array
kind_of (object ms) = kind.Object

-- and what is told of it: its text, if it has one
abbrev pub text_of : Json → List ℕ
text_of null = codes "null"
text_of (boolean true) = codes "true"
text_of (boolean false) = codes "false"
text_of (number s) = s
text_of (string s) = s
text_of (array items) = codes "an array"
text_of (object ms) = codes "an object"

-- what is held of the values at the place of a shape
abbrev pub held_at : Shape → Property
held_at s = (out-Shape s).property

-- .. and of a member's
abbrev pub held_in : Member → Property
held_in m = held_at (out-Member m).shape

-- the property is that of which this value was seen too
abbrev pub HasSeen : Property → Seen → Property → Type 0
HasSeen old s new = (ss : List Seen) → IsPropertyOf ss old → IsPropertyOf (ss ++ s ∷ []) new
