-- Objects of JSON, of what stands at which name.
use Rattle.std.specs.Prelude.{ℕ, List, [], ◌∷◌}
use Rattle.std.specs.Borrow.{Bor}
use Rattle.serde_json.specs.Data.{Data, array, boolean, number, unsigned, string, object}
use Rattle.serde_json.specs.Data.{item, no_items}
use Rattle.serde_json.specs.View.{view}
use Rattle.serde_json.specs.Data.{Members, no_members, put}
use Rattle.neldrafi_check.specs.declared.objects.Datum.{Datum}
use Rattle.neldrafi_check.specs.declared.objects.Datum.TheVariants.{Text, Number, Flag, Value, Single}

abbrev pub array_of_one : Data → Data
array_of_one d = array (item d no_items)

-- the data that it is
abbrev pub data_of : Datum → Data
data_of (Text text) = string text.now
data_of (Number n) = number (unsigned n)
data_of (Flag b) = boolean b
data_of (Value v) = view v.now
data_of (Single v) = array_of_one (view v.now)

-- the members, with these put in one after the other
abbrev pub with_members : List (Bor (List ℕ) × Datum) → Members → Members
with_members [] ms = ms
with_members (m ∷ more) ms = with_members more (put m.0.now (data_of m.1) ms)

-- the object of these members
abbrev pub object_of : List (Bor (List ℕ) × Datum) → Data
object_of ms = object (with_members ms no_members)
