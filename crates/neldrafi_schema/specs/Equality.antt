-- When two values are the same (Core 2020-12, section 4.2.2; draft 7, section 4.2.3).
use Rattle.std.specs.Prelude.{Bool, true, false, not, ◌&&◌, ◌||◌}
use Rattle.std.specs.Bool.{beq}
use Rattle.std.specs.Str.{bytes_eq}
use Rattle.serde_json.specs.Data.{Data, null, boolean, number, string, array, object}
use Rattle.serde_json.specs.Data.{Items, no_items, item, Members, no_members, member}
use Rattle.neldrafi_schema.specs.Numbers.{same_number}

-- An object has each key once, and keeps its members by the bytes of their keys.
abbrev mutual
  pub same : Data → Data → Bool
  same null null = true
  same (boolean a) (boolean b) = beq a b
  same (number x) (number y) = same_number x y
  same (string s) (string t) = bytes_eq s t
  same (array ds) (array es) = same_items ds es
  same (object ms) (object ns) = same_members ms ns
  same other d = false

  pub same_items : Items → Items → Bool
  same_items no_items no_items = true
  same_items (item d ds) (item e es) = same d e && same_items ds es
  same_items other es = false

  pub same_members : Members → Members → Bool
  same_members no_members no_members = true
  same_members (member k d ms) (member l e ns) = bytes_eq k l && same d e && same_members ms ns
  same_members other ns = false

abbrev pub has_same : Data → Items → Bool
has_same d no_items = false
has_same d (item e es) = same d e || has_same d es

-- no two items are the same
abbrev pub are_distinct : Items → Bool
are_distinct no_items = true
are_distinct (item d ds) = not (has_same d ds) && are_distinct ds
