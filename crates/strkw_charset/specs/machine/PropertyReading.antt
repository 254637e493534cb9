-- How `p{ }` and `P{ }` are read, behind the backslash and the letter.
use Rattle.std.specs.Prelude.{ℕ, ◌==◌, Bool, true, false, [], ◌∷◌, ◌++◌, if◌then◌else◌}
use Rattle.std.specs.Str.{byte}
use Rattle.strkw_charset.specs.Properties.{Expression, alone, valued, is_property_char}

-- what has been read: the letter, which says whether the property is to be missing; or behind it
-- `{` and a part of an expression
pub data PropertyPart : Type 0 where
  brace_awaited : Bool → PropertyPart
  in_braces : Bool → Expression → PropertyPart

-- what comes of one more character: nothing that may stand there, a longer part, or the whole
pub data PropertyRead : Type 0 where
  no_property_read : PropertyRead
  property_goes : PropertyPart → PropertyRead
  property_ends : Bool → Expression → PropertyRead

abbrev pub with_char : Expression → ℕ → Expression
with_char (alone v) c = alone (v ++ c ∷ [])
with_char (valued n v) c = valued n (v ++ c ∷ [])

abbrev pub on_brace : Bool → Bool → PropertyRead
on_brace n false = no_property_read
on_brace n true = property_goes (in_braces n (alone []))

abbrev pub on_equals : Bool → Expression → PropertyRead
on_equals n (alone v) = property_goes (in_braces n (valued v []))
on_equals n (valued m v) = no_property_read

abbrev pub on_property_char : Bool → Expression → ℕ → Bool → PropertyRead
on_property_char n e c false = no_property_read
on_property_char n e c true = property_goes (in_braces n (with_char e c))

abbrev pub property_next : PropertyPart → ℕ → PropertyRead
property_next (brace_awaited n) c = on_brace n (c == byte "{")
property_next (in_braces n e) c =
    if c == byte "}" then property_ends n e else if c == byte "=" then on_equals n e
    else on_property_char n e c (is_property_char c)
