-- Properties of characters in a pattern: `p{ }` and `P{ }` of CharacterClassEscape (ECMA-262 2024,
-- section 22.2.1), for the properties General_Category, Script and Script_Extensions, and for binary
-- properties.
use Rattle.std.specs.Prelude.{◌≡◌, ℕ, Bool, true, false, not, ◌&&◌, ◌||◌, ◌==◌, nat_le, List, []}
use Rattle.std.specs.Prelude.{◌∷◌, ◌++◌, map, filter_map, bytes_eq, codes, Option, Some, None}
use Rattle.std.specs.Prelude.{option_map, is_some, if◌then◌else◌, is_none}
use Rattle.std.specs.Option.{option_or}
use Rattle.std.specs.Char.{is_ascii_alphanumeric}
use Rattle.std.specs.Str.{byte}
use Prim.Native.String.{String}
use Rattle.ucd_category.specs.GeneralCategory.{general_category, general_category_eq}
use Rattle.ucd_category.specs.GeneralCategoryGroup.{in_group}
use Rattle.ucd_category.specs.declared.GeneralCategory.TheVariants.{Unassigned}
use Rattle.ucd_script.specs.Script.{script, script_eq}
use Rattle.ucd_script.specs.ScriptExtensions.{has_script_extension}
use Rattle.ucd_script.specs.declared.Script.{Script as ScriptValue}
use Rattle.ucd_sets.specs.Loose.{value_named}
use Rattle.ucd_sets.specs.Names.{category_names, script_names}
use Rattle.ucd_sets.specs.Property.{has_property as has_binary_property}
use Rattle.ucd_sets.specs.declared.set.Set.{Set}
use Rattle.ucd_sets.specs.declared.set.Set.TheVariants as set
use Rattle.strkw_charset.specs.BinaryNames.{binary_names}
use Rattle.strkw_charset.specs.declared.properties.Property.{Property}
use Rattle.strkw_charset.specs.declared.properties.Property.TheVariants.{Any, Ascii, Assigned}
use Rattle.strkw_charset.specs.declared.properties.Property.TheVariants.{Binary, Category, Group}
use Rattle.strkw_charset.specs.declared.properties.Property.TheVariants.{Script, ScriptExtensions}

-- the character has it
abbrev pub has_property : Property → ℕ → Bool
has_property Any c = true
has_property Ascii c = nat_le c 0x7F
has_property Assigned c = not (general_category_eq (general_category c) Unassigned)
has_property (Binary p) c = has_binary_property p c
has_property (Category v) c = general_category_eq (general_category c) v
has_property (Group g) c = in_group g (general_category c)
has_property (Script s) c = script_eq (script c) s
has_property (ScriptExtensions s) c = has_script_extension s c

-- of the sets that the kit names beside the categories, `Any`, `ASCII` and `Assigned` are none
abbrev pub category_of : Set → Option Property
category_of (set.Category v) = Some (Category v)
category_of (set.CategoryGroup g) = Some (Group g)
category_of s = None

abbrev pub category_row : String × Set → Option (List ℕ × Property)
category_row row = option_map (λ p. (codes row.0, p)) (category_of row.1)

abbrev pub script_row : String × ScriptValue → List ℕ × ScriptValue
script_row row = (codes row.0, row.1)

-- UnicodeMatchPropertyValue (section 22.2.2.9.2): the value with exactly this name in
-- PropertyValueAliases.txt
unfoldable pub category_named : List ℕ → Option Property
category_named = value_named (filter_map category_row category_names)

unfoldable pub script_value_named : List ℕ → Option ScriptValue
script_value_named = value_named (map script_row script_names)

abbrev pub binary_row : String × Property → List ℕ × Property
binary_row row = (codes row.0, row.1)

-- UnicodeMatchProperty (section 22.2.2.9.1), of the binary properties: the one with exactly this
-- name
unfoldable pub binary_named : List ℕ → Option Property
binary_named = value_named (map binary_row binary_names)

-- UnicodeMatchProperty, of the properties that have values: by their names in PropertyAliases.txt.
-- The values of Script_Extensions are those of Script
abbrev pub value_of : List ℕ → List ℕ → Option Property
value_of name value =
    if bytes_eq name (codes "General_Category")
    || bytes_eq name (codes "gc") then category_named value
    else if bytes_eq name (codes "Script")
    || bytes_eq name (codes "sc") then option_map Script (script_value_named value)
    else if bytes_eq name (codes "Script_Extensions")
    || bytes_eq name (codes "scx") then option_map ScriptExtensions (script_value_named value)
    else None

-- UnicodePropertyValueExpression: LoneUnicodePropertyNameOrValue, or a property's name and a value
pub data Expression : Type 0 where
  alone : List ℕ → Expression
  valued : List ℕ → List ℕ → Expression

abbrev pub expression_spelling : Expression → List ℕ
expression_spelling (alone v) = v
expression_spelling (valued n v) = n ++ byte "=" ∷ v

-- alone stands a category or a binary property, and no script
abbrev pub property_of : Expression → Option Property
property_of (alone v) = option_or (category_named v) (binary_named v)
property_of (valued n v) = value_of n v

-- UnicodePropertyValueCharacter, which each UnicodePropertyNameCharacter is too
abbrev pub is_property_char : ℕ → Bool
is_property_char c = is_ascii_alphanumeric c || c == byte "_"

abbrev pub are_property_chars : List ℕ → Bool
are_property_chars [] = true
are_property_chars (c ∷ cs) = is_property_char c && are_property_chars cs

abbrev pub has_property_chars : Expression → Bool
has_property_chars (alone v) = are_property_chars v
has_property_chars (valued n v) = are_property_chars n && are_property_chars v

abbrev pub IsExpression : Expression → Type 0
IsExpression e = (has_property_chars e ≡ true) × (is_some (property_of e) ≡ true)

-- behind the backslash: `P` is for the characters that have it not
abbrev pub property_letter : Bool → ℕ
property_letter false = byte "p"
property_letter true = byte "P"

abbrev pub property_spelling : Bool → Expression → List ℕ
property_spelling n e = property_letter n ∷ byte "{" ∷ (expression_spelling e ++ byte "}" ∷ [])

abbrev pub is_empty : List ℕ → Bool
is_empty [] = true
is_empty (c ∷ cs) = false

-- neither the value nor the name before it is empty
abbrev pub is_written : Expression → Bool
is_written (alone v) = not (is_empty v)
is_written (valued n v) = not (is_empty n) && not (is_empty v)

-- written, and of no property that is taken
abbrev pub is_unknown : Expression → Bool
is_unknown e = is_written e && is_none (property_of e)
