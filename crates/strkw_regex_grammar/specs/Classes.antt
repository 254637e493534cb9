-- Classes of characters, after `CharacterClass` of ECMA-262 2024, section 22.2.1, in Unicode mode.
-- The standard gives their contents from the last item on (`NonemptyClassRanges`), these trees from
-- the first: a `-` stands for itself at the beginning, behind a range, and before the closing
-- bracket.
use Rattle.std.specs.Prelude.{◌≡◌, ℕ, nat_le, Bool, true, false, List, [], ◌∷◌, ◌++◌, Option, Some}
use Rattle.std.specs.Prelude.{None, if◌then◌else◌, ◌==◌}
use Rattle.std.specs.Str.{byte}
use Rattle.strkw_regex_grammar.specs.Escapes.{Escape, itself, escape}
use Rattle.strkw_charset.specs.Properties.{Expression, property_of, property_spelling}
use Rattle.strkw_charset.specs.declared.tree.CharSet.{CharSet}
use Rattle.strkw_charset.specs.declared.tree.CharSet.TheVariants.{Range, Property as PropertySet}
use Rattle.strkw_charset.specs.declared.properties.Property.{Property}
use Rattle.strkw_regex_grammar.specs.Codes.{Code, code_spelling, code_value}
use Rattle.strkw_charset.specs.Sets.{control_char, set_ranges}
pub use Rattle.strkw_regex_grammar.specs.declared.tokens.ClassToken.{ClassToken}
pub use Rattle.strkw_regex_grammar.specs.declared.tokens.ClassToken.TheVariants.{Closing as closing_bracket}
pub use Rattle.strkw_regex_grammar.specs.declared.tokens.ClassToken.TheVariants.{Backslash as class_escaper}
pub use Rattle.strkw_regex_grammar.specs.declared.tokens.ClassToken.TheVariants.{Dash as dash}
pub use Rattle.strkw_regex_grammar.specs.declared.tokens.ClassToken.TheVariants.{Character as class_char}

-- what a character is in a class
abbrev pub class_token : ℕ → ClassToken
class_token c =
    if c == byte "]" then closing_bracket else if c == byte "\\" then class_escaper
    else if c == byte "-" then dash
    else class_char

-- what a character is behind a backslash in a class: ClassEscape takes `-` too, and `b` is the
-- backspace
abbrev pub class_escape : ℕ → Escape
class_escape c = if c == byte "-" then itself else escape c

-- ClassAtom
pub data ClassAtom : Type 0 where
  class_plain : ℕ → ClassAtom
  hyphen : ClassAtom
  class_escaped : ℕ → ClassAtom
  class_control : ℕ → ClassAtom
  class_set : ℕ → ClassAtom
  backspace : ClassAtom
  class_coded : Code → ClassAtom
  class_property : Bool → Expression → ClassAtom

-- ClassContents: nothing, or what stands before its last atom or range
pub data Ranges : Type 0 where
  no_ranges : Ranges
  with_one : Ranges → ClassAtom → Ranges
  with_range : Ranges → ClassAtom → ClassAtom → Ranges

-- what an atom of a class stands for: one character, or those of a letter or of a property
pub data Item : Type 0 where
  char : ℕ → Item
  set_item : List CharSet → Item

-- the set of a property, where there is one
abbrev pub property_set : Bool → Option Property → List CharSet
property_set n None = []
property_set n (Some p) = PropertySet n p ∷ []

abbrev pub item : ClassAtom → Item
item (class_plain c) = char c
item hyphen = char (byte "-")
item (class_escaped c) = char c
item (class_control c) = char (control_char c)
item (class_set c) = set_item (set_ranges c)
item backspace = char 8
item (class_coded k) = char (code_value k)
item (class_property n e) = set_item (property_set n (property_of e))

abbrev pub item_sets : Item → List CharSet
item_sets (char c) = Range c c ∷ []
item_sets (set_item rs) = rs

-- characters alone bound a range, and the first is not the greater
abbrev pub range : Item → Item → Option CharSet
range (char c) (char d) = if nat_le c d then Some (Range c d) else None
range (char c) (set_item rs) = None
range (set_item rs) i = None

abbrev pub range_list : Option CharSet → List CharSet
range_list None = []
range_list (Some r) = r ∷ []

-- CompileToCharSet (section 22.2.2.9)
abbrev pub sets_of : Ranges → List CharSet
sets_of no_ranges = []
sets_of (with_one r x) = sets_of r ++ item_sets (item x)
sets_of (with_range r x y) = sets_of r ++ range_list (range (item x) (item y))

-- with the `-` before the closing bracket, where there is one
abbrev pub contents : Ranges → Bool → List CharSet
contents r false = sets_of r
contents r true = sets_of r ++ item_sets (char (byte "-"))

abbrev pub class_atom_spelling : ClassAtom → List ℕ
class_atom_spelling (class_plain c) = c ∷ []
class_atom_spelling hyphen = byte "-" ∷ []
class_atom_spelling (class_escaped c) = byte "\\" ∷ c ∷ []
class_atom_spelling (class_control c) = byte "\\" ∷ c ∷ []
class_atom_spelling (class_set c) = byte "\\" ∷ c ∷ []
class_atom_spelling backspace = byte "\\" ∷ byte "b" ∷ []
class_atom_spelling (class_coded k) = byte "\\" ∷ code_spelling k
class_atom_spelling (class_property n e) = byte "\\" ∷ property_spelling n e

abbrev pub ranges_spelling : Ranges → List ℕ
ranges_spelling no_ranges = []
ranges_spelling (with_one r x) = ranges_spelling r ++ class_atom_spelling x
ranges_spelling (with_range r x y) =
    (ranges_spelling r ++ class_atom_spelling x) ++ byte "-" ∷ class_atom_spelling y

abbrev pub negation_spelling : Bool → List ℕ
negation_spelling false = byte "[" ∷ []
negation_spelling true = byte "[" ∷ byte "^" ∷ []

abbrev pub ending_spelling : Bool → List ℕ
ending_spelling false = byte "]" ∷ []
ending_spelling true = byte "-" ∷ byte "]" ∷ []

abbrev pub is_hyphen : ClassAtom → Bool
is_hyphen hyphen = true
is_hyphen x = false

-- a class that begins with `^` is a negated one
abbrev pub is_caret : ClassAtom → Bool
is_caret (class_plain c) = c == byte "^"
is_caret x = false

abbrev pub MayBegin : Bool → ClassAtom → Type 0
MayBegin true x = Unit {0}
MayBegin false x = is_caret x ≡ false

-- the atom may stand behind these, in a class that is negated or not
abbrev pub MayFollow : Bool → Ranges → ClassAtom → Type 0
MayFollow n no_ranges x = MayBegin n x
MayFollow n (with_one r y) x = is_hyphen x ≡ false
MayFollow n (with_range r y z) x = Unit {0}

-- a `-` before the closing bracket is one behind an atom: elsewhere it is itself an atom
abbrev pub MayEnd : Bool → Ranges → Type 0
MayEnd false r = Unit {0}
MayEnd true no_ranges = ⊥
MayEnd true (with_one r x) = Unit {0}
MayEnd true (with_range r x y) = ⊥
