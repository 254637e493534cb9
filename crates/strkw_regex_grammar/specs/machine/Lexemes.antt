-- Lexemes: what a reader of patterns sees of the parts that stand in one.
use Rattle.std.specs.Prelude.{ℕ, nat_le, Bool, true, false, List, [], ◌∷◌, ◌++◌}
use Rattle.std.specs.Prelude.{Option, Some, None, if◌then◌else◌}
use Rattle.std.specs.Str.{byte}
use Rattle.strkw_charset.specs.Properties.{property_of}
use Rattle.strkw_charset.specs.Sets.{control_char, set_ranges}
use Rattle.strkw_charset.specs.declared.properties.Property.{Property}
use Rattle.strkw_charset.specs.declared.tree.CharSet.{CharSet}
use Rattle.strkw_charset.specs.declared.tree.CharSet.TheVariants.{Range, Property as PropertySet}
use Rattle.strkw_regex_grammar.specs.Classes.{ClassAtom, class_plain, hyphen, class_escaped}
use Rattle.strkw_regex_grammar.specs.Classes.{class_control, class_set, backspace, class_coded}
use Rattle.strkw_regex_grammar.specs.Classes.{class_property, Ranges, no_ranges, with_one}
use Rattle.strkw_regex_grammar.specs.Classes.{with_range}
use Rattle.strkw_regex_grammar.specs.Codes.{Code, null_code, letter_code, byte_code, unit_code}
use Rattle.strkw_regex_grammar.specs.Codes.{pair_code, point_code, code_value, hex_number, is_lead}
use Rattle.strkw_regex_grammar.specs.Codes.{is_trail, is_scalar}
use Rattle.strkw_regex_grammar.specs.Names.{name_value}
use Rattle.strkw_regex_grammar.specs.Numbers.{number as decimal}
use Rattle.strkw_regex_grammar.specs.Regex as regex
use Rattle.strkw_regex_grammar.specs.Regex.{Edge, Leaf, Part, capture_limit}
use Rattle.strkw_regex_grammar.specs.Syntax as syntax
use Rattle.strkw_regex_grammar.specs.Syntax.{Quantifier, Enclosing}
-- an escape by a number: `\u` with four digits, or another
pub use Rattle.strkw_regex_grammar.specs.declared.lexer.numbers.Form.{Form}
pub use Rattle.strkw_regex_grammar.specs.declared.lexer.numbers.Form.TheVariants.{Unit as unit_form}
pub use Rattle.strkw_regex_grammar.specs.declared.lexer.numbers.Form.TheVariants.{Other as other_form}
-- how often a quantifier repeats, with no number above the limit of numbers
pub use Rattle.strkw_regex_grammar.specs.declared.lexemes.Bounds.{Bounds}
use Rattle.strkw_regex_grammar.specs.declared.lexemes.Bounds.TheVariants as bounds
-- what stands in a class: a set, the characters with a property or without it, a character, written
-- or by its number, or `\u` with a surrogate
pub use Rattle.strkw_regex_grammar.specs.declared.lexer.classes.Item.{Item}
use Rattle.strkw_regex_grammar.specs.declared.lexer.classes.Item.TheVariants as items
pub use items.{Set as set_item, Property as property_item, Char as char_item, Number as code_item}
pub use items.{Lead as lead_item, Trail as trail_item}

-- what opens a group or a lookaround
pub data Opening : Type 0 where
  plain_group capture : Opening
  named : List ℕ → Opening
  behind ahead : Bool → Opening

pub data Lexeme : Type 0 where
  bar : Lexeme
  edge : Edge → Lexeme
  -- a character, written or escaped by a letter; one by its number, which may be a surrogate's
  char : ℕ → Lexeme
  number : Form → ℕ → Lexeme
  dot : Lexeme
  -- of `\d` and the like the letter; of a property none where the engine has no table
  set : ℕ → Lexeme
  property : Bool → Option Property → Lexeme
  -- negated or not, and its sets, where they are kept
  class : Bool → Option (List CharSet) → Lexeme
  reference : ℕ → Lexeme
  call : List ℕ → Lexeme
  begins : Opening → Lexeme
  ends : Lexeme
  repeats : Bounds → Lexeme
  -- `?`, which repeats, or makes a quantifier lazy
  question : Lexeme

-- those of a part
pub data Lexemes : Type 0 where
  single : Lexeme → Lexemes
  double : Lexeme → Lexeme → Lexemes

-- a number, held at the limit
abbrev pub cap_number : ℕ → ℕ
cap_number n = if nat_le n capture_limit then n else capture_limit

abbrev pub form : Code → Form
form null_code = other_form
form (letter_code c) = other_form
form (byte_code ds) = other_form
form (unit_code ds) = unit_form
form (pair_code ds es) = other_form
form (point_code ds) = other_form

-- a surrogate is one only as `\u` with four digits
abbrev pub number_item : Form → ℕ → Item
number_item other_form n = code_item n
number_item unit_form n =
    if is_lead n then lead_item n else if is_trail n then trail_item n else code_item n

abbrev pub item_of : ClassAtom → Item
item_of (class_plain c) = char_item c
item_of hyphen = char_item (byte "-")
item_of (class_escaped c) = char_item c
item_of (class_control c) = char_item (control_char c)
item_of (class_set c) = set_item c
item_of backspace = char_item 8
item_of (class_coded k) = number_item (form k) (code_value k)
item_of (class_property n e) = property_item n (property_of e)

-- the character of a text that an item is
abbrev pub scalar_if : Bool → ℕ → Option ℕ
scalar_if false n = None
scalar_if true n = Some n

abbrev pub item_char : Item → Option ℕ
item_char (char_item c) = Some c
item_char (code_item n) = scalar_if (is_scalar n) n
item_char x = None

-- its sets, and those of a range, where characters of a text are in them
abbrev pub range_of : Option ℕ → Option ℕ → Option (List CharSet)
range_of None o = None
range_of (Some n) None = None
range_of (Some n) (Some m) = Some (Range n m ∷ [])

abbrev pub property_sets : Bool → Option Property → Option (List CharSet)
property_sets n None = None
property_sets n (Some p) = Some (PropertySet n p ∷ [])

abbrev pub item_sets : Item → Option (List CharSet)
item_sets (set_item c) = Some (set_ranges c)
item_sets (property_item n o) = property_sets n o
item_sets x = range_of (item_char x) (item_char x)

abbrev pub range_sets : Item → Item → Option (List CharSet)
range_sets x y = range_of (item_char x) (item_char y)

-- some sets, and behind them others, where both are kept
abbrev pub keep : Option (List CharSet) → Option (List CharSet) → Option (List CharSet)
keep None o = None
keep (Some rs) None = None
keep (Some rs) (Some ss) = Some (rs ++ ss)

abbrev pub kept_if : Bool → List CharSet → Option (List CharSet)
kept_if false rs = None
kept_if true rs = Some rs

abbrev pub kept_from : Bool → Option (List CharSet)
kept_from false = None
kept_from true = Some []

abbrev pub hyphen_item : Item
hyphen_item = char_item (byte "-")

-- the sets of a class
abbrev pub ranges_sets : Bool → Ranges → Option (List CharSet)
ranges_sets b no_ranges = kept_from b
ranges_sets b (with_one r x) = keep (ranges_sets b r) (item_sets (item_of x))
ranges_sets b (with_range r x y) = keep (ranges_sets b r) (range_sets (item_of x) (item_of y))

abbrev pub class_sets : Bool → Ranges → Bool → Option (List CharSet)
class_sets b r false = ranges_sets b r
class_sets b r true = keep (ranges_sets b r) (item_sets hyphen_item)

-- two surrogates outside of a class are two lexemes
abbrev pub code_lexemes : Code → Lexemes
code_lexemes null_code = single (number other_form 0)
code_lexemes (letter_code c) = single (number other_form (code_value (letter_code c)))
code_lexemes (byte_code ds) = single (number other_form (hex_number ds))
code_lexemes (unit_code ds) = single (number unit_form (hex_number ds))
code_lexemes (pair_code ds es) =
    double (number unit_form (hex_number ds)) (number unit_form (hex_number es))
code_lexemes (point_code ds) = single (number other_form (hex_number ds))

abbrev pub leaf_lexemes : Bool → Leaf → Lexemes
leaf_lexemes b (regex.plain c) = single (char c)
leaf_lexemes b regex.dot = single dot
leaf_lexemes b (regex.escaped c) = single (char c)
leaf_lexemes b (regex.control_escape c) = single (char (control_char c))
leaf_lexemes b (regex.set_escape c) = single (set c)
leaf_lexemes b (regex.coded k) = code_lexemes k
leaf_lexemes b (regex.property_escape n e) = single (property n (property_of e))
leaf_lexemes b (regex.numbered ds) = single (reference (cap_number (decimal ds)))
leaf_lexemes b (regex.called n) = single (call (name_value n))
leaf_lexemes b (regex.bracketed n r e) = single (class n (class_sets b r e))

abbrev pub opening_of : Enclosing → Opening
opening_of (syntax.of_group syntax.capturing) = capture
opening_of (syntax.of_group syntax.plain_group) = plain_group
opening_of (syntax.of_group (syntax.named n)) = named (name_value n)
opening_of (syntax.of_lookbehind n) = behind n
opening_of (syntax.of_lookahead n) = ahead n

abbrev pub quantifier_lexeme : Quantifier → Lexeme
quantifier_lexeme syntax.zero_or_more = repeats bounds.ZeroOrMore
quantifier_lexeme syntax.one_or_more = repeats bounds.OneOrMore
quantifier_lexeme syntax.zero_or_one = question
quantifier_lexeme (syntax.exactly ds) = repeats (bounds.Exactly (cap_number (decimal ds)))
quantifier_lexeme (syntax.at_least ds) = repeats (bounds.AtLeast (cap_number (decimal ds)))
quantifier_lexeme (syntax.from_to ds es) =
    repeats (bounds.FromTo (cap_number (decimal ds)) (cap_number (decimal es)))

-- where the first holds, sets of classes are kept
abbrev pub lexemes : Bool → Part → Lexemes
lexemes b regex.bar = single bar
lexemes b (regex.edge e) = single (edge e)
lexemes b (regex.leaf l) = leaf_lexemes b l
lexemes b (regex.opens e) = single (begins (opening_of e))
lexemes b regex.closes = single ends
lexemes b (regex.repeats q) = single (quantifier_lexeme q)
