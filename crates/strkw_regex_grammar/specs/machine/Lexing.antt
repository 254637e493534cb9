-- The lexer: how the characters of a pattern become lexemes, one character at a time. No tree is
-- made, and of what stands around a part nothing is known.
use Rattle.std.specs.Prelude.{ℕ, ◌+◌, ◌*◌, ◌-◌, nat_le, ◌==◌, Bool, true, false, List, [], ◌∷◌}
use Rattle.std.specs.Prelude.{◌++◌, Option, Some, None, option_map, option_and_then, if◌then◌else◌}
use Rattle.std.specs.Str.{byte}
use Rattle.strkw_regex_grammar.specs.Escapes.{Escape, itself, control, set, boundary, no_boundary}
use Rattle.strkw_regex_grammar.specs.Escapes.{null, letter, hexadecimal, unicode, property}
use Rattle.strkw_regex_grammar.specs.Escapes.{no_property, unknown, escape}
use Rattle.strkw_regex_grammar.specs.Codes.{has_digits}
use Rattle.strkw_regex_grammar.specs.Numbers.{is_digit, number, CountToken, digit, comma}
use Rattle.strkw_regex_grammar.specs.Numbers.{closing_brace, no_count, count_token}
use Rattle.strkw_regex_grammar.specs.Names.{may_follow, Extension, uncaptured, name_opening}
use Rattle.strkw_regex_grammar.specs.Names.{look_equals, look_negation, no_extension, extension}
use Rattle.strkw_regex_grammar.specs.Names.{NameToken, name_end, name_backslash, name_equals}
use Rattle.strkw_regex_grammar.specs.Names.{name_negation, name_character, name_token}
use Rattle.strkw_regex_grammar.specs.Classes.{ClassToken, closing_bracket, class_escaper, dash}
use Rattle.strkw_regex_grammar.specs.Classes.{class_char, class_token, class_escape}
use Rattle.strkw_regex_grammar.specs.Syntax.{Token, bar, asterisk, plus, question, caret, dollar}
use Rattle.strkw_regex_grammar.specs.Syntax.{closing, opening as opening_token, point, backslash}
use Rattle.strkw_regex_grammar.specs.Syntax.{bracket, brace, character, other, token}
use Rattle.strkw_charset.specs.Properties.{property_of}
use Rattle.strkw_charset.specs.Sets.{control_char}
use Rattle.strkw_charset.specs.declared.properties.Property.{Property}
use Rattle.strkw_charset.specs.declared.tree.CharSet.{CharSet}
use Rattle.strkw_regex_grammar.specs.Regex.{at_start, at_end, at_boundary, at_no_boundary}
use Rattle.strkw_regex_grammar.specs.Regex.{is_property}
use Rattle.strkw_regex_grammar.specs.machine.CodeMakers.{code_values, pair_value}
use Rattle.strkw_regex_grammar.specs.machine.CodeReading.{two_more, Coding, Coded, fails, goes}
use Rattle.strkw_regex_grammar.specs.machine.CodeReading.{makes, coding_next}
use Rattle.strkw_regex_grammar.specs.machine.CodeReading.{unit_opened as name_unit_opened}
use Rattle.strkw_charset.specs.machine.PropertyReading.{PropertyPart, brace_awaited, PropertyRead}
use Rattle.strkw_charset.specs.machine.PropertyReading.{no_property_read, property_goes}
use Rattle.strkw_charset.specs.machine.PropertyReading.{property_ends, property_next}
use Rattle.strkw_regex_grammar.specs.machine.NumberReading.{NumberPart, letter_awaited, unit_opened}
use Rattle.strkw_regex_grammar.specs.machine.NumberReading.{digits_of, NumberRead, no_number}
use Rattle.strkw_regex_grammar.specs.machine.NumberReading.{number_goes, number_ends, number_next}
use Rattle.strkw_regex_grammar.specs.machine.Lexemes as lexeme
use Rattle.strkw_regex_grammar.specs.machine.Lexemes.{Form, unit_form, other_form, Item, set_item}
use Rattle.strkw_regex_grammar.specs.machine.Lexemes.{property_item, char_item, code_item, lead_item}
use Rattle.strkw_regex_grammar.specs.machine.Lexemes.{trail_item, Lexeme, Lexemes, single, double}
use Rattle.strkw_regex_grammar.specs.machine.Lexemes.{cap_number, number_item, item_sets}
use Rattle.strkw_regex_grammar.specs.machine.Lexemes.{range_sets, keep, kept_from, hyphen_item}
use Rattle.strkw_regex_grammar.specs.declared.lexemes.Bounds.TheVariants as bounds
-- what of a class may belong to a range; last, a range up to a leading surrogate, behind which a
-- trailing one may come
pub use Rattle.strkw_regex_grammar.specs.declared.lexer.classes.Pending.{Pending}
use Rattle.strkw_regex_grammar.specs.declared.lexer.classes.Pending.TheVariants as pending_items
pub use pending_items.{Fresh as fresh, One as one, Dashed as dashed, Ranged as ranged}
-- whose name is read
pub use Rattle.strkw_regex_grammar.specs.declared.lexer.naming.Naming.{Naming}
use Rattle.strkw_regex_grammar.specs.declared.lexer.naming.Naming.TheVariants as namings
pub use namings.{Group as of_group, Reference as of_reference}

-- the digits of a count: of the first number, or of both
pub data Count : Type 0 where
  low : List ℕ → Count
  high : List ℕ → List ℕ → Count

-- a class that is read: the sets of what is not pending, where they are kept
pub record Class : Type 0 where
  pub negated : Bool
  pub sets : Option (List CharSet)
  pub pending : Pending

-- what is under way. `referring` is behind the digits of a back reference, and `calling` behind `\k`
pub data Mode : Type 0 where
  between escaping opening extending class_opened calling : Mode
  counting : Count → Mode
  numbering : NumberPart → Mode
  in_class : Class → Mode
  class_escaping : Class → Mode
  class_numbering : Class → NumberPart → Mode
  in_property : PropertyPart → Mode
  in_class_property : Class → PropertyPart → Mode
  naming : Naming → List ℕ → Mode
  name_escaping : Naming → List ℕ → Mode
  name_coding : Naming → List ℕ → Coding code_values → Mode
  referring : ℕ → Mode

-- what comes of one more character: none may stand there; or a lexeme, or two, and what is under way
pub data Lexed : Type 0 where
  refused : Lexed
  under_way : Mode → Lexed
  lexed : Lexeme → Mode → Lexed
  lexed_both : Lexeme → Lexeme → Mode → Lexed

abbrev pub whole : Lexeme → Lexed
whole l = lexed l between

abbrev pub lexed_if : Bool → Lexed → Lexed
lexed_if false x = refused
lexed_if true x = x

-- behind a lexeme that the character ended
abbrev pub lexed_behind : Lexeme → Lexed → Lexed
lexed_behind l refused = refused
lexed_behind l (under_way m) = lexed l m
lexed_behind l (lexed k m) = lexed_both l k m
lexed_behind l (lexed_both j k m) = refused

-- between parts
abbrev pub on_token : ℕ → Token → Lexed
on_token c bar = whole lexeme.bar
on_token c asterisk = whole (lexeme.repeats bounds.ZeroOrMore)
on_token c plus = whole (lexeme.repeats bounds.OneOrMore)
on_token c question = whole lexeme.question
on_token c caret = whole (lexeme.edge at_start)
on_token c dollar = whole (lexeme.edge at_end)
on_token c opening_token = under_way opening
on_token c closing = whole lexeme.ends
on_token c point = whole lexeme.dot
on_token c backslash = under_way escaping
on_token c bracket = under_way class_opened
on_token c brace = under_way (counting (low []))
on_token c character = whole (lexeme.char c)
on_token c other = refused

-- behind a backslash, what begins no other escape
abbrev pub on_reference : ℕ → Lexed
on_reference c = if is_digit c then under_way (referring (c - byte "0"))
    else if c == byte "k" then under_way calling else refused

abbrev pub on_escape : ℕ → Escape → Lexed
on_escape c itself = whole (lexeme.char c)
on_escape c control = whole (lexeme.char (control_char c))
on_escape c set = whole (lexeme.set c)
on_escape c boundary = whole (lexeme.edge at_boundary)
on_escape c no_boundary = whole (lexeme.edge at_no_boundary)
on_escape c null = whole (lexeme.number other_form 0)
on_escape c letter = under_way (numbering letter_awaited)
on_escape c hexadecimal = under_way (numbering (digits_of other_form two_more 0))
on_escape c unicode = under_way (numbering unit_opened)
on_escape c property = under_way (in_property (brace_awaited false))
on_escape c no_property = under_way (in_property (brace_awaited true))
on_escape c unknown = on_reference c

abbrev pub on_referring : ℕ → ℕ → Bool → Lexed
on_referring n c false = lexed_behind (lexeme.reference n) (on_token c (token c))
on_referring n c true = under_way (referring (cap_number (n * 10 + (c - byte "0"))))

abbrev pub on_number : NumberRead → Lexed
on_number no_number = refused
on_number (number_goes k) = under_way (numbering k)
on_number (number_ends f n) = whole (lexeme.number f n)

abbrev pub known_if : Bool → Option Property → Option (Option Property)
known_if false o = None
known_if true o = Some o

abbrev pub property_lexed : Bool → Option (Option Property) → Lexed
property_lexed n None = refused
property_lexed n (Some o) = whole (lexeme.property n o)

abbrev pub on_property : PropertyRead → Lexed
on_property no_property_read = refused
on_property (property_goes k) = under_way (in_property k)
on_property (property_ends n e) = property_lexed n (known_if (is_property e) (property_of e))

-- groups
abbrev pub on_group : ℕ → Bool → Lexed
on_group c false = lexed_behind (lexeme.begins lexeme.capture) (on_token c (token c))
on_group c true = under_way extending

abbrev pub on_extension : Extension → Lexed
on_extension uncaptured = whole (lexeme.begins lexeme.plain_group)
on_extension name_opening = under_way (naming of_group [])
on_extension look_equals = whole (lexeme.begins (lexeme.ahead false))
on_extension look_negation = whole (lexeme.begins (lexeme.ahead true))
on_extension no_extension = refused

-- names
abbrev pub on_calling : Bool → Lexed
on_calling false = refused
on_calling true = under_way (naming of_reference [])

abbrev pub with_name_char : Naming → List ℕ → ℕ → Lexed
with_name_char g n c = lexed_if (may_follow n c) (under_way (naming g (n ++ c ∷ [])))

abbrev pub name_read : Naming → List ℕ → Lexed
name_read g [] = refused
name_read of_group (d ∷ ds) = whole (lexeme.begins (lexeme.named (d ∷ ds)))
name_read of_reference (d ∷ ds) = whole (lexeme.call (d ∷ ds))

-- where no name has begun, a lookbehind
abbrev pub look_read : Naming → List ℕ → Bool → Lexed
look_read of_group [] b = whole (lexeme.begins (lexeme.behind b))
look_read of_reference [] b = refused
look_read g (d ∷ ds) b = refused

abbrev pub on_naming : Naming → List ℕ → ℕ → NameToken → Lexed
on_naming g n c name_end = name_read g n
on_naming g n c name_backslash = under_way (name_escaping g n)
on_naming g n c name_equals = look_read g n false
on_naming g n c name_negation = look_read g n true
on_naming g n c name_character = with_name_char g n c

abbrev pub on_name_escape : Naming → List ℕ → Bool → Lexed
on_name_escape g n false = refused
on_name_escape g n true = under_way (name_coding g n name_unit_opened)

abbrev pub on_name_coding : Naming → List ℕ → Coded code_values → Lexed
on_name_coding g n fails = refused
on_name_coding g n (goes k) = under_way (name_coding g n k)
on_name_coding g n (makes c) = with_name_char g n c

-- counts
abbrev pub held : List ℕ → ℕ
held ds = cap_number (number ds)

abbrev pub on_low : List ℕ → ℕ → CountToken → Lexed
on_low ds c digit = under_way (counting (low (ds ++ c ∷ [])))
on_low ds c comma = lexed_if (has_digits ds) (under_way (counting (high ds [])))
on_low ds c closing_brace =
    lexed_if (has_digits ds) (whole (lexeme.repeats (bounds.Exactly (held ds))))
on_low ds c no_count = refused

abbrev pub range_read : List ℕ → List ℕ → Lexed
range_read ds [] = whole (lexeme.repeats (bounds.AtLeast (held ds)))
range_read ds (e ∷ es) = lexed_if (nat_le (number ds) (number (e ∷ es)))
    (whole (lexeme.repeats (bounds.FromTo (held ds) (held (e ∷ es)))))

abbrev pub on_high : List ℕ → List ℕ → ℕ → CountToken → Lexed
on_high ds es c digit = under_way (counting (high ds (es ++ c ∷ [])))
on_high ds es c comma = refused
on_high ds es c closing_brace = range_read ds es
on_high ds es c no_count = refused

abbrev pub on_count : Count → ℕ → Lexed
on_count (low ds) c = on_low ds c (count_token c)
on_count (high ds es) c = on_high ds es c (count_token c)

-- classes: whether two items bound a range
abbrev pub item_value : Item → Option ℕ
item_value (set_item c) = None
item_value (property_item n o) = None
item_value (char_item n) = Some n
item_value (code_item n) = Some n
item_value (lead_item n) = Some n
item_value (trail_item n) = Some n

abbrev pub is_bounded : Option ℕ → Option ℕ → Bool
is_bounded None o = false
is_bounded (Some n) None = false
is_bounded (Some n) (Some m) = nat_le n m

abbrev pub is_range : Item → Item → Bool
is_range x y = is_bounded (item_value x) (item_value y)

abbrev pub pending_if : Bool → Pending → Option Pending
pending_if false p = None
pending_if true p = Some p

-- what is pending behind one more item
abbrev pub took_behind : Item → Item → Pending
took_behind (lead_item n) (trail_item m) = one (code_item (pair_value n m))
took_behind x y = one y

abbrev pub took_dashed : Item → Item → Option Pending
took_dashed x (lead_item m) = Some (ranged x m)
took_dashed x y = pending_if (is_range x y) fresh

abbrev pub took_ranged : Item → ℕ → Item → Option Pending
took_ranged x n (trail_item m) = pending_if (is_range x (code_item (pair_value n m))) fresh
took_ranged x n y = pending_if (is_range x (lead_item n)) (one y)

abbrev pub took : Pending → Item → Option Pending
took fresh y = Some (one y)
took (one x) y = Some (took_behind x y)
took (dashed x) y = took_dashed x y
took (ranged x n) y = took_ranged x n y

-- and the sets of what is pending no longer
abbrev pub sets_behind : Item → Item → Option (List CharSet) → Option (List CharSet)
sets_behind (lead_item n) (trail_item m) o = o
sets_behind x y o = keep o (item_sets x)

abbrev pub sets_dashed : Item → Item → Option (List CharSet) → Option (List CharSet)
sets_dashed x (lead_item m) o = o
sets_dashed x y o = keep o (range_sets x y)

abbrev pub sets_ranged : Item → ℕ → Item → Option (List CharSet) → Option (List CharSet)
sets_ranged x n (trail_item m) o = keep o (range_sets x (code_item (pair_value n m)))
sets_ranged x n y o = None

abbrev pub sets_took : Pending → Item → Option (List CharSet) → Option (List CharSet)
sets_took fresh y o = o
sets_took (one x) y o = sets_behind x y o
sets_took (dashed x) y o = sets_dashed x y o
sets_took (ranged x n) y o = sets_ranged x n y o

abbrev pub with_pending : Class → Option (List CharSet) → Pending → Class
with_pending k o p = record { negated = k.negated; sets = o; pending = p }

abbrev pub with_item : Class → Item → Option Class
with_item k y = option_map (with_pending k (sets_took k.pending y k.sets)) (took k.pending y)

abbrev pub dash_behind : Class → Pending → Option Class
dash_behind k (one x) = Some (with_pending k k.sets (dashed x))
dash_behind k p = with_item k hyphen_item

abbrev pub with_dash : Class → Option Class
with_dash k = dash_behind k k.pending

-- at the end of the class
abbrev pub may_close : Pending → Bool
may_close fresh = true
may_close (one x) = true
may_close (dashed x) = true
may_close (ranged x n) = is_range x (lead_item n)

abbrev pub sets_closed : Pending → Option (List CharSet) → Option (List CharSet)
sets_closed fresh o = o
sets_closed (one x) o = keep o (item_sets x)
sets_closed (dashed x) o = keep (keep o (item_sets x)) (item_sets hyphen_item)
sets_closed (ranged x n) o = None

abbrev pub class_if : Bool → Class → Option Class
class_if false k = None
class_if true k = Some k

abbrev pub within : Option Class → Lexed
within None = refused
within (Some k) = under_way (in_class k)

abbrev pub new_class : Bool → Bool → Class
new_class b n = record { negated = n; sets = kept_from b; pending = fresh }

abbrev pub closed_class : Class → Lexed
closed_class k = lexed_if (may_close k.pending)
    (whole (lexeme.class k.negated (sets_closed k.pending k.sets)))

abbrev pub on_class_token : Class → ℕ → ClassToken → Lexed
on_class_token k c closing_bracket = closed_class k
on_class_token k c class_escaper = under_way (class_escaping k)
on_class_token k c dash = within (with_dash k)
on_class_token k c class_char = within (with_item k (char_item c))

abbrev pub on_class_escape : Class → ℕ → Escape → Lexed
on_class_escape k c itself = within (with_item k (char_item c))
on_class_escape k c control = within (with_item k (char_item (control_char c)))
on_class_escape k c set = within (with_item k (set_item c))
on_class_escape k c boundary = within (with_item k (char_item 8))
on_class_escape k c no_boundary = refused
on_class_escape k c null = within (with_item k (code_item 0))
on_class_escape k c letter = under_way (class_numbering k letter_awaited)
on_class_escape k c hexadecimal =
    under_way (class_numbering k (digits_of other_form two_more 0))
on_class_escape k c unicode = under_way (class_numbering k unit_opened)
on_class_escape k c property = under_way (in_class_property k (brace_awaited false))
on_class_escape k c no_property = under_way (in_class_property k (brace_awaited true))
on_class_escape k c unknown = refused

abbrev pub on_class_number : Class → NumberRead → Lexed
on_class_number k no_number = refused
on_class_number k (number_goes j) = under_way (class_numbering k j)
on_class_number k (number_ends f n) = within (with_item k (number_item f n))

abbrev pub class_property_lexed : Class → Bool → Option (Option Property) → Lexed
class_property_lexed k n None = refused
class_property_lexed k n (Some o) = within (with_item k (property_item n o))

abbrev pub on_class_property : Class → PropertyRead → Lexed
on_class_property k no_property_read = refused
on_class_property k (property_goes j) = under_way (in_class_property k j)
on_class_property k (property_ends n e) =
    class_property_lexed k n (known_if (is_property e) (property_of e))

abbrev pub on_bracket : Bool → ℕ → Bool → Lexed
on_bracket b c false = on_class_token (new_class b false) c (class_token c)
on_bracket b c true = under_way (in_class (new_class b true))

-- behind one more character; where the first holds, sets of classes are kept
abbrev pub lex_next : Bool → Mode → ℕ → Lexed
lex_next b between c = on_token c (token c)
lex_next b escaping c = on_escape c (escape c)
lex_next b opening c = on_group c (c == byte "?")
lex_next b extending c = on_extension (extension c)
lex_next b class_opened c = on_bracket b c (c == byte "^")
lex_next b calling c = on_calling (c == byte "<")
lex_next b (counting n) c = on_count n c
lex_next b (numbering k) c = on_number (number_next k c)
lex_next b (in_class k) c = on_class_token k c (class_token c)
lex_next b (class_escaping k) c = on_class_escape k c (class_escape c)
lex_next b (class_numbering k j) c = on_class_number k (number_next j c)
lex_next b (in_property k) c = on_property (property_next k c)
lex_next b (in_class_property k j) c = on_class_property k (property_next j c)
lex_next b (naming g n) c = on_naming g n c (name_token c)
lex_next b (name_escaping g n) c = on_name_escape g n (c == byte "u")
lex_next b (name_coding g n k) c = on_name_coding g n (coding_next k c)
lex_next b (referring n) c = on_referring n c (is_digit c)

-- one who reads lexemes, by the steps that they make, and what the lexer has under way
pub record Read (S : Type 0) : Type 0 where
  pub state : S
  pub mode : Mode

abbrev pub at : {S : Type 0} → Mode → S → Read S
at m s = record { state = s; mode = m }

abbrev pub take_lexed : {S : Type 0} → (S → Lexeme → Option S) → S → Lexed → Option (Read S)
take_lexed step s refused = None
take_lexed step s (under_way m) = Some (at m s)
take_lexed step s (lexed l m) = option_map (at m) (step s l)
take_lexed step s (lexed_both l k m) =
    option_and_then (λ t. option_map (at m) (step t k)) (step s l)

abbrev pub read_next : {S : Type 0} → Bool → (S → Lexeme → Option S) → Read S → ℕ
    → Option (Read S)
read_next b step r c = take_lexed step r.state (lex_next b r.mode c)

-- at the end of the text a back reference by a number may be under way, and nothing else
abbrev pub read_end : {S : Type 0} → (S → Lexeme → Option S) → S → Mode → Option S
read_end step s between = Some s
read_end step s (referring n) = step s (lexeme.reference n)
read_end step s m = None

-- where a whole text leads
abbrev pub read_from : {S : Type 0} → Bool → (S → Lexeme → Option S) → Read S → List ℕ → Option S
read_from b step r [] = read_end step r.state r.mode
read_from {S} b step r (c ∷ cs) =
    option_and_then (λ (q : Read S). read_from b step q cs) (read_next b step r c)
