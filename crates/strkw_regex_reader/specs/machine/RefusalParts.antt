-- What the code tells of a character, if it refuses it in these parts of a pattern; `None` where it
-- has no reason to tell.
use Rattle.std.specs.Prelude.{not, is_none}
use Rattle.strkw_regex_grammar.specs.Codes.{is_scalar}
use Rattle.strkw_regex_grammar.specs.machine.Lexing.{Class}
use Rattle.strkw_regex_grammar.specs.declared.lexer.classes.Item.{Item}
use Rattle.strkw_regex_grammar.specs.declared.lexer.classes.Item.TheVariants as items
use Rattle.strkw_regex_grammar.specs.declared.lexer.classes.Pending.{Pending}
use Rattle.strkw_regex_grammar.specs.declared.lexer.classes.Pending.TheVariants as pendings
use Rattle.std.specs.Prelude.{ℕ, nat_lt, ◌==◌, ◌&&◌, ◌||◌, Bool, true, false, Option, Some, None, length}
use Rattle.std.specs.Str.{byte}
use Rattle.strkw_charset.specs.Properties.{is_unknown}
use Rattle.strkw_charset.specs.machine.PropertyReading.{PropertyPart, brace_awaited, in_braces}
use Rattle.strkw_regex_grammar.specs.machine.Lexing.{Count, low, high}
use Rattle.strkw_regex_grammar.specs.machine.Lexing.{Mode, escaping, opening}
use Rattle.strkw_regex_grammar.specs.machine.Lexing.{calling, counting}
use Rattle.strkw_regex_grammar.specs.machine.Lexing.{in_property, in_class_property, naming}
use Rattle.strkw_regex_grammar.specs.machine.Lexing.{name_escaping, name_coding, referring, Read}
use Rattle.strkw_regex_grammar.specs.machine.Lexing.{held}
use Rattle.strkw_regex_grammar.specs.declared.lexer.naming.Naming.{Naming}
use Rattle.strkw_regex_grammar.specs.declared.lexer.naming.Naming.TheVariants.{Group as of_group}
use Rattle.strkw_regex_grammar.specs.declared.lexer.naming.Naming.TheVariants.{Reference as of_reference}
use Rattle.strkw_regex_reader.specs.Limits.{max_nesting}
use Rattle.strkw_regex_reader.specs.Refusals.{is_needlessly_escaped}
use Rattle.strkw_regex_reader.specs.declared.refusals.PatternRefusal.{PatternRefusal}
use Rattle.strkw_regex_reader.specs.declared.refusals.PatternRefusal.TheVariants.{BackReference}
use Rattle.strkw_regex_reader.specs.declared.refusals.PatternRefusal.TheVariants.{IdentityEscape}
use Rattle.strkw_regex_reader.specs.declared.refusals.PatternRefusal.TheVariants.{Property, TooDeep}
use Rattle.strkw_regex_reader.specs.declared.refusals.PatternRefusal.TheVariants.{CountTooGreat}
use Rattle.strkw_regex_reader.specs.machine.Building.{Builder, Last, is_great, is_lead_last}

abbrev pub told_if : Bool → PatternRefusal → Option PatternRefusal
told_if false r = None
told_if true r = Some r

-- behind a backslash
abbrev pub escape_refusal : ℕ → Option PatternRefusal
escape_refusal c = told_if (is_needlessly_escaped c) (IdentityEscape c)

-- of one group or lookaround more, where fewer are open than may be
abbrev pub one_deeper : Bool → Option PatternRefusal
one_deeper true = None
one_deeper false = Some TooDeep

abbrev pub depth_refusal : Builder → Option PatternRefusal
depth_refusal s = one_deeper (nat_lt (length s.groups) max_nesting)

abbrev pub count_refusal : Count → Option PatternRefusal
count_refusal (low ds) = told_if (is_great (held ds)) CountTooGreat
count_refusal (high ds es) = told_if (is_great (held ds) || is_great (held es)) CountTooGreat

abbrev pub naming_refusal : Naming → Option PatternRefusal
naming_refusal of_group = None
naming_refusal of_reference = Some BackReference

-- of what is under way, whatever comes next
abbrev pub mode_refusal : Mode → Option PatternRefusal
mode_refusal (counting n) = count_refusal n
mode_refusal (referring n) = Some BackReference
mode_refusal calling = Some BackReference
mode_refusal (naming g n) = naming_refusal g
mode_refusal (name_escaping g n) = naming_refusal g
mode_refusal (name_coding g n k) = naming_refusal g
mode_refusal m = None

abbrev pub property_refusal : PropertyPart → ℕ → Option PatternRefusal
property_refusal (brace_awaited n) c = None
property_refusal (in_braces n e) c = told_if (c == byte "}" && is_unknown e) Property

abbrev pub unless : Bool → Option PatternRefusal → Option PatternRefusal
unless false w = w
unless true w = None

-- an item of a class is a surrogate alone, as far as it is known
abbrev pub is_surrogate : Item → Bool
is_surrogate (items.Number n) = not (is_scalar n)
is_surrogate (items.Lead n) = true
is_surrogate (items.Trail n) = true
is_surrogate x = false

abbrev pub ends_in_surrogate : Pending → Bool
ends_in_surrogate pendings.Fresh = false
ends_in_surrogate (pendings.One x) = is_surrogate x
ends_in_surrogate (pendings.Dashed x) = is_surrogate x
ends_in_surrogate (pendings.Ranged x n) = true

-- a class has one
abbrev pub has_surrogate : Class → Bool
has_surrogate k = is_none k.sets || ends_in_surrogate k.pending

-- no reason is told behind a leading surrogate
abbrev pub behind : Last → Option PatternRefusal → Option PatternRefusal
behind x w = unless (is_lead_last x) w

-- of the next character, if it is refused, by what is under way
abbrev pub refusal_in : Builder → Mode → ℕ → Option PatternRefusal
refusal_in s escaping c = escape_refusal c
refusal_in s opening c = depth_refusal s
refusal_in s m c = mode_refusal m

abbrev pub refusal_at : Read Builder → ℕ → Option PatternRefusal
refusal_at r c = behind r.state.last (refusal_in r.state r.mode c)

-- of the next character, whatever comes of it
abbrev pub property_at : Mode → ℕ → Option PatternRefusal
property_at (in_property k) c = property_refusal k c
property_at (in_class_property k j) c = unless (has_surrogate k) (property_refusal j c)
property_at m c = None

abbrev pub char_refusal : Read Builder → ℕ → Option PatternRefusal
char_refusal r c = behind r.state.last (property_at r.mode c)

abbrev pub refusal_at_end : Read Builder → Option PatternRefusal
refusal_at_end r = behind r.state.last (mode_refusal r.mode)
