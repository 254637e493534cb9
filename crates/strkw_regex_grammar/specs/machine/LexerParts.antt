-- What the lexer of the code holds, and what it makes.
use Rattle.std.specs.Prelude.{option_map}
use Rattle.strkw_charset.specs.machine.PropertyParts.{part_of}
use Rattle.strkw_regex_grammar.specs.machine.CodeParts.{coding_of}
use Rattle.strkw_regex_grammar.specs.declared.lexemes.Opening.{Opening as CodeOpening}
use Rattle.strkw_regex_grammar.specs.declared.lexemes.Opening.TheVariants as code_opening
use Rattle.strkw_regex_grammar.specs.declared.lexemes.Lexeme.{Lexeme as CodeLexeme}
use Rattle.strkw_regex_grammar.specs.declared.lexemes.Lexeme.TheVariants as code_lexeme
use Rattle.strkw_regex_grammar.specs.declared.lexemes.Before.{Before}
use Rattle.strkw_regex_grammar.specs.declared.lexemes.Before.TheVariants as befores
use Rattle.strkw_regex_grammar.specs.declared.lexemes.Lexed.{Lexed as CodeLexed}
use Rattle.strkw_regex_grammar.specs.declared.lexemes.Lexed.TheVariants as code_lexed
use Rattle.strkw_regex_grammar.specs.declared.lexer.counting.Count.{Count as CodeCount}
use Rattle.strkw_regex_grammar.specs.declared.lexer.counting.Count.TheVariants as code_count
use Rattle.strkw_regex_grammar.specs.declared.lexer.class.Class.{Class as CodeClass}
use Rattle.strkw_regex_grammar.specs.declared.lexer.Mode.{Mode as CodeMode}
use Rattle.strkw_regex_grammar.specs.declared.lexer.Mode.TheVariants as code_mode
use Rattle.strkw_regex_grammar.specs.machine.Lexemes.{Lexeme, Opening, plain_group, capture, named}
use Rattle.strkw_regex_grammar.specs.machine.Lexemes.{behind, ahead, bar, edge, char, number, dot}
use Rattle.strkw_regex_grammar.specs.machine.Lexemes.{set, property, class, reference, call, begins}
use Rattle.strkw_regex_grammar.specs.machine.Lexemes.{ends, repeats, question}
use Rattle.strkw_regex_grammar.specs.machine.Lexing.{Count, low, high, Class, Mode, between}
use Rattle.strkw_regex_grammar.specs.machine.Lexing.{escaping, opening, extending, class_opened}
use Rattle.strkw_regex_grammar.specs.machine.Lexing.{calling, counting, numbering, in_class}
use Rattle.strkw_regex_grammar.specs.machine.Lexing.{class_escaping, class_numbering, in_property}
use Rattle.strkw_regex_grammar.specs.machine.Lexing.{in_class_property, naming, name_escaping}
use Rattle.strkw_regex_grammar.specs.machine.Lexing.{name_coding, referring, Lexed, refused}
use Rattle.strkw_regex_grammar.specs.machine.Lexing.{under_way, lexed, lexed_both}

abbrev pub opening_of : CodeOpening → Opening
opening_of code_opening.Group = plain_group
opening_of code_opening.Capture = capture
opening_of (code_opening.Named n) = named n.items
opening_of (code_opening.Behind b) = behind b
opening_of (code_opening.Ahead b) = ahead b

abbrev pub lexeme_of : CodeLexeme → Lexeme
lexeme_of code_lexeme.Bar = bar
lexeme_of (code_lexeme.Edge e) = edge e
lexeme_of (code_lexeme.Char c) = char c
lexeme_of (code_lexeme.Number f n) = number f n
lexeme_of code_lexeme.Dot = dot
lexeme_of (code_lexeme.Set c) = set c
lexeme_of (code_lexeme.Property n o) = property n o
lexeme_of (code_lexeme.Class n o) = class n (option_map (λ sets. sets.items) o)
lexeme_of (code_lexeme.Reference n) = reference n
lexeme_of (code_lexeme.Call n) = call n.items
lexeme_of (code_lexeme.Begins o) = begins (opening_of o)
lexeme_of code_lexeme.Ends = ends
lexeme_of (code_lexeme.Repeats b) = repeats b
lexeme_of code_lexeme.Question = question

-- beside what is then under way
abbrev pub before_of : Before → Lexeme
before_of befores.Capture = begins capture
before_of (befores.Reference n) = reference n

abbrev pub lexed_of : CodeLexed → Mode → Lexed
lexed_of code_lexed.Fails m = refused
lexed_of code_lexed.Goes m = under_way m
lexed_of (code_lexed.Makes l) m = lexed (lexeme_of l) m
lexed_of (code_lexed.MakesBoth l k) m = lexed_both (before_of l) (lexeme_of k) m

abbrev pub count_of : CodeCount → Count
count_of (code_count.Low ds) = low ds.digits.items
count_of (code_count.High ds es) = high ds.digits.items es.digits.items

abbrev pub class_of : CodeClass → Class
class_of k = record {
  negated = k.negated;
  sets = option_map (λ sets. sets.items) k.sets;
  pending = k.pending;
}

abbrev pub mode_of : CodeMode → Mode
mode_of code_mode.Between = between
mode_of code_mode.Escaping = escaping
mode_of code_mode.Opening = opening
mode_of code_mode.Extending = extending
mode_of code_mode.ClassOpened = class_opened
mode_of code_mode.Calling = calling
mode_of (code_mode.Counting n) = counting (count_of n)
mode_of (code_mode.Numbering k) = numbering k
mode_of (code_mode.InClass k) = in_class (class_of k)
mode_of (code_mode.ClassEscaping k) = class_escaping (class_of k)
mode_of (code_mode.ClassNumbering k j) = class_numbering (class_of k) j
mode_of (code_mode.Property k) = in_property (part_of k)
mode_of (code_mode.ClassProperty k j) = in_class_property (class_of k) (part_of j)
mode_of (code_mode.Naming g n) = naming g n.items
mode_of (code_mode.NameEscaping g n) = name_escaping g n.items
mode_of (code_mode.NameCoding g n k) = name_coding g n.items (coding_of k)
mode_of (code_mode.Referring n) = referring n
