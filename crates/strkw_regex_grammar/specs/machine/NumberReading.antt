-- How the lexer reads an escape by a number.
use Rattle.std.specs.Prelude.{ℕ, ◌%◌, ◌==◌, Bool, true, false, Option, Some, None}
use Rattle.std.specs.Char.{is_ascii_alphabetic}
use Rattle.std.specs.Str.{byte}
use Rattle.strkw_regex_grammar.specs.machine.CodeMakers.{hex_with}
use Rattle.strkw_regex_grammar.specs.machine.CodeReading.{Wanted, one_more, two_more, three_more}
use Rattle.strkw_regex_grammar.specs.machine.CodeReading.{four_more, value_or}
use Rattle.strkw_regex_grammar.specs.machine.Lexemes.{Form, unit_form, other_form}
-- a part of one, and what comes of one more character
pub use Rattle.strkw_regex_grammar.specs.declared.lexer.numbers.NumberPart.{NumberPart}
use Rattle.strkw_regex_grammar.specs.declared.lexer.numbers.NumberPart.TheVariants as number_parts
pub use number_parts.{Letter as letter_awaited, UnitOpened as unit_opened, Digits as digits_of}
pub use number_parts.{PointOpened as point_opened}
pub use Rattle.strkw_regex_grammar.specs.declared.lexer.numbers.NumberRead.{NumberRead}
use Rattle.strkw_regex_grammar.specs.declared.lexer.numbers.NumberRead.TheVariants as number_reads
pub use number_reads.{Fails as no_number, Goes as number_goes, Makes as number_ends}

-- escapes by a number
abbrev pub read_digit : Form → Wanted → ℕ → NumberRead
read_digit f one_more n = number_ends f n
read_digit f two_more n = number_goes (digits_of f one_more n)
read_digit f three_more n = number_goes (digits_of f two_more n)
read_digit f four_more n = number_goes (digits_of f three_more n)

abbrev pub digit_or_none : Form → Wanted → Option ℕ → NumberRead
digit_or_none f w None = no_number
digit_or_none f w (Some n) = read_digit f w n

abbrev pub number_if : Bool → NumberRead → NumberRead
number_if false r = no_number
number_if true r = r

abbrev pub on_unit : ℕ → Bool → NumberRead
on_unit c false = digit_or_none unit_form four_more (hex_with 0 c)
on_unit c true = number_goes (point_opened None)

abbrev pub point_digit : Option ℕ → NumberRead
point_digit None = no_number
point_digit (Some n) = number_goes (point_opened (Some n))

abbrev pub point_ends : Option ℕ → NumberRead
point_ends None = no_number
point_ends (Some n) = number_ends other_form n

abbrev pub on_point : Option ℕ → ℕ → Bool → NumberRead
on_point o c false = point_digit (hex_with (value_or 0 o) c)
on_point o c true = point_ends o

abbrev pub number_next : NumberPart → ℕ → NumberRead
number_next letter_awaited c = number_if (is_ascii_alphabetic c) (number_ends other_form (c % 32))
number_next unit_opened c = on_unit c (c == byte "{")
number_next (digits_of f w n) c = digit_or_none f w (hex_with n c)
number_next (point_opened o) c = on_point o c (c == byte "}")
