-- How an escape with `\u` is read in a name, behind its backslash and letter.
use Rattle.std.specs.Prelude.{ℕ, ◌==◌, Bool, true, false, Option, Some, None}
use Rattle.std.specs.Str.{byte}
use Rattle.strkw_regex_grammar.specs.Codes.{is_lead, is_trail, is_scalar}
use Rattle.strkw_regex_grammar.specs.machine.CodeMaker.{CodeMaker}
-- how many digits are still to come
pub use Rattle.strkw_regex_grammar.specs.declared.codes.Wanted.{Wanted}
pub use Rattle.strkw_regex_grammar.specs.declared.codes.Wanted.TheVariants.{One as one_more}
pub use Rattle.strkw_regex_grammar.specs.declared.codes.Wanted.TheVariants.{Two as two_more}
pub use Rattle.strkw_regex_grammar.specs.declared.codes.Wanted.TheVariants.{Three as three_more}
pub use Rattle.strkw_regex_grammar.specs.declared.codes.Wanted.TheVariants.{Four as four_more}

-- what a number of four digits is: that of `\u`, or of `\u` behind a leading surrogate
pub data Width (M : CodeMaker) : Type 0 where
  unit_width : Width M
  trail_width : M.Hex → Width M

-- the digits that have been read; a leading surrogate, behind which `\` is to come and then `u`;
-- behind `\u{`
pub data Coding (M : CodeMaker) : Type 0 where
  unit_opened : Coding M
  digits_of : Width M → Wanted → M.Hex → Coding M
  lead_read : M.Hex → Coding M
  lead_escaped : M.Hex → Coding M
  point_opened : Option M.Hex → Coding M

-- what comes of one more character
pub data Coded (M : CodeMaker) : Type 0 where
  fails : Coded M
  goes : Coding M → Coded M
  makes : M.Code → Coded M

-- the value, or the other where there is none
abbrev pub value_or : {A : Type 0} → A → Option A → A
value_or x None = x
value_or x (Some y) = y

abbrev pub coded_if : {M : CodeMaker} → Bool → Coded M → Coded M
coded_if false k = fails
coded_if true k = k

abbrev pub make : {M : CodeMaker} → M.Code → Coded M
make {M} d = coded_if (is_scalar (M.code_value d)) (makes d)

abbrev pub with_lead : {M : CodeMaker} → M.Hex → Bool → Coded M
with_lead {M} ds false = make (M.unit_code ds)
with_lead ds true = goes (lead_read ds)

abbrev pub read_all : {M : CodeMaker} → Width M → M.Hex → Coded M
read_all {M} unit_width ds = with_lead ds (is_lead (M.hex_value ds))
read_all {M} (trail_width ds) es =
    coded_if (is_trail (M.hex_value es)) (make (M.pair_code ds es))

abbrev pub read_digit : {M : CodeMaker} → Width M → Wanted → M.Hex → Coded M
read_digit w one_more ds = read_all w ds
read_digit w two_more ds = goes (digits_of w one_more ds)
read_digit w three_more ds = goes (digits_of w two_more ds)
read_digit w four_more ds = goes (digits_of w three_more ds)

-- behind one more digit, where there is one
abbrev pub digit_or_none : {M : CodeMaker} → Width M → Wanted → Option M.Hex → Coded M
digit_or_none w n None = fails
digit_or_none w n (Some ds) = read_digit w n ds

abbrev pub on_digit : {M : CodeMaker} → Width M → Wanted → M.Hex → ℕ → Coded M
on_digit {M} w n ds c = digit_or_none w n (M.with_hex_digit ds c)

abbrev pub on_unit : {M : CodeMaker} → ℕ → Bool → Coded M
on_unit {M} c false = on_digit unit_width four_more M.no_hex c
on_unit c true = goes (point_opened None)

-- between braces: behind one more digit, where there is one, and behind the last
abbrev pub point_digit : {M : CodeMaker} → Option M.Hex → Coded M
point_digit None = fails
point_digit (Some ds) = goes (point_opened (Some ds))

abbrev pub point_end : {M : CodeMaker} → Option M.Hex → Coded M
point_end None = fails
point_end {M} (Some ds) = make (M.point_code ds)

abbrev pub on_point : {M : CodeMaker} → Option M.Hex → ℕ → Bool → Coded M
on_point {M} o c false = point_digit (M.with_hex_digit (value_or M.no_hex o) c)
on_point o c true = point_end o

abbrev pub coding_next : {M : CodeMaker} → Coding M → ℕ → Coded M
coding_next unit_opened c = on_unit c (c == byte "{")
coding_next (digits_of w n ds) c = on_digit w n ds c
coding_next (lead_read ds) c = coded_if (c == byte "\\") (goes (lead_escaped ds))
coding_next {M} (lead_escaped ds) c = coded_if (c == byte "u")
    (goes (digits_of (trail_width ds) four_more M.no_hex))
coding_next (point_opened o) c = on_point o c (c == byte "}")
