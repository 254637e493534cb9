-- Escapes by a number as the code reads them: of the digits it holds their number.
use Rattle.strkw_regex_grammar.specs.machine.CodeReading.{Width, unit_width}
use Rattle.strkw_regex_grammar.specs.machine.CodeReading.{trail_width, Coding}
use Rattle.strkw_regex_grammar.specs.machine.CodeReading.{unit_opened, digits_of, lead_read}
use Rattle.strkw_regex_grammar.specs.machine.CodeReading.{lead_escaped, point_opened, Coded, fails}
use Rattle.strkw_regex_grammar.specs.machine.CodeReading.{goes, makes}
use Rattle.strkw_regex_grammar.specs.machine.CodeMakers.{code_values}
use Rattle.strkw_regex_grammar.specs.declared.codes.Width.{Width as CodeWidth}
use Rattle.strkw_regex_grammar.specs.declared.codes.Width.TheVariants as width
use Rattle.strkw_regex_grammar.specs.declared.codes.Coding.{Coding as CodeCoding}
use Rattle.strkw_regex_grammar.specs.declared.codes.Coding.TheVariants as coding
use Rattle.strkw_regex_grammar.specs.declared.codes.Coded.{Coded as CodeCoded}
use Rattle.strkw_regex_grammar.specs.declared.codes.Coded.TheVariants as coded

abbrev pub width_of : CodeWidth → Width code_values
width_of width.Unit = unit_width
width_of (width.Trail n) = trail_width n

abbrev pub coding_of : CodeCoding → Coding code_values
coding_of coding.UnitOpened = unit_opened
coding_of (coding.Digits w n v) = digits_of (width_of w) n v
coding_of (coding.Lead v) = lead_read v
coding_of (coding.LeadEscaped v) = lead_escaped v
coding_of (coding.PointOpened o) = point_opened o

abbrev pub coded_of : CodeCoded → Coded code_values
coded_of coded.Fails = fails
coded_of (coded.Goes k) = goes (coding_of k)
coded_of (coded.Makes c) = makes c
