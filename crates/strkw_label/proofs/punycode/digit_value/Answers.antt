use Rattle.std.proofs.Common.{rules}
use Rattle.strkw_label.proofs.DigitValues.{lower_case_digit, upper_case_digit, decimal_digit, no_digit}
use Rattle.strkw_label.proofs.punycode.digit_value.Goals as goal

pub returns-then-is_ascii_lowercase-clause-value : goal.returns-then-is_ascii_lowercase-clause-value
returns-then-is_ascii_lowercase-clause-value c = lower_case_digit c.args.byte _ (search rules) c.from.ensures

pub returns-then-is_ascii_digit-clause-value : goal.returns-then-is_ascii_digit-clause-value
returns-then-is_ascii_digit-clause-value c = decimal_digit c.args.byte _ (search rules) c.from-then-is_ascii_digit.ensures

pub returns-then-is_ascii_uppercase-clause-value : goal.returns-then-is_ascii_uppercase-clause-value
returns-then-is_ascii_uppercase-clause-value c = upper_case_digit c.args.byte _ (search rules) c.from-then-is_ascii_uppercase.ensures

pub returns-else-is_ascii_uppercase-clause-none : goal.returns-else-is_ascii_uppercase-clause-none
returns-else-is_ascii_uppercase-clause-none c = λ digit lt e. no_digit c.args.byte digit (search rules) (search rules) (search rules) lt e
