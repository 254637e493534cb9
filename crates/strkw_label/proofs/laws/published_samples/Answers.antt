use Rattle.std.proofs.Common.{refl}
use Rattle.strkw_label.specs.Punycode.{punycode, insertions, in_order, put_in_order, insertions_after, deltas, digits_in_row, digits_from, adapt, scale}
use Rattle.strkw_label.specs.Punycode.{delimited, digit_char}
use Rattle.strkw_label.proofs.laws.published_samples.Goals as goal

pub returns-clause-chinese : goal.returns-clause-chinese
unfolding punycode insertions in_order put_in_order insertions_after deltas digits_in_row digits_from adapt scale delimited digit_char
returns-clause-chinese c = refl

pub returns-clause-czech : goal.returns-clause-czech
unfolding punycode insertions in_order put_in_order insertions_after deltas digits_in_row digits_from adapt scale delimited digit_char
returns-clause-czech c = refl

pub returns-clause-japanese : goal.returns-clause-japanese
unfolding punycode insertions in_order put_in_order insertions_after deltas digits_in_row digits_from adapt scale delimited digit_char
returns-clause-japanese c = refl

pub returns-clause-ascii : goal.returns-clause-ascii
unfolding punycode insertions in_order put_in_order insertions_after deltas digits_in_row digits_from adapt scale delimited digit_char
returns-clause-ascii c = refl
