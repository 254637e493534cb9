use Rattle.std.proofs.Common.{refl}
use Rattle.strkw_label.specs.Punycode.{punycode, insertions, in_order, put_in_order, insertions_after, deltas, digits_in_row, digits_from, adapt, scale}
use Rattle.strkw_label.specs.Punycode.{delimited, digit_char}
use Rattle.strkw_label.proofs.laws.encodings_of_single_characters.Goals as goal

pub returns-clause-none : goal.returns-clause-none
unfolding punycode insertions in_order put_in_order insertions_after deltas digits_in_row digits_from adapt scale delimited digit_char
returns-clause-none c = refl

pub returns-clause-middle_dot : goal.returns-clause-middle_dot
unfolding punycode insertions in_order put_in_order insertions_after deltas digits_in_row digits_from adapt scale delimited digit_char
returns-clause-middle_dot c = refl

pub returns-clause-least : goal.returns-clause-least
unfolding punycode insertions in_order put_in_order insertions_after deltas digits_in_row digits_from adapt scale delimited digit_char
returns-clause-least c = refl

pub returns-clause-greatest : goal.returns-clause-greatest
unfolding punycode insertions in_order put_in_order insertions_after deltas digits_in_row digits_from adapt scale delimited digit_char
returns-clause-greatest c = refl
