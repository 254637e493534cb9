-- The table is held against the definition at each byte, by computing.
use Rattle.std.proofs.Common.{not, nat_eq, get_or, refl, arith}
use Rattle.std.proofs.lemmas.Bool.{agree_below_at}
use Rattle.strkw_net.specs.HostName.{is_letter_digit_hyphen}
use Rattle.strkw_net.specs.declared.host_name.TheConstants.{LETTERS_DIGITS_HYPHEN}
use Rattle.strkw_net.proofs.host_name.is_letter_digit_hyphen.Goals as goal

pub returns : goal.returns
returns c = agree_below_at (λ b. not (nat_eq (get_or LETTERS_DIGITS_HYPHEN b 0) 46)) is_letter_digit_hyphen 256 c.args.byte refl (omega arith)
