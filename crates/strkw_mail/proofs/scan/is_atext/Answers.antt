-- The table is held against the definition at each byte, by computing.
use Rattle.std.proofs.Common.{nat_eq, get_or, refl, arith}
use Rattle.std.proofs.lemmas.Bool.{agree_below_at}
use Rattle.strkw_mail.specs.Characters.{is_atext}
use Rattle.strkw_mail.specs.declared.scan.TheConstants.{PLACES}
use Rattle.strkw_mail.proofs.scan.is_atext.Goals as goal

pub returns : goal.returns
returns c = agree_below_at (λ b. nat_eq (get_or PLACES b 0) 97) is_atext 256 c.args.byte refl (omega arith)
