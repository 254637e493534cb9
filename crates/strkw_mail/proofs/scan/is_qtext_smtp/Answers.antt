-- The table is held against the definition at each byte, by computing.
use Rattle.std.proofs.Common.{not, nat_eq, get_or, refl, arith}
use Rattle.std.proofs.lemmas.Bool.{agree_below_at}
use Rattle.strkw_mail.specs.Characters.{is_qtext_smtp}
use Rattle.strkw_mail.specs.declared.scan.TheConstants.{PLACES}
use Rattle.strkw_mail.proofs.scan.is_qtext_smtp.Goals as goal

pub returns : goal.returns
returns c = agree_below_at (λ b. not (nat_eq (get_or PLACES b 0) 46)) is_qtext_smtp 256 c.args.byte refl (omega arith)
