use Rattle.std.proofs.Common.{◌↔◌, IsUtf8, length}
use Rattle.std.specs.Str.{chars}
use Rattle.strkw_mail.specs.IdnMailbox.{IdnDomain}
use Rattle.strkw_mail.proofs.idn_mailbox.is_idn_domain_name.Given as goal

-- the rest is labels where all of it is
abbrev pub invariant-loop-label : goal.invariant-loop-label
invariant-loop-label l = IsUtf8 l.rest × (IdnDomain (chars l.name) ↔ IdnDomain (chars l.rest))

abbrev pub decreases-loop-label : goal.decreases-loop-label
decreases-loop-label l = length l.rest
