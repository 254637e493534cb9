use Rattle.std.proofs.Common.{length}
use Rattle.strkw_text.specs.Abnf.{Repeat}
use Rattle.strkw_text.specs.Fronts.{StartsWith}
use Rattle.strkw_mail.specs.Mailbox.{QcontentOf}
use Rattle.strkw_mail.specs.Scan.{qtext}
use Rattle.strkw_mail.proofs.local_part.after_in_quotes.Given as goal

-- what is read may stand between quotes
abbrev pub invariant-loop-after : goal.invariant-loop-after
invariant-loop-after l = StartsWith (Repeat (QcontentOf (qtext l.charset))) l.bytes l.rest

abbrev pub decreases-loop-after : goal.decreases-loop-after
decreases-loop-after l = length l.rest
