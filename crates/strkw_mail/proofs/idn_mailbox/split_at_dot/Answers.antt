use Rattle.std.proofs.lemmas.Str.Pattern.{split_parts}
use Rattle.std.proofs.Common.{arith}
use Rattle.strkw_text.proofs.Delimiters.{chars_without, chars_cut}
use Rattle.strkw_text.proofs.Equivalences.{MatchOption-map}
use Rattle.strkw_mail.proofs.idn_mailbox.split_at_dot.Goals as goal

pub returns-clause-cases : goal.returns-clause-cases
returns-clause-cases c =
    MatchOption-map _ _ _ _ c.split_once.result
    (chars_without 46 (omega arith) c.args.text.now c.utf8.text)
    (λ x h. let k = chars_cut 46 (omega arith) c.args.text.now x.0.now x.1.now c.utf8.text h.0 in (chars_without 46 (omega arith) x.0.now k.utf8 h.1, k.is))
    (split_parts 46 c.args.text.now c.split_once.result c.split_once.ensures.cases (omega arith))
