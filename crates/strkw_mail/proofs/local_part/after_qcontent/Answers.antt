use Rattle.std.proofs.Common.{rules}
use Rattle.strkw_text.proofs.Equivalences.{MatchOption-map}
use Rattle.strkw_mail.proofs.QuotedStrings.{pair_start, pair_stop, plain_start, plain_stop}
use Rattle.strkw_mail.proofs.local_part.after_qcontent.Goals as goal

pub returns-in-Some-clause-cases : goal.returns-in-Some-clause-cases
returns-in-Some-clause-cases c = plain_start c.args.charset c.args.bytes.now _ c.in-Some.ensures.cases

pub returns-in_err-strip-in-None-clause-cases : goal.returns-in_err-strip-in-None-clause-cases
returns-in_err-strip-in-None-clause-cases c =
    let stop = plain_stop c.args.charset c.args.bytes.now c.in_err-strip-in-None.ensures.cases c.in-None.ensures.cases in
    search rules

pub returns-in_ok-strip-in-None-clause-cases : goal.returns-in_ok-strip-in-None-clause-cases
returns-in_ok-strip-in-None-clause-cases c = MatchOption-map _ _ _ _ c.after_one-in-None.result
    (pair_stop c.args.charset c.args.bytes.now _ c.in_ok-strip-in-None.ensures.cases)
    (λ rest f. pair_start c.args.charset c.args.bytes.now _ rest.now c.in_ok-strip-in-None.ensures.cases f)
    c.after_one-in-None.ensures.cases
