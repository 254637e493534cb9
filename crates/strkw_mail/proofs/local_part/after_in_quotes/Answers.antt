use Rattle.strkw_text.specs.Fronts.{RunThen}
use Rattle.strkw_text.proofs.Equivalences.{MatchOption-map}
use Rattle.strkw_text.proofs.Runs.{run_start, run_push}
use Rattle.strkw_mail.specs.Mailbox.{QcontentOf}
use Rattle.strkw_mail.specs.Scan.{qtext}
use Rattle.strkw_mail.proofs.QuotedStrings.{quotes_end, quotes_stop}
use Rattle.strkw_mail.proofs.local_part.after_in_quotes.Goals as goal

pub loop-after-init : goal.loop-after-init
loop-after-init c = run_start (QcontentOf (qtext c.args.charset)) c.args.bytes.now

pub loop-after-preserved : goal.loop-after-preserved
loop-after-preserved c = run_push (QcontentOf (qtext c.args.charset)) _ _ _ c.loop-after.invariant c.in-Some.ensures.cases

pub returns : goal.returns
returns c =
    let run : RunThen (QcontentOf (qtext c.args.charset)) c.args.bytes.now c.loop-after.rest.now =
    record { run = c.loop-after.invariant; stops = c.in_default.ensures.cases } in
    MatchOption-map _ _ _ _ c.strip.result (quotes_stop c.args.charset c.args.bytes.now c.loop-after.rest.now run)
    (λ behind e. quotes_end c.args.charset c.args.bytes.now c.loop-after.rest.now run behind.now e) c.strip.ensures.cases
