use Rattle.std.proofs.Common.{rules, ◌≡◌, ◌++◌, ◌∙◌, codes}
use Rattle.std.proofs.lemmas.Result.{IfOk-weaker}
use Rattle.strkw_report.specs.Refusals.{refusal_of}
use Rattle.strkw_c.specs.Refusals.{refusal_text}
use Rattle.strkw_c.proofs.refusals.refusal_text.Goals as goal

pub returns : goal.returns
returns c =
    let (words, reason) = c.in_ok-reason.ensures in
    let same : c.as_str.result.now ++ codes ": " ++ c.deref.result.now ≡ refusal_text words (refusal_of c.args.refusal.now) = search (rules, reason) in
    IfOk-weaker c.placed_text.result _ _ (λ text is. (words, is ∙ same)) c.placed_text.ensures
