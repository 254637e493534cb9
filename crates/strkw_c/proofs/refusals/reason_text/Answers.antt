use Rattle.std.proofs.Common.{rules, ◌∙◌, ap}
use Rattle.std.proofs.lemmas.Result.{IfOk-weaker}
use Rattle.strkw_report.specs.Refusals.{reason_of, regex}
use Rattle.strkw_c.specs.Refusals.{reason_text}
use Rattle.strkw_c.proofs.refusals.reason_text.Goals as goal

pub returns : goal.returns
returns c =
    IfOk-weaker c.pattern_text.result _ _ (λ text is. (
      c.deref-3.result.now,
      is ∙ ap (λ r. reason_text c.deref-3.result.now r)
          {x = regex c.deref-2.result.now} {y = reason_of c.args.refusal.now.kind} (search rules),
    )) c.pattern_text.ensures
