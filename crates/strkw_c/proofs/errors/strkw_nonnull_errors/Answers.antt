use Rattle.std.proofs.Common.{rules, subst}
use Rattle.strkw_report.specs.Refusals.{refusal_of}
use Rattle.strkw_c.specs.Buffers.{IsPut, IsTooLong}
use Rattle.strkw_c.specs.Errors.{HasLines}
use Rattle.strkw_c.specs.Settings.{settings_for}
use Rattle.strkw_c.proofs.VerdictLemmas.{refused_under, settings_are}
use Rattle.strkw_c.proofs.errors.strkw_nonnull_errors.Goals as goal

pub returns-then-put-clause-done : goal.returns-then-put-clause-done
returns-then-put-clause-done c =
    let s = settings_for c.in-Some.draft c.in-Some-choices_of.choices in
    let lines = c.in-Ok-answer_to.lines.items in
    λ status. (
      s,
      lines,
      settings_are c.args.draft c.args.options c.in-Some.draft c.in-Some-choices_of.choices (search rules) (search rules),
      subst (λ t. HasLines s c.args.schema.now t lines) (search rules) c.in-Ok-answer_to.ensures.done,
      subst (λ t. IsPut t c.args.out.now c.put.new.out c.put.new.written) (search rules) c.if-put.ensures,
    )

pub returns-in-Ok-answer_to-clause-short : goal.returns-in-Ok-answer_to-clause-short
returns-in-Ok-answer_to-clause-short c =
    let s = settings_for c.in-Some.draft c.in-Some-choices_of.choices in
    let lines = c.in-Ok-answer_to.lines.items in
    λ status. (
      s,
      lines,
      settings_are c.args.draft c.args.options c.in-Some.draft c.in-Some-choices_of.choices (search rules) (search rules),
      subst (λ t. HasLines s c.args.schema.now t lines) (search rules) c.in-Ok-answer_to.ensures.done,
      subst (λ t. IsTooLong t c.args.out.now c.put.new.out c.put.new.written) (search rules) c.if-put.ensures,
    )

pub returns-clause-refused : goal.returns-clause-refused
returns-clause-refused c =
    let err = c.in-Err-Refused in
    let (are, first) = refused_under c.args.draft c.args.options c.in-Some.draft c.in-Some-choices_of.choices err.field-0 err.field-0-0 c.args.schema.now
    (search rules) (search rules) (search rules) err.ensures.failed in
    λ refused. (_, refusal_of err.field-0-0, are, first)
