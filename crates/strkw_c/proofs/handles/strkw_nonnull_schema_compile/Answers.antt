use Rattle.std.proofs.Common.{rules}
use Rattle.strkw_report.specs.Refusals.{refusal_of}
use Rattle.strkw_c.proofs.VerdictLemmas.{refused_under}
use Rattle.strkw_c.proofs.handles.strkw_nonnull_schema_compile.Goals as goal

pub returns-clause-refused : goal.returns-clause-refused
returns-clause-refused c =
    let err = c.in-Err-Refused in
    let (are, first) = refused_under c.args.draft c.args.options c.in-Some.draft c.in-Some-choices_of.choices err.field-0 err.field-0-0 c.args.schema.now
    (search rules) (search rules) (search rules) err.ensures.failed in
    λ refused. (_, refusal_of err.field-0-0, are, first)
