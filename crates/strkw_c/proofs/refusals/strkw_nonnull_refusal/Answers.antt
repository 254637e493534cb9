use Rattle.std.proofs.Common.{rules}
use Rattle.strkw_report.specs.Refusals.{refusal_of}
use Rattle.strkw_c.proofs.VerdictLemmas.{refused_under}
use Rattle.strkw_c.proofs.refusals.strkw_nonnull_refusal.Goals as goal

pub returns-in-Err-Refused-clause-told : goal.returns-in-Err-Refused-clause-told
returns-in-Err-Refused-clause-told c =
    let err = c.in-Err-Refused in
    let (are, first) = refused_under c.args.draft c.args.options c.in-Some.draft c.in-Some-choices_of.choices err.field-0 err.refusal c.args.schema.now
    (search rules) (search rules) (search rules) err.ensures.failed in
    λ status. let (words, put) = c.tell.ensures.told status in (_, refusal_of err.refusal, words, are, first, put)

pub returns-in-Err-Refused-clause-short : goal.returns-in-Err-Refused-clause-short
returns-in-Err-Refused-clause-short c =
    let err = c.in-Err-Refused in
    let (are, first) = refused_under c.args.draft c.args.options c.in-Some.draft c.in-Some-choices_of.choices err.field-0 err.refusal c.args.schema.now
    (search rules) (search rules) (search rules) err.ensures.failed in
    λ status. let (words, short) = c.tell.ensures.short status in (_, refusal_of err.refusal, words, are, first, short)
