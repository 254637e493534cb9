use Rattle.std.proofs.Common.{◌∙◌}
use Rattle.std.proofs.lemmas.Result.{IfOk-weaker, MatchResult-weaker}
use Rattle.strkw_keywords.specs.declared.keyword.Keyword.TheVariants.{ContentMediaType, ContentSchema}
use Rattle.strkw_keywords.specs.Handed.{settings_of}
use Rattle.strkw_object.proofs.Owned.{object_of, others_owned}
use Rattle.strkw_object.proofs.Printable.{refused_prints}
use Rattle.strkw_object.proofs.Meaning.{compiled_in_use}
use Rattle.strkw_object.proofs.compile.compile_values.Goals as goal

pub returns-clause-compiled : goal.returns-clause-compiled
returns-clause-compiled g c = λ ms are.
    let taken = c.take_schema-schema.ensures in
    let others = others_owned ms _ _ c.as_values-others.result are taken.others c.as_values-others.ensures in
    c.compile_beside.ensures.compiled ms others (c.compile_moved_schema-schema.ensures ms (others.same ContentMediaType (λ e. absurd (cc)))
    (taken.taken ∙ are.same ContentSchema))

pub returns-clause-refused : goal.returns-clause-refused
returns-clause-refused g c = λ ms are.
    let taken = c.take_schema-schema.ensures in
    let others = others_owned ms _ _ c.as_values-others.result are taken.others c.as_values-others.ensures in
    c.compile_beside.ensures.refused ms others (c.compile_moved_schema-schema.ensures ms (others.same ContentMediaType (λ e. absurd (cc)))
    (taken.taken ∙ are.same ContentSchema))

pub returns-clause-in_use : goal.returns-clause-in_use
returns-clause-in_use g c =
    let s = (settings_of g.B.EngineBuilder.takes g.B.EngineBuilder.outcome (λ b. (goal.Format-dyn g b).admits b.1)
    (λ b. (goal.MediaTypeCheck-dyn g b).accepts b.1) (λ b. (goal.ContentCodec-dyn g b).is_encoding b.1) (λ b. (goal.ContentCodec-dyn g b).decoding b.1)
    c.args.ctx.now) in
    let (ms, are) = object_of c.args.values.now in
    IfOk-weaker c.compile_beside.result _ _ (λ k. compiled_in_use g.B.Engine.RegexEngine.outcome s ms k c.compiled_is_in_use.ensures)
    (returns-clause-compiled g c ms are)

pub returns-clause-printable : goal.returns-clause-printable
returns-clause-printable g c =
    let s = (settings_of g.B.EngineBuilder.takes g.B.EngineBuilder.outcome (λ b. (goal.Format-dyn g b).admits b.1)
    (λ b. (goal.MediaTypeCheck-dyn g b).accepts b.1) (λ b. (goal.ContentCodec-dyn g b).is_encoding b.1) (λ b. (goal.ContentCodec-dyn g b).decoding b.1)
    c.args.ctx.now) in
    let (ms, are) = object_of c.args.values.now in
    MatchResult-weaker c.compile_beside.result (returns-clause-refused g c ms are) (λ k h. h) (refused_prints s ms)
