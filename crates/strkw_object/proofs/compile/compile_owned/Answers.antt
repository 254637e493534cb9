use Rattle.std.proofs.lemmas.Result.{IfOk-weaker, MatchResult-weaker}
use Rattle.serde_json.specs.View.{members_view}
use Rattle.strkw_keywords.specs.Handed.{settings_of}
use Rattle.strkw_object.proofs.Owned.{others_held}
use Rattle.strkw_object.proofs.Printable.{refused_prints}
use Rattle.strkw_object.proofs.Meaning.{compiled_in_use}
use Rattle.strkw_object.proofs.compile.compile_owned.Goals as goal

pub returns-clause-compiled : goal.returns-clause-compiled
returns-clause-compiled g c =
    c.compile_beside.ensures.compiled (members_view c.args.object.entries)
    (others_held _ _ _ c.take_content_schema-schema.ensures.others.left c.of.ensures) c.take_content_schema-schema.ensures.compiled

pub returns-clause-in_use : goal.returns-clause-in_use
returns-clause-in_use g c =
    let s = (settings_of g.B.EngineBuilder.takes g.B.EngineBuilder.outcome (λ b. (goal.Format-dyn g b).admits b.1)
    (λ b. (goal.MediaTypeCheck-dyn g b).accepts b.1) (λ b. (goal.ContentCodec-dyn g b).is_encoding b.1) (λ b. (goal.ContentCodec-dyn g b).decoding b.1)
    c.args.ctx.now) in
    let ms = members_view c.args.object.entries in
    let compiled = c.compile_beside.ensures.compiled ms
    (others_held _ _ _ c.take_content_schema-schema.ensures.others.left c.of.ensures) c.take_content_schema-schema.ensures.compiled in
    IfOk-weaker c.compile_beside.result _ _ (λ k. compiled_in_use g.B.Engine.RegexEngine.outcome s ms k c.compiled_is_in_use.ensures) compiled

pub returns-clause-refused : goal.returns-clause-refused
returns-clause-refused g c =
    c.compile_beside.ensures.refused (members_view c.args.object.entries)
    (others_held _ _ _ c.take_content_schema-schema.ensures.others.left c.of.ensures) c.take_content_schema-schema.ensures.compiled

pub returns-clause-printable : goal.returns-clause-printable
returns-clause-printable g c =
    let s = (settings_of g.B.EngineBuilder.takes g.B.EngineBuilder.outcome (λ b. (goal.Format-dyn g b).admits b.1)
    (λ b. (goal.MediaTypeCheck-dyn g b).accepts b.1) (λ b. (goal.ContentCodec-dyn g b).is_encoding b.1) (λ b. (goal.ContentCodec-dyn g b).decoding b.1)
    c.args.ctx.now) in
    let ms = members_view c.args.object.entries in
    let refused = c.compile_beside.ensures.refused ms
    (others_held _ _ _ c.take_content_schema-schema.ensures.others.left c.of.ensures) c.take_content_schema-schema.ensures.compiled in
    MatchResult-weaker c.compile_beside.result refused (λ k h. h) (refused_prints s ms)
