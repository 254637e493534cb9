use Rattle.strkw_keywords.specs.Handed.{settings_of}
use Rattle.strkw_object.proofs.Whole.{Beside}
use Rattle.strkw_object.proofs.compile.compile_beside.Given as goal

abbrev pub invariant-loop-keyword : goal.invariant-loop-keyword
invariant-loop-keyword g l =
    Beside g.B.Engine.RegexEngine.outcome (settings_of g.B.EngineBuilder.takes g.B.EngineBuilder.outcome (λ b. (goal.Format-dyn g b).admits b.1)
    (λ b. (goal.MediaTypeCheck-dyn g b).accepts b.1) (λ b. (goal.ContentCodec-dyn g b).is_encoding b.1) (λ b. (goal.ContentCodec-dyn g b).decoding b.1) l.ctx)
    l.values l.initial.schema l.keyword-index l.schema l.validators.items
