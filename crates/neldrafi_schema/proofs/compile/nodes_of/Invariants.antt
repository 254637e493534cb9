use Rattle.neldrafi_schema.specs.Settings.{config_settings}
use Rattle.neldrafi_schema.specs.machine.Places.{documents_of}
use Rattle.neldrafi_schema.proofs.Readings.{ReadDocument}
use Rattle.neldrafi_schema.proofs.compile.nodes_of.Given as goal

-- so many schemas were read
abbrev pub invariant-loop-number : goal.invariant-loop-number
invariant-loop-number g l =
    let s =
    config_settings g.B.EngineBuilder.takes g.B.EngineBuilder.outcome (λ b. (goal.Format-dyn g b).admits b.1) (λ b. (goal.MediaTypeCheck-dyn g b).accepts b.1)
    (λ b. (goal.ContentCodec-dyn g b).is_encoding b.1) (λ b. (goal.ContentCodec-dyn g b).decoding b.1) l.config in
    ReadDocument g.B.Engine.RegexEngine.outcome s (documents_of l.documents) l.places l.nodes.items l.first l.number
