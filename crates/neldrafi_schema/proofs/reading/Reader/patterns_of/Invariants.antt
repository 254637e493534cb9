use Rattle.serde_json.specs.View.{members_view}
use Rattle.neldrafi_schema.specs.Settings.{config_settings}
use Rattle.neldrafi_schema.specs.machine.Compiled.{path_of}
use Rattle.neldrafi_schema.proofs.CompiledPatterns.{PatternsSoFar}
use Rattle.neldrafi_schema.proofs.reading.Reader.patterns_of.Given as goal

-- the patterns so far, with members that are left
abbrev pub invariant-loop-name : goal.invariant-loop-name
invariant-loop-name g l =
    let s = record (config_settings g.B.EngineBuilder.takes g.B.EngineBuilder.outcome (λ b. (goal.Format-dyn g b).admits b.1) (λ b. (goal.MediaTypeCheck-dyn g b).accepts b.1)
    (λ b. (goal.ContentCodec-dyn g b).is_encoding b.1) (λ b. (goal.ContentCodec-dyn g b).decoding b.1) l.self.config.now) { draft = l.self.library.now.draft } in
    PatternsSoFar g.B.Engine.RegexEngine.outcome s (path_of l.path) (members_view l.members.entries) (members_view l.name-iterator) l.patterns.items
