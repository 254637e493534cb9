use Rattle.std.proofs.Common.{◌≡◌, ℕ, List, Some}
use Rattle.serde_json.specs.Data.{Data}
use Rattle.serde_json.specs.Find.{get_member}
use Rattle.serde_json.specs.View.{members_view}
use Rattle.neldrafi_schema.specs.Settings.{config_settings}
use Rattle.neldrafi_schema.specs.machine.Compiled.{path_of}
use Rattle.neldrafi_schema.specs.machine.Places.{documents_of, scope_of}
use Rattle.neldrafi_schema.proofs.Finding.{IsAmong}
use Rattle.neldrafi_schema.proofs.Members.{ReadSoFar}
use Rattle.neldrafi_schema.proofs.reading.Reader.read_members.Given as goal

-- the members so far were read, and each one that is left is found by its name
abbrev pub invariant-loop-name : goal.invariant-loop-name
invariant-loop-name g l =
    let s = record (config_settings g.B.EngineBuilder.takes g.B.EngineBuilder.outcome (λ b. (goal.Format-dyn g b).admits b.1) (λ b. (goal.MediaTypeCheck-dyn g b).accepts b.1)
    (λ b. (goal.ContentCodec-dyn g b).is_encoding b.1) (λ b. (goal.ContentCodec-dyn g b).decoding b.1) l.self.config.now) { draft = l.self.library.now.draft } in
    let all = members_view l.object.entries in
    let rest = members_view l.name-iterator in record {
      read : ReadSoFar g.B.Engine.RegexEngine.outcome s (documents_of l.fn.places.documents) (scope_of l.scope) (path_of l.path) all l.fn.places l.fn.first rest l.places l.first l.keywords.items;
      found : (name : List ℕ) (d : Data) → IsAmong name d rest → get_member name all ≡ Some d;
    }
