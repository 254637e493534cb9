use Rattle.std.proofs.Common.{rules, ◌≡◌, Some, None, true, false}
use Rattle.serde_json.specs.Find.{as_object}
use Rattle.serde_json.specs.View.{members_view, view}
use Rattle.strkw_keywords.specs.Object.{Settings}
use Rattle.neldrafi_schema.specs.Settings.{config_settings}
use Rattle.neldrafi_schema.specs.machine.Compiled.{path_of}
use Rattle.neldrafi_schema.specs.machine.Places.{documents_of, scope_of, scoped_paths}
use Rattle.neldrafi_schema.specs.machine.Leads.{boolean_of}
use Rattle.neldrafi_schema.proofs.Bodies.{false_reads, is_later, is_neither, is_object, other_reads, true_reads}
use Rattle.neldrafi_schema.proofs.reading.Reader.read_body.Goals as goal

pub returns-in-Some-clause-read : goal.returns-in-Some-clause-read
returns-in-Some-clause-read g c =
    let is : as_object (view c.args.value.now) ≡ Some (members_view c.in-Some.object.now.entries) = search rules in
    rw (is_object (view c.args.value.now) (members_view c.in-Some.object.now.entries) is) c.read_members.ensures.read

pub returns-in-Some-true-clause-read : goal.returns-in-Some-true-clause-read
returns-in-Some-true-clause-read g c =
    let s : Settings =
    record (config_settings g.B.EngineBuilder.takes g.B.EngineBuilder.outcome (λ b. (goal.Format-dyn g b).admits b.1) (λ b. (goal.MediaTypeCheck-dyn g b).accepts b.1)
    (λ b. (goal.ContentCodec-dyn g b).is_encoding b.1) (λ b. (goal.ContentCodec-dyn g b).decoding b.1) c.args.self.now.config.now) { draft = c.args.self.now.library.now.draft } in
    let d = view c.args.value.now in
    let is : boolean_of s.draft d ≡ Some true = search rules in
    let later = is_later s.draft d true is in
    true_reads g.B.Engine.RegexEngine.outcome s.lists s (documents_of c.args.places.now.documents) (scope_of c.args.scope.now) (path_of c.args.path.now) d
    (scoped_paths c.args.places.now.places.items) c.args.first.now
    later.0 later.1

pub returns-in-Some-false-clause-read : goal.returns-in-Some-false-clause-read
returns-in-Some-false-clause-read g c =
    let s : Settings =
    record (config_settings g.B.EngineBuilder.takes g.B.EngineBuilder.outcome (λ b. (goal.Format-dyn g b).admits b.1) (λ b. (goal.MediaTypeCheck-dyn g b).accepts b.1)
    (λ b. (goal.ContentCodec-dyn g b).is_encoding b.1) (λ b. (goal.ContentCodec-dyn g b).decoding b.1) c.args.self.now.config.now) { draft = c.args.self.now.library.now.draft } in
    let d = view c.args.value.now in
    let is : boolean_of s.draft d ≡ Some false = search rules in
    let later = is_later s.draft d false is in
    false_reads g.B.Engine.RegexEngine.outcome s.lists s (documents_of c.args.places.now.documents) (scope_of c.args.scope.now) (path_of c.args.path.now) d
    (scoped_paths c.args.places.now.places.items) c.args.first.now
    later.0 later.1

pub returns-in_ok-note-in-None-boolean_of-clause-read : goal.returns-in_ok-note-in-None-boolean_of-clause-read
returns-in_ok-note-in-None-boolean_of-clause-read g c =
    let s : Settings =
    record (config_settings g.B.EngineBuilder.takes g.B.EngineBuilder.outcome (λ b. (goal.Format-dyn g b).admits b.1) (λ b. (goal.MediaTypeCheck-dyn g b).accepts b.1)
    (λ b. (goal.ContentCodec-dyn g b).is_encoding b.1) (λ b. (goal.ContentCodec-dyn g b).decoding b.1) c.args.self.now.config.now) { draft = c.args.self.now.library.now.draft } in
    let d = view c.args.value.now in
    let is : boolean_of s.draft d ≡ None = search rules in
    let no_object : as_object d ≡ None = search rules in
    other_reads g.B.Engine.RegexEngine.outcome s.lists s (documents_of c.args.places.now.documents) (scope_of c.args.scope.now) (path_of c.args.path.now) d
    (scoped_paths c.args.places.now.places.items) c.args.first.now
    c.note.new.first (is_neither s.draft d is) no_object c.in_ok-note-in-None-boolean_of.ensures
