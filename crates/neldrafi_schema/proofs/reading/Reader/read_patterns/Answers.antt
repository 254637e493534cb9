use Rattle.std.proofs.Common.{rules, ◌≡◌, map, refl, subst, Some}
use Rattle.std.proofs.lemmas.Result.{IfOk-weaker}
use Rattle.serde_json.specs.Find.{as_object}
use Rattle.serde_json.specs.View.{members_view, view}
use Rattle.strkw_keywords.specs.Object.{Settings}
use Rattle.strkw_keywords.specs.Validators.{assertions_of}
use Rattle.neldrafi_schema.specs.Reading.{PatternsAre, numbered_by}
use Rattle.neldrafi_schema.specs.Settings.{config_settings}
use Rattle.neldrafi_schema.specs.machine.Compiled.{path_of}
use Rattle.neldrafi_schema.specs.machine.Places.{scope_of}
use Rattle.neldrafi_schema.specs.machine.Said.{ArePatternsReady, lead_of, patterns_of, said_keywords}
use Rattle.neldrafi_schema.proofs.CompiledPatterns.{patterns_say, refused_say}
use Rattle.neldrafi_schema.proofs.reading.Reader.read_patterns.Goals as goal

pub returns-in_ok-leads-in-Ok-clause-says : goal.returns-in_ok-leads-in-Ok-clause-says
returns-in_ok-leads-in-Ok-clause-says g c =
    let s : Settings =
    record (config_settings g.B.EngineBuilder.takes g.B.EngineBuilder.outcome (λ b. (goal.Format-dyn g b).admits b.1) (λ b. (goal.MediaTypeCheck-dyn g b).accepts b.1)
    (λ b. (goal.ContentCodec-dyn g b).is_encoding b.1) (λ b. (goal.ContentCodec-dyn g b).decoding b.1) c.args.self.now.config.now) { draft = c.args.self.now.library.now.draft } in
    let outcome = g.B.Engine.RegexEngine.outcome in
    let path = path_of c.args.member.now.path.now in
    let name = c.args.member.now.name.now in
    let o = as_object (view c.args.member.now.value.now) in
    let ms = members_view c.in-Some.members.now.entries in
    let is : o ≡ Some ms = search rules in
    let are = subst (λ r. PatternsAre s path name ms (patterns_of outcome name r)) c.in-Ok.is (c.in_ok-patterns.ensures.are name) in
    IfOk-weaker c.numbered.result _ _ (λ said says all extends.
    patterns_say (numbered_by all (scope_of c.args.member.now.scope.now)) s path (path_of c.args.member.now.at.now) name o ms is (map (assertions_of outcome) c.in-Ok.patterns.items) (map lead_of c.in_ok-leads-in-Ok.leads.items)
    (said_keywords outcome name said) are c.requires.at c.in_ok-leads-in-Ok.ensures.paths (says all extends)) c.numbered.ensures.says

pub returns-in_ok-leads-in-Ok-clause-ready : goal.returns-in_ok-leads-in-Ok-clause-ready
returns-in_ok-leads-in-Ok-clause-ready g c =
    let s : Settings =
    record (config_settings g.B.EngineBuilder.takes g.B.EngineBuilder.outcome (λ b. (goal.Format-dyn g b).admits b.1) (λ b. (goal.MediaTypeCheck-dyn g b).accepts b.1)
    (λ b. (goal.ContentCodec-dyn g b).is_encoding b.1) (λ b. (goal.ContentCodec-dyn g b).decoding b.1) c.args.self.now.config.now) { draft = c.args.self.now.library.now.draft } in
    c.numbered.ensures.ready s.lists (subst (ArePatternsReady g.B.Engine.RegexEngine.outcome s.lists) c.in-Ok.is c.in_ok-patterns.ensures.ready)

pub returns-in-Err-clause-says : goal.returns-in-Err-clause-says
returns-in-Err-clause-says g c = λ all extends.
    let s : Settings =
    record (config_settings g.B.EngineBuilder.takes g.B.EngineBuilder.outcome (λ b. (goal.Format-dyn g b).admits b.1) (λ b. (goal.MediaTypeCheck-dyn g b).accepts b.1)
    (λ b. (goal.ContentCodec-dyn g b).is_encoding b.1) (λ b. (goal.ContentCodec-dyn g b).decoding b.1) c.args.self.now.config.now) { draft = c.args.self.now.library.now.draft } in
    let outcome = g.B.Engine.RegexEngine.outcome in
    let path = path_of c.args.member.now.path.now in
    let name = c.args.member.now.name.now in
    let o = as_object (view c.args.member.now.value.now) in
    let ms = members_view c.in-Some.members.now.entries in
    let is : o ≡ Some ms = search rules in
    let are = subst (λ r. PatternsAre s path name ms (patterns_of outcome name r)) c.in-Err.is (c.in_ok-patterns.ensures.are name) in
    refused_say (numbered_by all (scope_of c.args.member.now.scope.now)) s path (path_of c.args.member.now.at.now) name o ms is _ _ _ are refl
