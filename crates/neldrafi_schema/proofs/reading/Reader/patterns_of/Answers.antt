use Rattle.std.proofs.Common.{rules, ◌≡◌, ◌∙◌, ap, subst, string_bytes, Some}
use Rattle.serde_json.specs.Data.{member, no_members, string}
use Rattle.serde_json.specs.View.{members_view, view}
use Rattle.strkw_keywords.specs.Object.{Settings}
use Rattle.neldrafi_schema.specs.Paths.{Path}
use Rattle.neldrafi_schema.specs.Settings.{config_settings}
use Rattle.neldrafi_schema.specs.machine.Compiled.{path_of}
use Rattle.neldrafi_schema.proofs.CompiledPatterns.{PatternsSoFar, all_patterns, found_none, found_one, found_refused, none_so_far}
use Rattle.neldrafi_schema.proofs.reading.Reader.patterns_of.Given.{Over}
use Rattle.neldrafi_schema.proofs.reading.Reader.patterns_of.Goals.{After-new-patterns, in-None-2, in-Some-Ok+in_ok-push-in-Some-Ok}
use Rattle.neldrafi_schema.proofs.reading.Reader.patterns_of.Goals as goal

-- what the document is compiled under
abbrev settings : (g : Over) → After-new-patterns g → Settings
settings g c =
    record (config_settings g.B.EngineBuilder.takes g.B.EngineBuilder.outcome (λ b. (goal.Format-dyn g b).admits b.1) (λ b. (goal.MediaTypeCheck-dyn g b).accepts b.1)
    (λ b. (goal.ContentCodec-dyn g b).is_encoding b.1) (λ b. (goal.ContentCodec-dyn g b).decoding b.1) c.args.self.now.config.now) { draft = c.args.self.now.library.now.draft }

pub loop-name-init : goal.loop-name-init
loop-name-init g c =
    let s = settings g (goal.at.loop-name-init g c).After-new-patterns in
    let all = c.args.members.now.entries in
    let same : c.into_iter-name-iterator.result ≡ all = search rules in
    rw (same, c.new-patterns.ensures.items) (none_so_far g.B.Engine.RegexEngine.outcome s (path_of c.args.path.now) (members_view all))

pub returns-in-Some-Err-clause-are : goal.returns-in-Some-Err-clause-are
returns-in-Some-Err-clause-are g c = λ name.
    let outcome = g.B.Engine.RegexEngine.outcome in
    let s = settings g (goal.at.returns-in-Some-Err-clause-are g c).After-new-patterns in
    let path = path_of c.args.path.now in
    let all = members_view c.args.members.now.entries in
    let pattern = string_bytes c.in-Some.name.now in
    let d = view c.in-Some.field-0-1.now in
    let rest = members_view c.next.new.self in
    let value : view c.in_ok-value.value ≡ string pattern = search rules in
    let before : PatternsSoFar outcome s path all (member pattern d rest) c.loop-name.patterns.items =
    subst (λ es. PatternsSoFar outcome s path all (members_view es) c.loop-name.patterns.items) c.in-Some.ensures.steps c.loop-name.invariant in
    let says = λ (at : Path). c.in_ok-compiled.ensures.says at (string pattern) value in
    found_refused outcome s path all pattern d rest c.loop-name.patterns.items before c.in_ok-compiled.field-0 says c.in_ok-compiled.ensures.ready
    name (string_bytes c.in_ok-pattern-in-Some-Err.pattern) c.in-Some-Err.refusal (c.in-Some-Err.is ∙ ap Some c.in-Some-Err.field-0-is) c.in_ok-pattern-in-Some-Err.ensures.cases

pub loop-name-preserved-after-branch-3 : goal.loop-name-preserved-after-branch-3
loop-name-preserved-after-branch-3 g c =
    let outcome = g.B.Engine.RegexEngine.outcome in
    let s = settings g (goal.at.loop-name-preserved-after-branch-3 g c).After-new-patterns in
    let path = path_of c.args.path.now in
    let all = members_view c.args.members.now.entries in
    let pattern = string_bytes c.in-Some.name.now in
    let d = view c.in-Some.field-0-1.now in
    let rest = members_view c.next.new.self in
    let value : view c.in_ok-value.value ≡ string pattern = search rules in
    let before : PatternsSoFar outcome s path all (member pattern d rest) c.loop-name.patterns.items =
    subst (λ es. PatternsSoFar outcome s path all (members_view es) c.loop-name.patterns.items) c.in-Some.ensures.steps c.loop-name.invariant in
    let says = λ (at : Path). c.in_ok-compiled.ensures.says at (string pattern) value in
    elim c.match-branch-3.branch [
      | in-None-2 w ↦ found_none outcome s path all pattern d rest c.loop-name.patterns.items before c.in_ok-compiled.field-0 says c.in_ok-compiled.ensures.ready
          c.match-branch-3.patterns.items w.in-None-2.is (ap (λ v. v.items) w.patterns-is)
      | in-Some-Ok+in_ok-push-in-Some-Ok w ↦ found_one outcome s path all pattern d rest c.loop-name.patterns.items before c.in_ok-compiled.field-0 says
          c.in_ok-compiled.ensures.ready c.match-branch-3.patterns.items w.push.new.self.items w.in-Some-Ok.validator (w.in-Some-Ok.is ∙ ap Some w.in-Some-Ok.field-0-is)
          (ap (λ v. v.items) w.patterns-is) w.in_ok-push-in-Some-Ok.ensures.items
    ]

pub loop-name-preserved : goal.loop-name-preserved
loop-name-preserved g c =
    let outcome = g.B.Engine.RegexEngine.outcome in
    let s = settings g (goal.at.loop-name-preserved g c).After-new-patterns in
    let path = path_of c.args.path.now in
    let all = members_view c.args.members.now.entries in
    let pattern = string_bytes c.in-Some.name.now in
    let d = view c.in-Some.field-0-1.now in
    let rest = members_view c.next.new.self in
    let value : view c.in_ok-value.value ≡ string pattern = search rules in
    let before : PatternsSoFar outcome s path all (member pattern d rest) c.loop-name.patterns.items =
    subst (λ es. PatternsSoFar outcome s path all (members_view es) c.loop-name.patterns.items) c.in-Some.ensures.steps c.loop-name.invariant in
    let says = λ (at : Path). c.in_ok-compiled.ensures.says at (string pattern) value in
    elim c.match-branch-3.branch [
      | in-None-2 w ↦ found_none outcome s path all pattern d rest c.loop-name.patterns.items before c.in_ok-compiled.field-0 says c.in_ok-compiled.ensures.ready
          c.match-branch-3.patterns.items w.in-None-2.is (ap (λ v. v.items) w.patterns-is)
      | in-Some-Ok+in_ok-push-in-Some-Ok w ↦ found_one outcome s path all pattern d rest c.loop-name.patterns.items before c.in_ok-compiled.field-0 says
          c.in_ok-compiled.ensures.ready c.match-branch-3.patterns.items w.push.new.self.items w.in-Some-Ok.validator (w.in-Some-Ok.is ∙ ap Some w.in-Some-Ok.field-0-is)
          (ap (λ v. v.items) w.patterns-is) w.in_ok-push-in-Some-Ok.ensures.items
    ]

pub returns-clause-are : goal.returns-clause-are
returns-clause-are g c = λ name.
    let outcome = g.B.Engine.RegexEngine.outcome in
    let s = settings g (goal.at.returns-clause-are g c).After-new-patterns in
    let all = members_view c.args.members.now.entries in
    let so_far : PatternsSoFar outcome s (path_of c.args.path.now) all no_members c.loop-name.patterns.items =
    subst (λ es. PatternsSoFar outcome s (path_of c.args.path.now) all (members_view es) c.loop-name.patterns.items) c.in-None.ensures.steps.0 c.loop-name.invariant in
    all_patterns outcome s (path_of c.args.path.now) name all c.loop-name.patterns.items (so_far.are name)
