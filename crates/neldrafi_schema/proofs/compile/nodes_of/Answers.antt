use Rattle.std.proofs.Common.{rules, ◌≡◌, ◌∙◌, ◌≤◌, ℕ, ap, arith, length, subst, sym, Some}
use Rattle.std.proofs.Math.Path.{ap₂}
use Rattle.std.specs.Prelude.{slice_get}
use Rattle.serde_json.specs.View.{view}
use Rattle.strkw_keywords.specs.Object.{Settings}
use Rattle.strkw_report.specs.declared.draft.Draft.{Draft}
use Rattle.neldrafi_schema.specs.Documents.{Documents}
use Rattle.neldrafi_schema.specs.Scopes.{Scope, entered}
use Rattle.neldrafi_schema.specs.Drafts.{draft_of}
use Rattle.neldrafi_schema.specs.Headers.{header_at}
use Rattle.neldrafi_schema.specs.Paths.{Path}
use Rattle.neldrafi_schema.specs.Reading.{BodySays}
use Rattle.neldrafi_schema.specs.Refusals.{ends, schemas_endless}
use Rattle.neldrafi_schema.specs.Settings.{config_settings}
use Rattle.neldrafi_schema.specs.machine.Compiled.{schemas_of}
use Rattle.neldrafi_schema.specs.machine.Compiled.{path_of}
use Rattle.neldrafi_schema.specs.machine.Places.{documents_of, paths_of, place_path, scope_of, scoped_paths}
use Rattle.neldrafi_schema.specs.machine.Problems.{Notes}
use Rattle.neldrafi_schema.specs.machine.Said.{Reads, flag_at}
use Rattle.neldrafi_schema.proofs.Readings.{is_refused, is_said, nothing_read, one_more}
use Rattle.neldrafi_schema.proofs.Lists.{there}
use Rattle.neldrafi_schema.proofs.compile.nodes_of.Given.{Over}
use Rattle.neldrafi_schema.proofs.compile.nodes_of.Goals.{After-new-nodes, else-loop-number-test, then-loop-number-test+in_default}
use Rattle.neldrafi_schema.proofs.compile.nodes_of.Goals as goal

-- what the documents are compiled under
abbrev settings : (g : Over) → After-new-nodes g → Settings
settings g c =
    config_settings g.B.EngineBuilder.takes g.B.EngineBuilder.outcome (λ b. (goal.Format-dyn g b).admits b.1) (λ b. (goal.MediaTypeCheck-dyn g b).accepts b.1)
    (λ b. (goal.ContentCodec-dyn g b).is_encoding b.1) (λ b. (goal.ContentCodec-dyn g b).decoding b.1) c.args.config.now

pub loop-number-init : goal.loop-number-init
loop-number-init g c =
    let s = settings g (goal.at.loop-number-init g c).After-new-nodes in
    rw c.new-nodes.ensures.items (nothing_read g.B.Engine.RegexEngine.outcome s
    (documents_of c.args.documents) c.in_ok-places.places c.in_ok-places.ensures.table c.in_ok-places.ensures.documents
    c.in_ok-places.ensures.root)

pub read_schema-requires-clause-library : goal.read_schema-requires-clause-library
read_schema-requires-clause-library g c = record {
  identifiers = c.in_ok-library.ensures.identifiers;
  documents = c.loop-number.invariant.whole ∙ sym c.in_ok-library.ensures.documents;
}

pub loop-number-preserved : goal.loop-number-preserved
loop-number-preserved g c =
    let s = settings g (goal.at.loop-number-preserved g c).After-new-nodes in
    let outcome = g.B.Engine.RegexEngine.outcome in
    let documents = documents_of c.args.documents in
    let read = c.loop-number.invariant in
    let place = c.in-Some.known.now in
    let at : slice_get c.loop-number.places.places.items c.loop-number.number ≡ Some place =
    ap (λ ps. slice_get ps c.loop-number.number) (sym c.deref.ensures.value)
    ∙ there c.deref.result.now c.loop-number.number place c.in-Some.ensures.lookup.3.0 c.in-Some.ensures.lookup.1 in
    let copied : path_of c.in_ok-path.path.items ≡ place_path place.place = c.in_ok-path.ensures ∙ ap path_of c.deref-in-loop-number.ensures.value in
    let path : path_of c.deref-in-loop-number-5.result.now ≡ place_path place.place = ap path_of c.deref-in-loop-number-5.ensures.value ∙ copied in
    let ReadsAt =
    λ (draft : Draft) (ds : Documents) (scope : Scope) (p : Path). Reads outcome s.lists
    (λ numbered body. BodySays numbered (record s { draft = draft }) ds scope p (view place.place.value.now) body) scope p
    (scoped_paths c.read_schema.new.places.places.items) c.loop-number.first c.read_schema.new.first c.in_ok-node.node.body in
    let library = c.in_ok-library.library in
    let named : c.draft_of-draft.result ≡ draft_of s.draft documents.schema = search rules in
    let draft : library.draft ≡ draft_of s.draft documents.schema = c.in_ok-library.ensures.draft ∙ named in
    let before = scope_of place.scope.items in
    let scope : scope_of c.deref-in-loop-number-4.result.now ≡ entered library.draft documents before (place_path place.place) =
    ap scope_of c.deref-in-loop-number-4.ensures.value ∙ c.in_ok-scope.ensures
    ∙ ap (λ ds. entered library.draft ds (scope_of c.deref-in-loop-number-2.result.now) (path_of c.deref-in-loop-number-3.result.now)) c.in_ok-library.ensures.documents
    ∙ ap (λ uris. entered library.draft documents (scope_of uris) (path_of c.deref-in-loop-number-3.result.now)) c.deref-in-loop-number-2.ensures.value
    ∙ ap (entered library.draft documents before) (ap path_of c.deref-in-loop-number-3.ensures.value ∙ copied) in
    let reads =
    subst (λ draft. ReadsAt draft documents (entered draft documents before (place_path place.place)) (place_path place.place)) draft
    (subst (λ scope. ReadsAt library.draft documents scope (place_path place.place)) scope
    (subst (ReadsAt library.draft documents (scope_of c.deref-in-loop-number-4.result.now)) path
    (subst (λ ds. ReadsAt library.draft ds (scope_of c.deref-in-loop-number-4.result.now) (path_of c.deref-in-loop-number-5.result.now)) read.whole c.in_ok-node.ensures.read))) in
    let headed =
    c.in_ok-node.ensures.header ∙ ap (header_at library.draft (documents_of c.loop-number.places.documents)) path
    ∙ ap₂ (λ draft ds. header_at draft ds (place_path place.place)) draft read.whole in
    one_more outcome s documents c.loop-number.places c.read_schema.new.places c.loop-number.nodes.items c.push.new.self.items c.loop-number.first c.read_schema.new.first c.loop-number.number
    place c.in_ok-node.node read at c.in_ok-node.ensures.grown reads headed c.in_ok-push.ensures.items

pub returns-in-Some-first-clause-refused : goal.returns-in-Some-first-clause-refused
returns-in-Some-first-clause-refused g c =
    let s = settings g (goal.at.returns-in-Some-first-clause-refused g c).After-new-nodes in
    let outcome = g.B.Engine.RegexEngine.outcome in
    let nodes = c.loop-number.nodes.items in
    let places = c.loop-number.places.places.items in
    let end = flag_at c.in_ok-end.end.items in
    let all : length places ≤ c.loop-number.number = elim c.loop-number-test.branch [
      | else-loop-number-test w ↦ omega arith
      | then-loop-number-test+in_default w ↦
          let past : length w.deref.result.now ≤ c.loop-number.number = search rules in
          omega (arith, ap length w.deref.ensures.value)
    ] in
    let same : (n : ℕ) → end n ≡ ends (schemas_of outcome nodes) (length nodes) n = rw c.deref-2.ensures.value at c.in_ok-end.ensures in
    let notes : Notes (schemas_endless end (paths_of places) (schemas_of outcome nodes)) c.loop-number.first c.note_endless_references.new.first =
    rw (c.deref-3.ensures.value, c.deref-4.ensures.value, c.deref-5.ensures.value) at c.in_ok-note_endless_references.ensures in
    is_refused outcome s (documents_of c.args.documents) c.loop-number.places nodes c.loop-number.first c.loop-number.number c.loop-number.invariant all
    end c.note_endless_references.new.first c.in-Some-first.problem same notes c.in-Some-first.is

pub returns : goal.returns
returns g c =
    let s = settings g (goal.at.returns g c).After-new-nodes in
    let outcome = g.B.Engine.RegexEngine.outcome in
    let nodes = c.loop-number.nodes.items in
    let places = c.loop-number.places.places.items in
    let end = flag_at c.in_ok-end.end.items in
    let all : length places ≤ c.loop-number.number = elim c.loop-number-test.branch [
      | else-loop-number-test w ↦ omega arith
      | then-loop-number-test+in_default w ↦
          let past : length w.deref.result.now ≤ c.loop-number.number = search rules in
          omega (arith, ap length w.deref.ensures.value)
    ] in
    let same : (n : ℕ) → end n ≡ ends (schemas_of outcome nodes) (length nodes) n = rw c.deref-2.ensures.value at c.in_ok-end.ensures in
    let notes : Notes (schemas_endless end (paths_of places) (schemas_of outcome nodes)) c.loop-number.first c.note_endless_references.new.first =
    rw (c.deref-3.ensures.value, c.deref-4.ensures.value, c.deref-5.ensures.value) at c.in_ok-note_endless_references.ensures in
    let both = is_said outcome s (documents_of c.args.documents) c.loop-number.places nodes c.loop-number.first c.loop-number.number c.loop-number.invariant all
    end c.note_endless_references.new.first same notes c.in-None.is in
    record { said = both.0; ready = both.1; refused = tt }
