use Rattle.std.proofs.Common.{◌≡◌, ◌∙◌, ap, subst, sym}
use Rattle.std.proofs.lemmas.Result.{IfOk-weaker}
use Rattle.serde_json.specs.View.{view}
use Rattle.neldrafi_schema.specs.Reading.{SenseSays, numbered_by}
use Rattle.neldrafi_schema.specs.References.{schema_referred}
use Rattle.neldrafi_schema.specs.Values.{reference_sense}
use Rattle.neldrafi_schema.specs.machine.Compiled.{path_of}
use Rattle.neldrafi_schema.specs.machine.Places.{documents_of, scope_of}
use Rattle.neldrafi_schema.specs.machine.Said.{said_keywords, sense_of}
use Rattle.neldrafi_schema.proofs.Deeper.{IsSenseDown, reference_down, sense_ready}
use Rattle.neldrafi_schema.proofs.reading.Reader.read_reference.Goals as goal

pub returns-clause-says : goal.returns-clause-says
returns-clause-says g c =
    let outcome = g.B.Engine.RegexEngine.outcome in
    let draft = c.args.self.now.library.now.draft in
    let scope = scope_of c.args.scope.now in
    let path = path_of c.args.member.now.path.now in
    let name = c.args.member.now.name.now in
    let d = view c.args.member.now.value.now in
    let meaning : sense_of outcome c.in_ok-sense.sense ≡ reference_sense (schema_referred draft (documents_of c.args.places.now.documents) scope path) d =
    c.in_ok-sense.ensures.sense outcome ∙ ap (λ documents. reference_sense (schema_referred draft documents scope path) d) (sym c.requires.library.documents) in
    IfOk-weaker c.numbered.result _ _ (λ said says all extends.
    subst (λ x. SenseSays (numbered_by all (scope_of c.args.member.now.scope.now)) name x (said_keywords outcome name said)) meaning (says all extends)) c.numbered.ensures.says

pub returns-clause-ready : goal.returns-clause-ready
returns-clause-ready g c = λ lists.
    let outcome = g.B.Engine.RegexEngine.outcome in
    let path = path_of c.args.member.now.path.now in
    let library = c.args.self.now.library.now in
    let down : IsSenseDown path (sense_of outcome c.in_ok-sense.sense) =
    subst (IsSenseDown path) (sym (c.in_ok-sense.ensures.sense outcome))
    (reference_down path (schema_referred library.draft (documents_of library.documents) (scope_of c.args.scope.now) path) (view c.args.member.now.value.now)) in
    c.numbered.ensures.ready lists (sense_ready outcome lists path c.in_ok-sense.sense down)
