use Rattle.std.proofs.Common.{rules, ◌≡◌, ◌∙◌, ◌++◌, Some, ap, sym}
use Rattle.serde_json.specs.View.{view}
use Rattle.neldrafi_schema.specs.Documents.{value_in}
use Rattle.neldrafi_schema.specs.machine.Compiled.{path_of}
use Rattle.neldrafi_schema.specs.machine.Places.{IsBelow, documents_of, place_path}
use Rattle.neldrafi_schema.proofs.Finding.{value_behind}
use Rattle.neldrafi_schema.proofs.references.Library.place_from.Goals as goal

pub returns-in_ok-path_joined-in-Some-2-clause-there :
    goal.returns-in_ok-path_joined-in-Some-2-clause-there
returns-in_ok-path_joined-in-Some-2-clause-there c =
    let documents = documents_of c.args.self.now.documents in
    let below = c.in-Some-2.below in
    let joined = c.in_ok-path_joined-in-Some-2.field-0 in
    let path : path_of joined.items ≡ path_of c.args.root.now ++ place_path below =
    c.in_ok-path_joined-in-Some-2.ensures ∙ ap (λ segments. path_of c.args.root.now ++ path_of segments) c.deref.ensures.value in
    let found : IsBelow (view c.in-Some.value.now) below = search rules in
    let there : value_in documents (path_of c.args.root.now) ≡ Some (view c.in-Some.value.now) = sym c.in-Some.ensures in
    ap (value_in documents) path ∙ value_behind (path_of c.args.root.now) (place_path below) documents (view c.in-Some.value.now) (view below.value.now) there found
