use Rattle.std.proofs.Common.{◌≡◌, ◌∙◌, ◌+◌, [], ap, drop, false, map, refl, sym}
use Rattle.std.proofs.lemmas.Bool.{false≢true}
use Rattle.std.specs.List.{flat_map}
use Rattle.serde_json.specs.View.{view}
use Rattle.neldrafi_schema.specs.Rules.{missing_beside}
use Rattle.neldrafi_schema.specs.machine.Compiled.{dependency_of}
use Rattle.neldrafi_schema.proofs.Lists.{drop_one, nil_left}
use Rattle.neldrafi_schema.proofs.Visited.{refutes}
use Rattle.neldrafi_schema.proofs.kinds.has_all_dependents.Goals as goal

pub returns-then-not-has_dependents : goal.returns-then-not-has_dependents
returns-then-not-has_dependents c =
    let f = missing_beside (view c.args.instance.now) in
    let items = c.args.dependencies.now in
    let i = c.loop-dependency.dependency-index in
    let one = c.dependency-item.result in
    refutes _ false refl (λ none.
    let first : f (dependency_of one) ≡ [] = nil_left (f (dependency_of one)) (flat_map f (map dependency_of (drop (i + 1) items)))
    (sym none ∙ c.loop-dependency.invariant ∙ ap (λ l. flat_map f (map dependency_of l)) (drop_one items i one c.loop-dependency-test.true c.dependency-item.is)) in
    absurd (false≢true (sym c.if-not-has_dependents.true ∙ c.has_dependents.ensures.1 first)))
