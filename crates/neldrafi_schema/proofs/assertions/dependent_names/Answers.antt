use Rattle.std.proofs.Common.{rules, ◌≡◌, ◌++◌, ap, map, subst, string_bytes, Some}
use Rattle.std.specs.Prelude.{option_and_then, option_map}
use Rattle.serde_json.specs.Data.{member}
use Rattle.serde_json.specs.Find.{as_object}
use Rattle.serde_json.specs.View.{members_view, view}
use Rattle.neldrafi_schema.specs.declared.node.Dependency.{Dependency}
use Rattle.neldrafi_schema.specs.Values.{dependent_names, names_in}
use Rattle.neldrafi_schema.specs.machine.Compiled.{dependency_of}
use Rattle.neldrafi_schema.proofs.Leading.{one_requirement}
use Rattle.neldrafi_schema.proofs.assertions.dependent_names.Goals as goal

pub loop-name-preserved : goal.loop-name-preserved
loop-name-preserved c =
    let all = option_and_then (dependent_names c.args.draft) (as_object (view c.args.value.now)) in
    let name = string_bytes c.in-Some-2.name.now in
    let d = view c.in-Some-2.value.now in
    let rest = members_view c.next.new.self in
    let xs = c.loop-name.dependencies.items in
    let x : Dependency = record { name = c.in_ok-name.name; required = c.in-Some-3.required } in
    let before : option_map (λ later. map dependency_of xs ++ later) (dependent_names c.args.draft (member name d rest)) ≡ all =
    subst (λ es. option_map (λ later. map dependency_of xs ++ later) (dependent_names c.args.draft (members_view es)) ≡ all) c.in-Some-2.ensures.steps c.loop-name.invariant in
    let names : names_in c.args.draft d ≡ Some (map string_bytes c.in-Some-3.required.items) = search rules in
    let same : dependency_of x ≡ (name, map string_bytes c.in-Some-3.required.items) = ap (λ n. (n, map string_bytes c.in-Some-3.required.items)) c.in_ok-name.ensures.cases in
    one_requirement c.args.draft name d rest xs c.push.new.self.items x (map string_bytes c.in-Some-3.required.items) all before names same c.in_ok-push.ensures.items
