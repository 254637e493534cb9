use Rattle.std.proofs.Common.{rules, ◌≡◌, ◌++◌, ap, map, subst, string_bytes, true, Some}
use Rattle.std.specs.Prelude.{option_map}
use Rattle.serde_json.specs.Data.{member}
use Rattle.serde_json.specs.View.{members_view, view}
use Rattle.neldrafi_schema.specs.declared.node.Dependency.{Dependency}
use Rattle.neldrafi_schema.specs.Values.{dependencies_in, is_array, names_in}
use Rattle.neldrafi_schema.specs.machine.Compiled.{dependency_of}
use Rattle.neldrafi_schema.proofs.Leading.{one_dependency}
use Rattle.neldrafi_schema.proofs.assertions.dependencies_in.Goals as goal

pub loop-name-preserved-in-Continue-branch-4 : goal.loop-name-preserved-in-Continue-branch-4
loop-name-preserved-in-Continue-branch-4 c =
    let all = dependencies_in c.args.draft (members_view c.args.members.now.entries) in
    let name = string_bytes c.in-Some.name.now in
    let d = view c.in-Some.value.now in
    let rest = members_view c.next.new.self in
    let xs = c.loop-name.dependencies.items in
    let x : Dependency = record { name = c.in_ok-name.name; required = c.in-Some-2.required } in
    let before : option_map (λ later. map dependency_of xs ++ later) (dependencies_in c.args.draft (member name d rest)) ≡ all =
    subst (λ es. option_map (λ later. map dependency_of xs ++ later) (dependencies_in c.args.draft (members_view es)) ≡ all) c.in-Some.ensures.steps c.loop-name.invariant in
    let array : is_array d ≡ true = search rules in
    let names : names_in c.args.draft d ≡ Some (map string_bytes c.in-Some-2.required.items) = search rules in
    let same : dependency_of x ≡ (name, map string_bytes c.in-Some-2.required.items) = ap (λ n. (n, map string_bytes c.in-Some-2.required.items)) c.in_ok-name.ensures.cases in
    one_dependency c.args.draft name d rest xs c.push.new.self.items x (map string_bytes c.in-Some-2.required.items) all before array names same c.in_ok-push.ensures.items
