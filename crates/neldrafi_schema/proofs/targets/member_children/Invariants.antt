use Rattle.std.proofs.Common.{◌≡◌, ◌++◌, map}
use Rattle.serde_json.specs.View.{members_view, view}
use Rattle.neldrafi_schema.specs.declared.node.Part.TheVariants as part
use Rattle.neldrafi_schema.specs.Paths.{key}
use Rattle.neldrafi_schema.specs.Rules.{children, member_list}
use Rattle.neldrafi_schema.specs.machine.Compiled.{children_of}
use Rattle.neldrafi_schema.proofs.targets.member_children.Given as goal

-- the members so far, and those that are left
abbrev pub invariant-loop-name : goal.invariant-loop-name
invariant-loop-name l =
    children_of l.children.items ++ map (λ m. (key m.0, m.1)) (member_list (members_view l.name-iterator)) ≡ children part.Members (view l.instance)
