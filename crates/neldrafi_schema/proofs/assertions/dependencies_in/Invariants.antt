use Rattle.std.proofs.Common.{◌≡◌, ◌++◌, map}
use Rattle.std.specs.Prelude.{option_map}
use Rattle.serde_json.specs.View.{members_view}
use Rattle.neldrafi_schema.specs.Values.{dependencies_in}
use Rattle.neldrafi_schema.specs.machine.Compiled.{dependency_of}
use Rattle.neldrafi_schema.proofs.assertions.dependencies_in.Given as goal

-- the names so far, and what is left
abbrev pub invariant-loop-name : goal.invariant-loop-name
invariant-loop-name l = option_map (λ rest. map dependency_of l.dependencies.items ++ rest) (dependencies_in l.draft (members_view l.name-iterator))
    ≡ dependencies_in l.draft (members_view l.members.entries)
