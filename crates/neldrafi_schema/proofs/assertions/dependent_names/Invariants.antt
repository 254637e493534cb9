use Rattle.std.proofs.Common.{◌≡◌, ◌++◌, map}
use Rattle.std.specs.Prelude.{option_and_then, option_map}
use Rattle.serde_json.specs.Find.{as_object}
use Rattle.serde_json.specs.View.{members_view, view}
use Rattle.neldrafi_schema.specs.Values.{dependent_names}
use Rattle.neldrafi_schema.specs.machine.Compiled.{dependency_of}
use Rattle.neldrafi_schema.proofs.assertions.dependent_names.Given as goal

-- the names so far, and what is left
abbrev pub invariant-loop-name : goal.invariant-loop-name
invariant-loop-name l = option_map (λ rest. map dependency_of l.dependencies.items ++ rest) (dependent_names l.draft (members_view l.name-iterator))
    ≡ option_and_then (dependent_names l.draft) (as_object (view l.value))
