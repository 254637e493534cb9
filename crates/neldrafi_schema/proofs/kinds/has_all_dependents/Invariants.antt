use Rattle.std.proofs.Common.{◌≡◌, drop, map}
use Rattle.std.specs.List.{flat_map}
use Rattle.serde_json.specs.View.{view}
use Rattle.neldrafi_schema.specs.Rules.{missing_beside}
use Rattle.neldrafi_schema.specs.machine.Compiled.{dependency_of}
use Rattle.neldrafi_schema.proofs.kinds.has_all_dependents.Given as goal

-- no name so far is missing
abbrev pub invariant-loop-dependency : goal.invariant-loop-dependency
invariant-loop-dependency l = flat_map (missing_beside (view l.instance)) (map dependency_of l.dependencies)
    ≡ flat_map (missing_beside (view l.instance)) (map dependency_of (drop l.dependency-index l.dependencies))
