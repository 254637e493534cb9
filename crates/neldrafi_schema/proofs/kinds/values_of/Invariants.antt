use Rattle.std.proofs.Common.{◌≡◌, ◌++◌, drop, map}
use Rattle.serde_json.specs.View.{view}
use Rattle.neldrafi_schema.specs.machine.Compiled.{children_of}
use Rattle.neldrafi_schema.proofs.kinds.values_of.Given as goal

abbrev pub invariant-loop-child : goal.invariant-loop-child
invariant-loop-child l = map view l.values.items ++ map (λ c. c.1) (children_of (drop l.child-index l.children)) ≡ map (λ c. c.1) (children_of l.children)
