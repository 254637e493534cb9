use Rattle.std.proofs.Common.{◌≡◌, ◌++◌, drop, map, string_bytes}
use Rattle.neldrafi_schema.specs.Paths.{segment_text}
use Rattle.neldrafi_schema.specs.machine.Compiled.{children_of}
use Rattle.neldrafi_schema.proofs.kinds.names_of.Given as goal

abbrev pub invariant-loop-child : goal.invariant-loop-child
invariant-loop-child l = map string_bytes l.names.items ++ map (λ c. segment_text c.0) (children_of (drop l.child-index l.children))
    ≡ map (λ c. segment_text c.0) (children_of l.children)
