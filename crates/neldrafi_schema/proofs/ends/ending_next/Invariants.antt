use Rattle.std.proofs.Common.{◌≡◌, map, take}
use Rattle.neldrafi_schema.specs.machine.Compiled.{body_of}
use Rattle.neldrafi_schema.specs.Refusals.{body_ends}
use Rattle.neldrafi_schema.specs.machine.Said.{flag_at}
use Rattle.neldrafi_schema.proofs.ends.ending_next.Given as goal

abbrev pub invariant-loop-node : goal.invariant-loop-node
invariant-loop-node g l = l.next.items ≡ map (λ node. body_ends (flag_at l.end) (body_of g.E.RegexEngine.outcome node.body)) (take l.node-index l.nodes)
