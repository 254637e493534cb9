use Rattle.std.proofs.Common.{take}
use Rattle.neldrafi_schema.specs.machine.Compiled.{schemas_of}
use Rattle.neldrafi_schema.specs.machine.Places.{paths_of}
use Rattle.neldrafi_schema.specs.machine.Problems.{Notes}
use Rattle.neldrafi_schema.specs.Refusals.{schemas_endless}
use Rattle.neldrafi_schema.specs.machine.Said.{flag_at}
use Rattle.neldrafi_schema.proofs.ends.note_endless_references.Given as goal

abbrev pub invariant-loop-number : goal.invariant-loop-number
invariant-loop-number g l =
    Notes (schemas_endless (flag_at l.end) (take l.number (paths_of l.places)) (take l.number (schemas_of g.E.RegexEngine.outcome l.nodes))) l.fn.first l.first
