use Rattle.std.specs.Vec.Iter.{into_iter_items}
use Rattle.neldrafi_schema.specs.machine.Places.{scope_of}
use Rattle.neldrafi_schema.proofs.Numbering.{NumberedSoFar}
use Rattle.neldrafi_schema.proofs.branches.branches_of.Given as goal

-- the leads so far are numbered
abbrev pub invariant-loop-lead : goal.invariant-loop-lead
invariant-loop-lead l = NumberedSoFar l.fn.places (scope_of l.scope) l.fn.leads.items (into_iter_items l.lead-iterator) l.places l.branches.items
