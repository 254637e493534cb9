use Rattle.std.proofs.Common.{drop}
use Rattle.std.specs.List.{AllByRecursion}
use Rattle.neldrafi_schema.specs.machine.Ordered.{IsInOrder}
use Rattle.neldrafi_schema.proofs.rules.are_all_in_order.Given as goal

-- all keywords are in order where those that are left are
abbrev pub invariant-loop-keyword : goal.invariant-loop-keyword
invariant-loop-keyword g l = AllByRecursion IsInOrder (drop l.keyword-index l.keywords) → AllByRecursion IsInOrder l.keywords
