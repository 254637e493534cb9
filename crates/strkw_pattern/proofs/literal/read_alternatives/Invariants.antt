use Rattle.std.proofs.Common.{length, map}
use Rattle.std.specs.String.{string_bytes}
use Rattle.strkw_pattern.proofs.Alternatives.{Continues}
use Rattle.strkw_pattern.proofs.literal.read_alternatives.Given as goal

abbrev pub invariant-loop-alternatives : goal.invariant-loop-alternatives
invariant-loop-alternatives l = Continues l.pattern l.rest (map string_bytes l.alternatives.items)

abbrev pub decreases-loop-alternatives : goal.decreases-loop-alternatives
decreases-loop-alternatives l = length l.rest
