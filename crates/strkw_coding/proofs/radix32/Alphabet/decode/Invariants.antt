use Rattle.std.proofs.Common.{length}
use Rattle.strkw_coding.specs.Blocks.{IsDecodedTo}
use Rattle.strkw_coding.proofs.radix32.Alphabet.decode.Given as goal

abbrev pub invariant-loop-rest : goal.invariant-loop-rest
invariant-loop-rest l = IsDecodedTo l.self.letters l.fn.text l.bytes.items l.rest

abbrev pub decreases-loop-rest : goal.decreases-loop-rest
decreases-loop-rest l = length l.rest
