use Rattle.std.proofs.Common.{◌↔◌, length}
use Rattle.strkw_coding.specs.Blocks.{IsCode32}
use Rattle.strkw_coding.proofs.radix32.Alphabet.after_full_blocks.Given as goal

abbrev pub invariant-loop-after : goal.invariant-loop-after
invariant-loop-after l = IsCode32 l.self.letters l.fn.text ↔ IsCode32 l.self.letters l.rest

abbrev pub decreases-loop-after : goal.decreases-loop-after
decreases-loop-after l = length l.rest
