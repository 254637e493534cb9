use Rattle.std.proofs.Common.{List, ℕ, length}
use Rattle.strkw_coding.specs.Blocks.{IsDecodedTo}
use Rattle.strkw_coding.proofs.radix32.Alphabet.push_full_blocks.Given as goal

-- what was decoded up to the text is, with what was appended, decoded up to the rest
abbrev pub invariant-loop-group : goal.invariant-loop-group
invariant-loop-group l =
    (whole : List ℕ) → IsDecodedTo l.self.letters whole l.initial.bytes.items l.fn.text → IsDecodedTo l.self.letters whole l.bytes.items l.rest

abbrev pub decreases-loop-group : goal.decreases-loop-group
decreases-loop-group l = length l.rest
