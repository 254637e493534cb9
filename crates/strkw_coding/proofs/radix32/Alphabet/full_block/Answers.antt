use Rattle.std.proofs.Common.{sym, ◌∙◌, arith}
use Rattle.strkw_coding.proofs.FullBlocks.{begins_full}
use Rattle.strkw_coding.proofs.radix32.Alphabet.full_block.Goals as goal

pub returns-then-are_letters : goal.returns-then-are_letters
returns-then-are_letters c = rw c.bytes_of-bytes.ensures.value
    (begins_full c.args.self.now.letters c.args.text.now c.split_at.result.0.now c.split_at.result.1.now c.args.self.now.alphabet c.split_at.ensures.front
    c.split_at.ensures.back (omega (arith, c.if-text-lt8.false)) (sym c.are_letters.ensures ∙ c.if-are_letters.true))
