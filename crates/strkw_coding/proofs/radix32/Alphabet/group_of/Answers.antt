use Rattle.std.proofs.Common.{◌∙◌}
use Rattle.strkw_coding.proofs.Groups.{group_only}
use Rattle.strkw_coding.proofs.radix32.Alphabet.group_of.Goals as goal

pub returns-clause-only : goal.returns-clause-only
returns-clause-only c = λ p bytes some few is.
    let g = group_only c.args.self.now.letters c.args.block.now p c.args.self.now.alphabet bytes some few is in
    (c.group_len.ensures.value ∙ g.len, c.bytes_of-bytes.ensures.value ∙ g.bytes)
