use Rattle.strkw_text.proofs.Equivalences.{iff_trans}
use Rattle.strkw_coding.proofs.FirstBlocks.{rest_is_code}
use Rattle.strkw_coding.proofs.radix32.Alphabet.after_full_blocks.Goals as goal

pub loop-after-preserved : goal.loop-after-preserved
loop-after-preserved c = iff_trans c.loop-after.invariant (rest_is_code _ _ _ _ _ c.in-Some.ensures)
