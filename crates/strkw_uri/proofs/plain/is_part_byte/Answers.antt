use Rattle.std.proofs.Common.{◌∙◌, ap, not, ◌==◌, bit_and, get_or}
use Rattle.strkw_uri.proofs.PartBytes.{classes, part_byte}
use Rattle.strkw_uri.proofs.plain.is_part_byte.Goals as goal

pub returns : goal.returns
returns c =
    ap (λ k. not (bit_and (get_or classes k 0) c.bit.result == 0)) c.from.ensures
    ∙ ap (λ b. not (bit_and (get_or classes c.args.byte 0) b == 0)) c.bit.ensures ∙ part_byte c.args.part c.args.byte c.ranges.byte.fits
