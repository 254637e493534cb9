use Rattle.std.proofs.Common.{◌∙◌, ap, not, ◌==◌, bit_and, get_or}
use Rattle.strkw_uri.proofs.PartBytes.{classes, scheme_byte}
use Rattle.strkw_uri.proofs.plain.is_scheme_byte.Goals as goal

pub returns : goal.returns
returns c = ap (λ k. not (bit_and (get_or classes k 0) 32 == 0)) c.from.ensures ∙ scheme_byte c.args.byte c.ranges.byte.fits
