use Rattle.std.proofs.Common.{refl}
use Rattle.strkw_coding.specs.Rfc4648.{alphabet}
use Rattle.strkw_coding.specs.Blocks.{code32}
use Rattle.strkw_coding.specs.declared.codec.Codec.TheVariants.{Base32Hex}
use Rattle.strkw_coding.proofs.Decoding.{reads_by, writes_base32hex}
use Rattle.strkw_coding.proofs.radix32.bytes_of_base32hex.Goals as goal

pub returns : goal.returns
returns c = reads_by (λ v. v.items) Base32Hex (code32 (alphabet Base32Hex)) c.args.text.now refl writes_base32hex _ c.decode.ensures
