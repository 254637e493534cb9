use Rattle.std.proofs.Common.{refl}
use Rattle.strkw_coding.specs.Rfc4648.{alphabet}
use Rattle.strkw_coding.specs.Blocks.{code32}
use Rattle.strkw_coding.specs.declared.codec.Codec.TheVariants.{Base32}
use Rattle.strkw_coding.proofs.Decoding.{reads_by, writes_base32}
use Rattle.strkw_coding.proofs.radix32.bytes_of_base32.Goals as goal

pub returns : goal.returns
returns c = reads_by (λ v. v.items) Base32 (code32 (alphabet Base32)) c.args.text.now refl writes_base32 _ c.decode.ensures
