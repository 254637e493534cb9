use Rattle.std.proofs.Common.{refl}
use Rattle.strkw_text.proofs.Equivalences.{carry}
use Rattle.strkw_coding.specs.Rfc4648.{alphabet}
use Rattle.strkw_coding.specs.Blocks.{code32}
use Rattle.strkw_coding.specs.declared.codec.Codec.TheVariants.{Base32}
use Rattle.strkw_coding.proofs.Decoding.{encoding_by, writes_base32}
use Rattle.strkw_coding.proofs.radix32.is_base32.Goals as goal

pub returns : goal.returns
returns c = carry c.is_code.ensures (encoding_by Base32 (code32 (alphabet Base32)) c.args.text.now refl writes_base32)
