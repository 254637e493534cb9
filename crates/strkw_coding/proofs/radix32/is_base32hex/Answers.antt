use Rattle.std.proofs.Common.{refl}
use Rattle.strkw_text.proofs.Equivalences.{carry}
use Rattle.strkw_coding.specs.Rfc4648.{alphabet}
use Rattle.strkw_coding.specs.Blocks.{code32}
use Rattle.strkw_coding.specs.declared.codec.Codec.TheVariants.{Base32Hex}
use Rattle.strkw_coding.proofs.Decoding.{encoding_by, writes_base32hex}
use Rattle.strkw_coding.proofs.radix32.is_base32hex.Goals as goal

pub returns : goal.returns
returns c = carry c.is_code.ensures (encoding_by Base32Hex (code32 (alphabet Base32Hex)) c.args.text.now refl writes_base32hex)
