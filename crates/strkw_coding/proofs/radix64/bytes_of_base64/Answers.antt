use Rattle.std.proofs.Common.{refl}
use Rattle.base64.specs.Engines.{standard}
use Rattle.base64.specs.GeneralPurpose.{encode_of}
use Rattle.strkw_coding.specs.declared.codec.Codec.TheVariants.{Base64}
use Rattle.strkw_coding.proofs.Decoding.{reads_by}
use Rattle.strkw_coding.proofs.Encoders.{code-base64}
use Rattle.strkw_coding.proofs.radix64.bytes_of_base64.Goals as goal

pub returns : goal.returns
returns c = reads_by (λ v. v.items) Base64 (encode_of standard) c.args.text.now refl code-base64 _ c.decode.ensures
