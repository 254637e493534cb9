use Rattle.std.proofs.Common.{refl}
use Rattle.base64.specs.Engines.{url_safe}
use Rattle.base64.specs.GeneralPurpose.{encode_of}
use Rattle.strkw_coding.specs.declared.codec.Codec.TheVariants.{Base64Url}
use Rattle.strkw_coding.proofs.Decoding.{reads_by}
use Rattle.strkw_coding.proofs.Encoders.{code-base64url}
use Rattle.strkw_coding.proofs.radix64.bytes_of_base64url.Goals as goal

pub returns : goal.returns
returns c = reads_by (λ v. v.items) Base64Url (encode_of url_safe) c.args.text.now refl code-base64url _ c.decode.ensures
