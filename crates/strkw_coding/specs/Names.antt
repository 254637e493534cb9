-- The names of the encodings and of the media type. They are compared exactly, letter case
-- included.
use Rattle.std.specs.Prelude.{ℕ, List, codes}
use Rattle.strkw_coding.specs.declared.codec.Codec.{Codec}
use Rattle.strkw_coding.specs.declared.codec.Codec.TheVariants.{Base64, Base64Url, Base32}
use Rattle.strkw_coding.specs.declared.codec.Codec.TheVariants.{Base32Hex, Base16}
use Rattle.strkw_coding.specs.declared.media_type.BuiltinMediaType.{BuiltinMediaType}
use Rattle.strkw_coding.specs.declared.media_type.BuiltinMediaType.TheVariants.{Json}

-- RFC 4648's own names (sections 4 to 8), in lower case, as JSON Schema has them
abbrev pub codec_name : Codec → List ℕ
codec_name Base64 = codes "base64"
codec_name Base64Url = codes "base64url"
codec_name Base32 = codes "base32"
codec_name Base32Hex = codes "base32hex"
codec_name Base16 = codes "base16"

-- RFC 8259, section 11
abbrev pub media_type_name : BuiltinMediaType → List ℕ
media_type_name Json = codes "application/json"
