use Rattle.std.proofs.Common.{refl}
use Rattle.strkw_coding.specs.declared.codec.Codec.TheVariants.{Base64, Base64Url, Base32, Base32Hex, Base16}
use Rattle.strkw_coding.specs.Blocks.{code32}
use Rattle.strkw_coding.specs.Rfc4648.{alphabet, letters}
use Rattle.strkw_coding.specs.Groups.{EncodesByThrees, EncodesByFives, EncodesByOnes}
use Rattle.strkw_coding.proofs.ByGroups.{threes-1, threes-2, threes-group, fives-1, fives-2, fives-3, fives-4, fives-group, ones-group}
use Rattle.strkw_coding.proofs.laws.encoded_by_groups.Goals as goal

-- base64 encodes three bytes at a time
base64 : EncodesByThrees Base64
unfolding letters
base64 = record { none = refl; one = threes-1 (alphabet Base64); two = threes-2 (alphabet Base64); group = threes-group (alphabet Base64) }

-- and so does base64url
base64url : EncodesByThrees Base64Url
unfolding letters
base64url = record { none = refl; one = threes-1 (alphabet Base64Url); two = threes-2 (alphabet Base64Url); group = threes-group (alphabet Base64Url) }

-- base32 encodes five bytes at a time
base32 : EncodesByFives Base32
unfolding letters code32
base32 = record {
  none = refl;
  one = fives-1 (alphabet Base32);
  two = fives-2 (alphabet Base32);
  three = fives-3 (alphabet Base32);
  four = fives-4 (alphabet Base32);
  group = fives-group (alphabet Base32);
}

-- and so does base32hex
base32hex : EncodesByFives Base32Hex
unfolding letters code32
base32hex = record {
  none = refl;
  one = fives-1 (alphabet Base32Hex);
  two = fives-2 (alphabet Base32Hex);
  three = fives-3 (alphabet Base32Hex);
  four = fives-4 (alphabet Base32Hex);
  group = fives-group (alphabet Base32Hex);
}

-- base16 encodes one byte at a time
base16 : EncodesByOnes Base16
unfolding letters
base16 = record { none = refl; group = ones-group (alphabet Base16) }

pub returns : goal.returns
returns c = record { base64 = base64; base64url = base64url; base32 = base32; base32hex = base32hex; base16 = base16 }
