use Rattle.std.proofs.Common.{refl}
use Rattle.strkw_coding.proofs.laws.alphabets_as_published.Goals as goal

pub returns : goal.returns
returns c = record {
  base64 = record { letters = refl; as_many = refl; each_number = refl; group = refl };
  base64url = record { letters = refl; as_many = refl; each_number = refl; group = refl };
  base32 = record { letters = refl; as_many = refl; each_number = refl; group = refl };
  base32hex = record { letters = refl; as_many = refl; each_number = refl; group = refl };
  base16 = record { letters = refl; as_many = refl; each_number = refl; group = refl };
}
