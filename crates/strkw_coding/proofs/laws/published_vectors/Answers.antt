use Rattle.std.proofs.Common.{refl}
use Rattle.strkw_coding.specs.Rfc4648.{bits, number, letters}
use Rattle.strkw_coding.proofs.laws.published_vectors.Goals as goal

pub returns : goal.returns
unfolding bits number letters
returns c = record { base64 = refl; base32 = refl; base32hex = refl; base16 = refl; illustrations = refl }
