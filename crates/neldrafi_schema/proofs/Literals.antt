-- The floats that the code writes, as the definitions have them.
use Rattle.std.proofs.Common.{◌≡◌, refl}
use Rattle.std.specs.Float.{float_zero, two_to, minus_two_to}
use lib.Ieee.{binary64, neg, of_bits}

pub zero_is : of_bits binary64 0 ≡ float_zero
unfolding of_bits
zero_is = refl

pub high_is : of_bits binary64 0x43f0_0000_0000_0000 ≡ two_to 64
unfolding of_bits
high_is = refl

pub low_is : neg (of_bits binary64 0x43e0_0000_0000_0000) ≡ minus_two_to 63
unfolding of_bits neg
low_is = refl
