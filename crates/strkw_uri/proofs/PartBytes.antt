-- The table of the classes of each byte.
use Rattle.std.proofs.Common.{◌≡◌, ℕ, ◌<◌, Bool, true, not, ◌==◌, List, [], ◌∷◌, get_or, bit_and, refl}
use Rattle.std.proofs.lemmas.Bool.{agree_below, agree_below_at}
use Rattle.strkw_uri.specs.Characters.{is_scheme_char}
use Rattle.strkw_uri.specs.Scan.{is_part_char, bit}
use Rattle.strkw_uri.specs.declared.part.Syntax.TheVariants.{Rfc3986}
use Rattle.strkw_uri.specs.declared.part.Part.{Part}
use Rattle.strkw_uri.specs.declared.part.Part.TheVariants.{RegNameChar, UserinfoChar, PathChar, SegmentNcChar, QueryChar, FragmentChar}

-- the code's table: of each byte the bits of its parts, and the bit of a scheme's characters
abbrev pub classes : List ℕ
classes =
    0 ∷ 0 ∷ 0 ∷ 0 ∷ 0 ∷ 0 ∷ 0 ∷ 0 ∷ 0 ∷ 0 ∷ 0 ∷ 0 ∷ 0 ∷ 0 ∷ 0 ∷ 0 ∷
    0 ∷ 0 ∷ 0 ∷ 0 ∷ 0 ∷ 0 ∷ 0 ∷ 0 ∷ 0 ∷ 0 ∷ 0 ∷ 0 ∷ 0 ∷ 0 ∷ 0 ∷ 0 ∷
    0 ∷ 31 ∷ 0 ∷ 0 ∷ 31 ∷ 0 ∷ 31 ∷ 31 ∷ 31 ∷ 31 ∷ 31 ∷ 63 ∷ 31 ∷ 63 ∷ 63 ∷ 20 ∷
    63 ∷ 63 ∷ 63 ∷ 63 ∷ 63 ∷ 63 ∷ 63 ∷ 63 ∷ 63 ∷ 63 ∷ 22 ∷ 31 ∷ 0 ∷ 31 ∷ 0 ∷ 16 ∷
    28 ∷ 63 ∷ 63 ∷ 63 ∷ 63 ∷ 63 ∷ 63 ∷ 63 ∷ 63 ∷ 63 ∷ 63 ∷ 63 ∷ 63 ∷ 63 ∷ 63 ∷ 63 ∷
    63 ∷ 63 ∷ 63 ∷ 63 ∷ 63 ∷ 63 ∷ 63 ∷ 63 ∷ 63 ∷ 63 ∷ 63 ∷ 0 ∷ 0 ∷ 0 ∷ 0 ∷ 31 ∷
    0 ∷ 63 ∷ 63 ∷ 63 ∷ 63 ∷ 63 ∷ 63 ∷ 63 ∷ 63 ∷ 63 ∷ 63 ∷ 63 ∷ 63 ∷ 63 ∷ 63 ∷ 63 ∷
    63 ∷ 63 ∷ 63 ∷ 63 ∷ 63 ∷ 63 ∷ 63 ∷ 63 ∷ 63 ∷ 63 ∷ 63 ∷ 0 ∷ 0 ∷ 0 ∷ 31 ∷ 0 ∷
    0 ∷ 0 ∷ 0 ∷ 0 ∷ 0 ∷ 0 ∷ 0 ∷ 0 ∷ 0 ∷ 0 ∷ 0 ∷ 0 ∷ 0 ∷ 0 ∷ 0 ∷ 0 ∷
    0 ∷ 0 ∷ 0 ∷ 0 ∷ 0 ∷ 0 ∷ 0 ∷ 0 ∷ 0 ∷ 0 ∷ 0 ∷ 0 ∷ 0 ∷ 0 ∷ 0 ∷ 0 ∷
    0 ∷ 0 ∷ 0 ∷ 0 ∷ 0 ∷ 0 ∷ 0 ∷ 0 ∷ 0 ∷ 0 ∷ 0 ∷ 0 ∷ 0 ∷ 0 ∷ 0 ∷ 0 ∷
    0 ∷ 0 ∷ 0 ∷ 0 ∷ 0 ∷ 0 ∷ 0 ∷ 0 ∷ 0 ∷ 0 ∷ 0 ∷ 0 ∷ 0 ∷ 0 ∷ 0 ∷ 0 ∷
    0 ∷ 0 ∷ 0 ∷ 0 ∷ 0 ∷ 0 ∷ 0 ∷ 0 ∷ 0 ∷ 0 ∷ 0 ∷ 0 ∷ 0 ∷ 0 ∷ 0 ∷ 0 ∷
    0 ∷ 0 ∷ 0 ∷ 0 ∷ 0 ∷ 0 ∷ 0 ∷ 0 ∷ 0 ∷ 0 ∷ 0 ∷ 0 ∷ 0 ∷ 0 ∷ 0 ∷ 0 ∷
    0 ∷ 0 ∷ 0 ∷ 0 ∷ 0 ∷ 0 ∷ 0 ∷ 0 ∷ 0 ∷ 0 ∷ 0 ∷ 0 ∷ 0 ∷ 0 ∷ 0 ∷ 0 ∷
    0 ∷ 0 ∷ 0 ∷ 0 ∷ 0 ∷ 0 ∷ 0 ∷ 0 ∷ 0 ∷ 0 ∷ 0 ∷ 0 ∷ 0 ∷ 0 ∷ 0 ∷ 0 ∷ []

-- the table has the bit of the part at the byte
abbrev has : Part → ℕ → Bool
has p c = not (bit_and (get_or classes c 0) (bit p) == 0)

-- on all bytes that is so exactly where the byte is of the part's class by RFC 3986
all : (p : Part) → agree_below (has p) (is_part_char Rfc3986 p) 256 ≡ true
all RegNameChar = refl
all UserinfoChar = refl
all PathChar = refl
all SegmentNcChar = refl
all QueryChar = refl
all FragmentChar = refl

-- the same of each single byte
pub part_byte : (p : Part) (c : ℕ) → c < 256 → has p c ≡ is_part_char Rfc3986 p c
part_byte p c l = agree_below_at (has p) (is_part_char Rfc3986 p) 256 c (all p) l

-- a byte has the bit 32 exactly where it is a further character of a scheme
pub scheme_byte : (c : ℕ) → c < 256 → not (bit_and (get_or classes c 0) 32 == 0) ≡ is_scheme_char c
scheme_byte c l = agree_below_at (λ d. not (bit_and (get_or classes d 0) 32 == 0)) is_scheme_char 256 c refl l
