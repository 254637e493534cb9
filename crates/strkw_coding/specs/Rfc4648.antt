-- The base encodings of RFC 4648: one definition, from three figures an encoding. Texts and data
-- are lists of bytes; an encoding is ASCII, so the bytes of a text that is one are its characters.
use Rattle.std.specs.Prelude.{◌≡◌, ℕ, zero, suc, ◌+◌, ◌-◌, ◌*◌, ◌/◌, ◌%◌, ◌^◌, ◌<◌, List, [], ◌∷◌}
use Rattle.std.specs.Prelude.{◌++◌, drop, length, replicate, slice_index, codes, String, Option}
use Rattle.std.specs.Prelude.{MatchOption}
use Rattle.std.specs.List.{flat_map}
use Rattle.std.specs.Str.{byte, str_to_ascii_uppercase, IsUtf8}
use Rattle.std.specs.String.{string_bytes}
use Rattle.std.specs.declared.alloc.Global.{Global}
use Rattle.strkw_coding.specs.declared.codec.Codec.{Codec}
use Rattle.strkw_coding.specs.declared.codec.Codec.TheVariants.{Base64, Base64Url, Base32}
use Rattle.strkw_coding.specs.declared.codec.Codec.TheVariants.{Base32Hex, Base16}

-- the letters of an encoding, in the order of their values: RFC 4648, tables 1 to 5 (sections 4 to
-- 8)
abbrev pub alphabet : Codec → List ℕ
alphabet Base64 = codes "ABCDEFGHIJKLMNOPQRSTUVWXYZabcdefghijklmnopqrstuvwxyz0123456789+/"
alphabet Base64Url = codes "ABCDEFGHIJKLMNOPQRSTUVWXYZabcdefghijklmnopqrstuvwxyz0123456789-_"
alphabet Base32 = codes "ABCDEFGHIJKLMNOPQRSTUVWXYZ234567"
alphabet Base32Hex = codes "0123456789ABCDEFGHIJKLMNOPQRSTUV"
alphabet Base16 = codes "0123456789ABCDEF"

-- how many bits a letter stands for: 64, 32 or 16 letters
abbrev pub letter_bits : Codec → ℕ
letter_bits Base64 = 6
letter_bits Base64Url = 6
letter_bits Base32 = 5
letter_bits Base32Hex = 5
letter_bits Base16 = 4

-- how many letters make a block, which is filled with "=": the fewest that end where a byte does
abbrev pub block_letters : Codec → ℕ
block_letters Base64 = 4
block_letters Base64Url = 4
block_letters Base32 = 8
block_letters Base32Hex = 8
block_letters Base16 = 2

-- the n low bits of a number, the highest of them first
unfoldable pub bits : ℕ → ℕ → List ℕ
bits zero v = []
bits (suc n) v = v / 2 ^ n % 2 ∷ bits n v

-- the bits of some bytes, first bit first
abbrev pub bits_of : List ℕ → List ℕ
bits_of bytes = flat_map (bits 8) bytes

-- the number that the first n of some bits stand for, a missing bit being a zero
unfoldable pub number : ℕ → List ℕ → ℕ
number zero bs = 0
number (suc n) [] = 0
number (suc n) (b ∷ bs) = b * 2 ^ n + number n bs

-- n letters of w bits each
unfoldable pub letters : List ℕ → ℕ → ℕ → List ℕ → List ℕ
letters abc w zero bs = []
letters abc w (suc n) bs = slice_index abc (number w bs) ∷ letters abc w n (drop w bs)

-- how many letters of w bits the bits of n bytes fill or begin
abbrev pub letter_count : ℕ → ℕ → ℕ
letter_count w n = (8 * n + (w - 1)) / w

-- how many padding characters follow n letters in blocks of k
abbrev pub padding_count : ℕ → ℕ → ℕ
padding_count k n = (k - n % k) % k

-- the text that encodes some bytes by the letters abc, w bits a letter and k letters a block: the
-- bits of the bytes, first bit first, filled with zeros to whole letters (sections 3.5, 4 and 6),
-- and "=" to a whole block (section 3.2); no line breaks (3.1) and no other characters (3.3)
abbrev pub code_by : List ℕ → ℕ → ℕ → List ℕ → List ℕ
code_by abc w k bytes =
    letters abc w (letter_count w (length bytes)) (bits_of bytes)
    ++ replicate (padding_count k (letter_count w (length bytes))) (byte "=")

-- the text that encodes some bytes
abbrev pub code : Codec → List ℕ → List ℕ
code c bytes = code_by (alphabet c) (letter_bits c) (block_letters c) bytes

-- every element is a byte
abbrev pub AreBytes : List ℕ → Type 0
AreBytes bytes = (i : ℕ) → slice_index bytes i < 256

-- a text as its encoding sees it: base16 takes letters of either case (section 8). For the others a
-- letter in the other case is a character outside the alphabet, which makes a text no encoding
-- (section 3.3)
abbrev pub folded_text : Codec → List ℕ → List ℕ
folded_text Base64 text = text
folded_text Base64Url text = text
folded_text Base32 text = text
folded_text Base32Hex text = text
folded_text Base16 text = str_to_ascii_uppercase text

-- the text encodes these bytes
pub record Encodes (c : Codec) (text bytes : List ℕ) : Type 0 where
  pub are_bytes : AreBytes bytes
  pub is_code : folded_text c text ≡ code c bytes

-- the text encodes some bytes
abbrev pub IsEncoding : Codec → List ℕ → Type 0
IsEncoding c text = (bytes : List ℕ) × Encodes c text bytes

-- the text encodes bytes that are no UTF-8
abbrev pub EncodesNoText : Codec → List ℕ → Type 0
EncodesNoText c text = (bytes : List ℕ) × Encodes c text bytes × (IsUtf8 bytes → ⊥)

-- what a decoder reads: a value that holds the bytes which the text encodes, or none where it is no
-- encoding
abbrev pub Reads : {V : Type 0} → (V → List ℕ) → Codec → List ℕ → Option V → Type 0
Reads bytes_of c text read = MatchOption read (IsEncoding c text → ⊥)
    (λ v. Encodes c text (bytes_of v))

-- the text whose UTF-8 bytes a text encodes
abbrev pub IsTextOf : Codec → List ℕ → Option (String Global) → Type 0
IsTextOf c text read = Reads string_bytes c text read
