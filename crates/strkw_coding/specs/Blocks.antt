-- What the private contracts of the code for base32 and base32hex speak of: blocks of eight
-- characters, which stand for one to five bytes. None of it stands in a public contract.
use Rattle.std.specs.Prelude.{◌≡◌, ◌↔◌, ℕ, zero, suc, ◌+◌, ◌*◌, ◌/◌, ◌%◌, ◌<◌, ◌≤◌, Bool, true}
use Rattle.std.specs.Prelude.{if◌then◌else◌, List, [], ◌∷◌, ◌++◌, length, drop, slice_index, ◌&&◌}
use Rattle.std.specs.Prelude.{◌==◌, nat_lt, unwrap_or, position, not, take}
use Rattle.std.specs.Str.{byte}
use Rattle.strkw_coding.specs.Rfc4648.{code_by, AreBytes}

-- a test of each number below n
abbrev pub passes_below : (ℕ → Bool) → ℕ → Bool
passes_below p zero = true
passes_below p (suc n) = p n && passes_below p n

-- the place of a letter, or 0 for a character that is none
unfoldable pub value_of : List ℕ → ℕ → ℕ
value_of abc character = unwrap_or (position (λ x. x == character) abc) 0

-- the letter at place d is at no other place, and is not "="
abbrev pub is_letter_at : List ℕ → ℕ → Bool
is_letter_at abc d =
    unwrap_or (position (λ x. x == slice_index abc d) abc) 0 == d
    && not (slice_index abc d == byte "=")

-- there are 32 letters, no two are the same, and none is "="
unfoldable pub is_alphabet : List ℕ → Bool
is_alphabet abc = passes_below (is_letter_at abc) 32
    && unwrap_or (position (λ x. x == byte "=") abc) 0 == 0

-- the character is a letter
abbrev pub is_letter : List ℕ → ℕ → Bool
is_letter abc c = nat_lt (value_of abc c) 32 && slice_index abc (value_of abc c) == c

-- the table has the place of each letter, and for another character 32 or a multiple of it
unfoldable pub is_table : List ℕ → List ℕ → Bool
is_table abc places = passes_below (λ c. slice_index places c % 32 == value_of abc c
    && (if nat_lt (slice_index places c) 32 then is_letter abc c else not (is_letter abc c))) 256

-- the text that encodes some bytes, five bits a letter and eight letters a block
unfoldable pub code32 : List ℕ → List ℕ → List ℕ
code32 abc bytes = code_by abc 5 8 bytes

-- the text is what an encoder writes of some bytes
abbrev pub IsCodeOf : (List ℕ → List ℕ) → List ℕ → Type 0
IsCodeOf encoded text = (bytes : List ℕ) × AreBytes bytes × (text ≡ encoded bytes)

-- and the encoder is that of five bits a letter
abbrev pub IsCode32 : List ℕ → List ℕ → Type 0
IsCode32 abc text = IsCodeOf (code32 abc) text

-- how many bytes a block of eight characters stands for, by where its padding begins
abbrev pub group_len : List ℕ → ℕ
group_len block =
    if slice_index block 2 == byte "=" then 1
    else if slice_index block 4 == byte "=" then 2
    else if slice_index block 5 == byte "=" then 3
    else if slice_index block 7 == byte "=" then 4
    else 5

-- the five bytes of eight values
abbrev pub group_bytes : ℕ → ℕ → ℕ → ℕ → ℕ → ℕ → ℕ → ℕ → List ℕ
group_bytes v0 v1 v2 v3 v4 v5 v6 v7 =
    (v0 * 8 + v1 / 4) ∷ (v1 % 4 * 64 + v2 * 2 + v3 / 16) ∷ (v3 % 16 * 16 + v4 / 2)
    ∷ (v4 % 2 * 128 + v5 * 4 + v6 / 8) ∷ (v6 % 8 * 32 + v7) ∷ []

-- those of the characters of a block, each read as a letter
abbrev pub block_bytes : List ℕ → List ℕ → List ℕ
block_bytes abc block =
    group_bytes (value_of abc (slice_index block 0)) (value_of abc (slice_index block 1))
    (value_of abc (slice_index block 2)) (value_of abc (slice_index block 3))
    (value_of abc (slice_index block 4)) (value_of abc (slice_index block 5))
    (value_of abc (slice_index block 6)) (value_of abc (slice_index block 7))

-- the block is the code of the first len of five bytes
pub record IsBlockOf (abc block bytes : List ℕ) (len : ℕ) : Type 0 where
  pub some : 0 < len
  pub few : len ≤ 5
  pub five : length bytes ≡ 5
  pub are_bytes : AreBytes bytes
  pub is_code : block ≡ code32 abc (take len bytes)

-- the text begins with the code of the first len of five bytes, and nothing follows fewer than five
pub record BeginsWithBlock (abc text bytes : List ℕ) (len : ℕ) (after : List ℕ) : Type 0 where
  pub some : 0 < length text
  pub few : len ≤ 5
  pub five : length bytes ≡ 5
  pub are_bytes : AreBytes bytes
  pub is_code : text ≡ code32 abc (take len bytes) ++ after
  pub is_after : after ≡ drop 8 text
  pub last : len < 5 → after ≡ []

-- the bytes are what the text encodes up to the rest
pub record IsDecodedTo (abc text bytes rest : List ℕ) : Type 0 where
  pub split : text ≡ code32 abc bytes ++ rest
  pub whole : 0 < length rest → length bytes % 5 ≡ 0
  pub are_bytes : AreBytes bytes
  pub same : IsCode32 abc text ↔ IsCode32 abc rest
