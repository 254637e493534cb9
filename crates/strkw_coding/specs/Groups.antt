-- The encodings group by group, as sections 4, 6 and 8 of RFC 4648 tell them: so many bytes are one
-- number, whose letters are written from the highest down; the last group may be shorter, is filled
-- with zero bits to whole letters, and then with "=". `specs/Rfc4648.antt` says the same of all
-- bits at once; the law `encoded_by_groups` ties the two.
use Rattle.std.specs.Prelude.{◌≡◌, ℕ, zero, suc, ◌+◌, ◌*◌, ◌/◌, ◌%◌, ◌^◌, ◌<◌, List, [], ◌∷◌, ◌++◌}
use Rattle.std.specs.Prelude.{slice_index, codes}
use Rattle.strkw_coding.specs.declared.codec.Codec.{Codec}
use Rattle.strkw_coding.specs.declared.codec.Codec.TheVariants.{Base64, Base64Url, Base32}
use Rattle.strkw_coding.specs.declared.codec.Codec.TheVariants.{Base32Hex, Base16}
use Rattle.strkw_coding.specs.Rfc4648.{alphabet, code}

-- the last n letters, of w bits each, of a number
unfoldable pub number_letters : List ℕ → ℕ → ℕ → ℕ → List ℕ
number_letters abc w zero value = []
number_letters abc w (suc n) value =
    slice_index abc (value / 2 ^ (w * n) % 2 ^ w) ∷ number_letters abc w n value

-- section 4: groups of 24 bits, and what is left of 8 or 16
pub record EncodesByThrees (c : Codec) : Type 0 where
  pub none : code c [] ≡ []
  pub one : (x : ℕ) → x < 256 → code c (x ∷ []) ≡ number_letters (alphabet c) 6 2 (x * 2 ^ 4)
      ++ codes "=="
  pub two : (x y : ℕ) → x < 256 → y < 256
      → code c (x ∷ y ∷ []) ≡ number_letters (alphabet c) 6 3 ((x * 2 ^ 8 + y) * 2 ^ 2) ++ codes "="
  pub group : (x y z : ℕ) (rest : List ℕ) → x < 256 → y < 256 → z < 256
      → code c (x ∷ y ∷ z ∷ rest) ≡ number_letters (alphabet c) 6 4 (x * 2 ^ 16 + y * 2 ^ 8 + z)
      ++ code c rest

-- section 6: groups of 40 bits, and what is left of 8, 16, 24 or 32
pub record EncodesByFives (c : Codec) : Type 0 where
  pub none : code c [] ≡ []
  pub one : (v : ℕ) → v < 256 → code c (v ∷ []) ≡ number_letters (alphabet c) 5 2 (v * 2 ^ 2)
      ++ codes "======"
  pub two : (v w : ℕ) → v < 256 → w < 256
      → code c (v ∷ w ∷ []) ≡ number_letters (alphabet c) 5 4 ((v * 2 ^ 8 + w) * 2 ^ 4)
      ++ codes "===="
  pub three : (v w x : ℕ) → v < 256 → w < 256 → x < 256
      → code c (v ∷ w ∷ x ∷ []) ≡ number_letters (alphabet c) 5 5 ((v * 2 ^ 16 + w * 2 ^ 8 + x) * 2)
      ++ codes "==="
  pub four : (v w x y : ℕ) → v < 256 → w < 256 → x < 256 → y < 256
      → code c (v ∷ w ∷ x ∷ y ∷ []) ≡ number_letters (alphabet c) 5 7
      ((v * 2 ^ 24 + w * 2 ^ 16 + x * 2 ^ 8 + y) * 2 ^ 3) ++ codes "="
  pub group : (v w x y z : ℕ) (rest : List ℕ) → v < 256 → w < 256 → x < 256 → y < 256 → z < 256
      → code c (v ∷ w ∷ x ∷ y ∷ z ∷ rest)
      ≡ number_letters (alphabet c) 5 8 (v * 2 ^ 32 + w * 2 ^ 24 + x * 2 ^ 16 + y * 2 ^ 8 + z)
      ++ code c rest

-- section 8: a byte at a time
pub record EncodesByOnes (c : Codec) : Type 0 where
  pub none : code c [] ≡ []
  pub group : (z : ℕ) (rest : List ℕ) → z < 256
      → code c (z ∷ rest) ≡ number_letters (alphabet c) 4 2 z ++ code c rest

pub record EncodedByGroups : Type 0 where
  pub base64 : EncodesByThrees Base64
  pub base64url : EncodesByThrees Base64Url
  pub base32 : EncodesByFives Base32
  pub base32hex : EncodesByFives Base32Hex
  pub base16 : EncodesByOnes Base16
