-- Laws of the encodings.
use Rattle.std.specs.Prelude.{◌≡◌, ◌↔◌, ℕ, String, Bool, false, IsTrue, List, ◌∷◌, [], map, codes}
use Rattle.std.specs.Prelude.{Option, None, Some, Result, Ok, Err, IfOk, IsErrOf}
use Rattle.std.specs.Str.{IsUtf8}
use Rattle.std.specs.String.{string_bytes}
use Rattle.std.specs.declared.alloc.Global.{Global}
use Rattle.strkw_coding.specs.declared.codec.Codec.{Codec}
use Rattle.strkw_coding.specs.declared.codec.Codec.TheVariants.{Base64, Base32, Base32Hex, Base16}
use Rattle.strkw_coding.specs.declared.codec.DecodeError.{DecodeError}
use Rattle.strkw_coding.specs.declared.codec.DecodeError.TheVariants.{NotUtf8, Memory}
use Rattle.strkw_coding.specs.Rfc4648.{code, Encodes, IsEncoding, EncodesNoText, IsTextOf}

-- a text encodes one list of bytes at most
abbrev pub EncodesOnce : Type 0
EncodesOnce = (c : Codec) (text a b : List ℕ) → Encodes c text a → Encodes c text b → a ≡ b

abbrev pub DecoderAnswer : Type 0
DecoderAnswer = Result (Option (String Global)) DecodeError

-- what a decoder's two clauses say of its answer to a text, where memory did not run out
pub record IsDecoded (c : Codec) (text : List ℕ) (answer : DecoderAnswer) : Type 0 where
  pub text_clause : IfOk answer (IsTextOf c text)
  pub not_utf8_clause : IsErrOf answer NotUtf8 → EncodesNoText c text
  -- as of every text
  pub is_utf8 : (s : String Global) → answer ≡ Ok (Some s) → IsUtf8 (string_bytes s)
  pub not_out_of_memory : answer ≡ Err Memory → ⊥

-- such an answer is exactly what the text asks for
abbrev pub DecodesExactly : Type 0
DecodesExactly = (c : Codec) (text : List ℕ) (answer : DecoderAnswer) → IsDecoded c text answer
    → ((answer ≡ Ok None) ↔ (IsEncoding c text → ⊥))
    × ((answer ≡ Err NotUtf8) ↔ EncodesNoText c text)
    × ((b : List ℕ) → IsUtf8 b → ((s : String Global) × (answer ≡ Ok (Some s))
    × (string_bytes s ≡ b)) ↔ Encodes c text b)

-- the decoder answers None exactly where the check answers false
abbrev pub NoneWhereFalse : Type 0
NoneWhereFalse = (c : Codec) (text : List ℕ) (check : Bool) (answer : DecoderAnswer)
    → IsTrue check ↔ IsEncoding c text → IsDecoded c text answer
    → (answer ≡ Ok None) ↔ (check ≡ false)

-- "", "f", "fo", .., "foobar"
abbrev pub beginnings_of_foobar : List (List ℕ)
beginnings_of_foobar = codes "" ∷ codes "f" ∷ codes "fo" ∷ codes "foo" ∷ codes "foob" ∷ codes
    "fooba" ∷ codes "foobar" ∷ []

-- the input data of section 9: 0x14fb9c03d97e, 0x14fb9c03d9 and 0x14fb9c03
abbrev pub illustrated_bytes : List (List ℕ)
illustrated_bytes =
    (0x14 ∷ 0xFB ∷ 0x9C ∷ 0x03 ∷ 0xD9 ∷ 0x7E ∷ []) ∷ (0x14 ∷ 0xFB ∷ 0x9C ∷ 0x03 ∷ 0xD9 ∷ [])
    ∷ (0x14 ∷ 0xFB ∷ 0x9C ∷ 0x03 ∷ []) ∷ []

-- the test vectors of RFC 4648, section 10 (which has none of its own for base64url), and the
-- illustrations of section 9
pub record PublishedVectors : Type 0 where
  pub base64 : map (code Base64) beginnings_of_foobar
      ≡ codes "" ∷ codes "Zg==" ∷ codes "Zm8=" ∷ codes "Zm9v" ∷ codes "Zm9vYg==" ∷ codes "Zm9vYmE="
      ∷ codes "Zm9vYmFy" ∷ []
  pub base32 : map (code Base32) beginnings_of_foobar
      ≡ codes "" ∷ codes "MY======" ∷ codes "MZXQ====" ∷ codes "MZXW6===" ∷ codes "MZXW6YQ=" ∷ codes
      "MZXW6YTB" ∷ codes "MZXW6YTBOI======" ∷ []
  pub base32hex : map (code Base32Hex) beginnings_of_foobar
      ≡ codes "" ∷ codes "CO======" ∷ codes "CPNG====" ∷ codes "CPNMU===" ∷ codes "CPNMUOG=" ∷ codes
      "CPNMUOJ1" ∷ codes "CPNMUOJ1E8======" ∷ []
  pub base16 : map (code Base16) beginnings_of_foobar
      ≡ codes "" ∷ codes "66" ∷ codes "666F" ∷ codes "666F6F" ∷ codes "666F6F62" ∷ codes
      "666F6F6261" ∷ codes "666F6F626172" ∷ []
  pub illustrations : map (code Base64) illustrated_bytes
      ≡ codes "FPucA9l+" ∷ codes "FPucA9k=" ∷ codes "FPucAw==" ∷ []
