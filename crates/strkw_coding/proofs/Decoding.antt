-- What a decoder answers, from what the bytes are.
use Rattle.std.proofs.Common.{◌≡◌, List, ℕ, Option, Some, None, Result, Ok, Err, refl, sym, ◌∙◌}
use Rattle.std.specs.Prelude.{◌↔◌, IfOk, MatchOption}
use Rattle.std.specs.declared.alloc.AllocError.{AllocError}
use Rattle.strkw_coding.specs.Rfc4648.{IsEncoding, Reads, AreBytes, alphabet, code, folded_text}
use Rattle.strkw_coding.specs.Blocks.{IsCodeOf, code32}
use Rattle.strkw_coding.specs.declared.codec.Codec.TheVariants.{Base32, Base32Hex}
use Rattle.strkw_coding.specs.declared.codec.Codec.{Codec}

-- no text both decodes and does not
pub refused : {E : Type 0} (r : Result (List ℕ) E) (b : List ℕ) (e : E) → r ≡ Ok b → r ≡ Err e → ⊥
refused r b e ok err = cc (ok, err)

-- an encoder that writes the code
abbrev pub WritesCode : Codec → (List ℕ → List ℕ) → Type 0
WritesCode c encoded = (b : List ℕ) → AreBytes b → encoded b ≡ code c b

-- what it wrote is an encoding
-- a text is an encoding exactly where it is what such an encoder writes of some bytes
pub encoding_by : (c : Codec) (encoded : List ℕ → List ℕ) (text : List ℕ) → folded_text c text ≡ text → WritesCode c encoded
    → IsEncoding c text ↔ IsCodeOf encoded text
encoding_by c encoded text same is = (
  λ (b, e). (b, e.are_bytes, sym same ∙ e.is_code ∙ sym (is b e.are_bytes)),
  λ (b, bytes, e). (b, record { are_bytes = bytes; is_code = same ∙ e ∙ is b bytes }),
)

-- and what its decoder reads, the text encodes
pub reads_by : {V : Type 0} (items : V → List ℕ) (c : Codec) (encoded : List ℕ → List ℕ) (text : List ℕ) → folded_text c text ≡ text → WritesCode c encoded
    → (r : Result (Option V) AllocError)
    → IfOk r (λ o. MatchOption o (IsCodeOf encoded text → ⊥) (λ v. AreBytes (items v) × (text ≡ encoded (items v))))
    → IfOk r (Reads items c text)
reads_by items c encoded text same is (Ok None) h = λ e. h ((encoding_by c encoded text same is).0 e)
reads_by items c encoded text same is (Ok (Some v)) h = record { are_bytes = h.0; is_code = same ∙ h.1 ∙ is (items v) h.0 }
reads_by items c encoded text same is (Err e) h = tt

-- the encoder of five bits a letter, by the letters of base32 and of base32hex
-- by those of base32 it writes the code of base32
pub writes_base32 : WritesCode Base32 (code32 (alphabet Base32))
unfolding code32
writes_base32 b h = refl

-- and by those of base32hex that of base32hex
pub writes_base32hex : WritesCode Base32Hex (code32 (alphabet Base32Hex))
unfolding code32
writes_base32hex b h = refl
