-- A text encodes one list of bytes at most.
use Rattle.std.proofs.Common.{◌≡◌, ℕ, List, [], length, Ok, Result, refl, sym, ap, ◌∙◌, arith}
use Rattle.std.specs.Result.{result_unwrap_or}
use Rattle.base64.specs.Engines.{standard, url_safe}
use Rattle.base64.specs.GeneralPurpose.{decode_of}
use Rattle.base64.proofs.EngineFacts.{decode_of-encode_of}
use Rattle.hex.specs.Hex as hex
use Rattle.strkw_coding.specs.Rfc4648.{AreBytes, Encodes, alphabet, code}
use Rattle.strkw_coding.specs.Blocks.{code32, is_alphabet}
use Rattle.strkw_coding.specs.Laws.{EncodesOnce}
use Rattle.strkw_coding.specs.declared.codec.Codec.TheVariants.{Base64, Base64Url, Base32, Base32Hex, Base16}
use Rattle.strkw_coding.proofs.Encoders.{code-base64, code-base64url, code-base16}
use Rattle.strkw_coding.proofs.Base16.{decode_of-encoding}
use Rattle.strkw_coding.proofs.Once32.{code32-once}

-- an answer is `Ok` with one value at most
same_ok : {E : Type 0} (r : Result (List ℕ) E) (a b : List ℕ) → r ≡ Ok a → r ≡ Ok b → a ≡ b
same_ok {E = E} r a b ea eb = ap (λ (s : Result (List ℕ) E). result_unwrap_or s []) (sym ea ∙ eb)

-- no two lists of bytes have the same code in base64
once-base64 : (a b : List ℕ) → AreBytes a → AreBytes b → code Base64 a ≡ code Base64 b → a ≡ b
once-base64 a b ha hb e =
    same_ok (decode_of standard (code Base64 a)) a b
    (ap (decode_of standard) (sym (code-base64 a ha)) ∙ decode_of-encode_of standard a refl ha)
    (ap (decode_of standard) (e ∙ sym (code-base64 b hb)) ∙ decode_of-encode_of standard b refl hb)

-- nor have two in base64url
once-base64url : (a b : List ℕ) → AreBytes a → AreBytes b → code Base64Url a ≡ code Base64Url b → a ≡ b
once-base64url a b ha hb e =
    same_ok (decode_of url_safe (code Base64Url a)) a b
    (ap (decode_of url_safe) (sym (code-base64url a ha)) ∙ decode_of-encode_of url_safe a refl ha)
    (ap (decode_of url_safe) (e ∙ sym (code-base64url b hb)) ∙ decode_of-encode_of url_safe b refl hb)

-- by base16 a text encodes one list of bytes at most
once-base16 : (text a b : List ℕ) → Encodes Base16 text a → Encodes Base16 text b → a ≡ b
once-base16 text a b ea eb =
    same_ok (hex.decode_of text) a b
    (decode_of-encoding text a ea.are_bytes (ea.is_code ∙ sym (code-base16 a ea.are_bytes)))
    (decode_of-encoding text b eb.are_bytes (eb.is_code ∙ sym (code-base16 b eb.are_bytes)))

-- no two lists of bytes have the same code in base32
once-base32 : (a b : List ℕ) → AreBytes a → AreBytes b → code Base32 a ≡ code Base32 b → a ≡ b
unfolding code32 is_alphabet
once-base32 a b ha hb e = code32-once (alphabet Base32) (length a) a b refl (omega arith) ha hb e

-- nor have two in base32hex
once-base32hex : (a b : List ℕ) → AreBytes a → AreBytes b → code Base32Hex a ≡ code Base32Hex b → a ≡ b
unfolding code32 is_alphabet
once-base32hex a b ha hb e = code32-once (alphabet Base32Hex) (length a) a b refl (omega arith) ha hb e

-- each of the five
-- by each, a text encodes one list of bytes at most
pub once : EncodesOnce
once Base64 text a b ea eb = once-base64 a b ea.are_bytes eb.are_bytes (sym ea.is_code ∙ eb.is_code)
once Base64Url text a b ea eb = once-base64url a b ea.are_bytes eb.are_bytes (sym ea.is_code ∙ eb.is_code)
once Base32 text a b ea eb = once-base32 a b ea.are_bytes eb.are_bytes (sym ea.is_code ∙ eb.is_code)
once Base32Hex text a b ea eb = once-base32hex a b ea.are_bytes eb.are_bytes (sym ea.is_code ∙ eb.is_code)
once Base16 text a b ea eb = once-base16 text a b ea eb
