-- What a decoder answers, memory aside, is settled by what the text encodes.
use Rattle.std.proofs.Common.{◌≡◌, ◌↔◌, ℕ, Bool, true, false, List, Some, None, Ok, Err, refl}
use Rattle.std.proofs.lemmas.Bool.{false≢true}
use Rattle.std.specs.Prelude.{IsTrue, String}
use Rattle.std.specs.Str.{IsUtf8}
use Rattle.std.specs.String.{string_bytes}
use Rattle.std.specs.declared.alloc.Global.{Global}
use Rattle.strkw_coding.specs.declared.codec.Codec.{Codec}
use Rattle.strkw_coding.specs.declared.codec.DecodeError.TheVariants.{NotUtf8, Memory}
use Rattle.strkw_coding.specs.Rfc4648.{Encodes, IsEncoding, EncodesNoText}
use Rattle.strkw_coding.specs.Laws.{DecoderAnswer, DecodesExactly, IsDecoded, NoneWhereFalse}
use Rattle.strkw_coding.proofs.EncodesOnce.{once}

-- the answer is none exactly where the text is no encoding
none_exactly : (c : Codec) (text : List ℕ) (answer : DecoderAnswer) → IsDecoded c text answer → (answer ≡ Ok None) ↔ (IsEncoding c text → ⊥)
none_exactly c text (Ok None) is = (λ _. is.text_clause, λ _. refl)
none_exactly c text (Ok (Some s)) is = (λ e. cc e, λ none. absurd (none (string_bytes s, is.text_clause)))
none_exactly c text (Err NotUtf8) is = (λ e. cc e, λ none. absurd (let other = is.not_utf8_clause refl in none (other.0, other.1)))
none_exactly c text (Err Memory) is = absurd (is.not_out_of_memory refl)

-- bytes that are no UTF-8 are not those of a text
two_ways : (c : Codec) (text b : List ℕ) → Encodes c text b → IsUtf8 b → EncodesNoText c text → ⊥
two_ways c text b encodes utf8 (other, is, not_utf8) = not_utf8 (rw (once c text other b is encodes) utf8)

-- it is `NotUtf8` exactly where the text encodes bytes that are no UTF-8
other_exactly : (c : Codec) (text : List ℕ) (answer : DecoderAnswer) → IsDecoded c text answer → (answer ≡ Err NotUtf8) ↔ EncodesNoText c text
other_exactly c text (Ok None) is = (λ e. cc e, λ other. absurd (is.text_clause (other.0, other.1)))
other_exactly c text (Ok (Some s)) is = (λ e. cc e, λ other. absurd (two_ways c text (string_bytes s) is.text_clause (is.is_utf8 s refl) other))
other_exactly c text (Err NotUtf8) is = (λ _. is.not_utf8_clause refl, λ _. refl)
other_exactly c text (Err Memory) is = absurd (is.not_out_of_memory refl)

-- and it is a text of these UTF-8 bytes exactly where they are what is encoded
text_exactly : (c : Codec) (text : List ℕ) (answer : DecoderAnswer) → IsDecoded c text answer
    → (b : List ℕ) → IsUtf8 b → ((s : String Global) × (answer ≡ Ok (Some s)) × (string_bytes s ≡ b)) ↔ Encodes c text b
text_exactly c text (Ok None) is b utf8 = (λ (s, e, _). cc e, λ encodes. absurd (is.text_clause (b, encodes)))
text_exactly c text (Ok (Some s)) is b utf8 = (
  λ (t, e, spells).
      let same : s ≡ t = cc e in
      rw (← spells, ← same) is.text_clause,
  λ encodes. (s, refl, once c text (string_bytes s) b is.text_clause encodes),
)
text_exactly c text (Err NotUtf8) is b utf8 = (λ (s, e, _). cc e, λ encodes. absurd (two_ways c text b encodes utf8 (is.not_utf8_clause refl)))
text_exactly c text (Err Memory) is b utf8 = absurd (is.not_out_of_memory refl)

-- so the answer is exactly what the text asks for
pub exactly : DecodesExactly
exactly c text answer is = (none_exactly c text answer is, other_exactly c text answer is, text_exactly c text answer is)

-- where a check tells whether something holds, it does not hold exactly where the check is false
refuted : (check : Bool) (P : Type 0) → IsTrue check ↔ P → (P → ⊥) ↔ (check ≡ false)
refuted true P h = (λ none. absurd (none (h.0 refl)), λ e. cc e)
refuted false P h = (λ _. refl, λ _ p. false≢true (h.1 p))

-- so the answer is none exactly where the check of the text is false
pub none_where_false : NoneWhereFalse
none_where_false c text check answer checked is =
    let a = none_exactly c text answer is in
    let b = refuted check (IsEncoding c text) checked in
    (λ e. b.0 (a.0 e), λ e. a.1 (b.1 e))
