-- On codecs.
use Rattle.std.proofs.Common.{◌≡◌, ◌↔◌, ◌≤◌, ℕ, List, length, map, Bool, true, false, Option, Some, None, Result, Ok, Err, IfOk, refl, if◌then◌else◌}
use Rattle.std.specs.List.{slice_get}
use Rattle.std.specs.Str.{chars}
use Rattle.std.proofs.lemmas.Option.{slice_get-map, slice_get_past}
use Rattle.std.specs.Prelude.{String}
use Rattle.std.specs.declared.alloc.Global.{Global}
use Rattle.std.specs.Bool.{Decides}
use Rattle.std.proofs.lemmas.Str.{IsUtf8-string_bytes}
use Rattle.std.proofs.lemmas.Bool.Decides.{not_from_Decides}
use Rattle.std.proofs.lemmas.Slice.Eq.{bytes_eq-Decides}
use Rattle.strkw_coding.specs.declared.codec.Codec.{Codec}
use Rattle.strkw_coding.specs.declared.codec.Codec.TheVariants.{Base64, Base64Url, Base32, Base32Hex, Base16}
use Rattle.strkw_coding.specs.Names.{codec_name}
use Rattle.strkw_coding.specs.Rfc4648.{IsTextOf}
use Rattle.strkw_coding.specs.declared.codec.DecodeError.{DecodeError}
use Rattle.strkw_keywords.specs.Decodings.{decoded_of}
use Rattle.strkw_keywords.specs.Demands.{CodecDecodes, RowDecodes}
use Rattle.strkw_keywords.specs.Meanings.{CodecRow, Decoded, no_encoding}
use Rattle.strkw_keywords.specs.Object.{codec_named}

-- the codec of each name, and no codec of any other name
abbrev pub IsByName : Option Codec → List ℕ → Type 0
IsByName r name = (c : Codec) → (r ≡ Some c) ↔ (name ≡ codec_name c)

-- an answer that is none of the five codecs is that there is none
none_named : (r : Option Codec) → (r ≡ Some Base64 → ⊥) → (r ≡ Some Base64Url → ⊥) → (r ≡ Some Base32 → ⊥) → (r ≡ Some Base32Hex → ⊥) → (r ≡ Some Base16 → ⊥)
    → r ≡ None
none_named None a b c d e = refl
none_named (Some Base64) a b c d e = absurd (a refl)
none_named (Some Base64Url) a b c d e = absurd (b refl)
none_named (Some Base32) a b c d e = absurd (c refl)
none_named (Some Base32Hex) a b c d e = absurd (d refl)
none_named (Some Base16) a b c d e = absurd (e refl)

-- a codec exactly where P holds, and else another answer, is chosen by a test of P
named_or : (t : Bool) (c : Codec) (r other : Option Codec) (P : Type 0) → Decides t P → (r ≡ Some c) ↔ P → ((r ≡ Some c → ⊥) → r ≡ other)
    → r ≡ (if t then Some c else other)
named_or true c r other P d h k = h.1 (d.0 refl)
named_or false c r other P d h k = k (λ is. not_from_Decides false d refl (h.0 is))

-- an answer that is each codec exactly by its name is the one that `codec_named` gives
pub named_codec : (r : Option Codec) (name : List ℕ) → IsByName r name → r ≡ codec_named name
named_codec r name h =
    named_or _ Base64 r _ _ (bytes_eq-Decides name (codec_name Base64)) (h Base64) (λ a.
    named_or _ Base64Url r _ _ (bytes_eq-Decides name (codec_name Base64Url)) (h Base64Url) (λ b.
    named_or _ Base32 r _ _ (bytes_eq-Decides name (codec_name Base32)) (h Base32) (λ c.
    named_or _ Base32Hex r _ _ (bytes_eq-Decides name (codec_name Base32Hex)) (h Base32Hex) (λ d.
    named_or _ Base16 r _ _ (bytes_eq-Decides name (codec_name Base16)) (h Base16) (λ e.
    none_named r a b c d e)))))

-- what a built-in codec answers is what a text decodes to
pub decodes : (c : Codec) (text : List ℕ) (r : Result (Option (String Global)) DecodeError) → IfOk r (IsTextOf c text)
    → IfOk r (λ o. CodecDecodes c text (decoded_of o))
decodes c text (Ok None) h = h
decodes c text (Ok (Some s)) h = (h, IsUtf8-string_bytes s)
decodes c text (Err e) h = tt

-- what the caller's row at a position answers is what a text decodes to by it
pub row_decodes : {A : Type 0} (meaning : A → CodecRow) (rows : List A) (at : ℕ) (row : A) (text : List ℕ) (r : Result (Option (String Global)) DecodeError)
    → slice_get rows at ≡ Some row → IfOk r (λ o. decoded_of o ≡ (meaning row).decode (chars text))
    → IfOk r (λ o. RowDecodes (map meaning rows) at text (decoded_of o))
row_decodes meaning rows at row text (Ok o) there h = rw (slice_get-map meaning rows at, there) h
row_decodes meaning rows at row text (Err e) there h = tt

-- what it decodes to where it answers this, whatever the answer is
pub row_decodes_to : {A : Type 0} (meaning : A → CodecRow) (rows : List A) (at : ℕ) (row : A) (text : List ℕ) (d : Decoded) → slice_get rows at ≡ Some row
    → d ≡ (meaning row).decode (chars text) → RowDecodes (map meaning rows) at text d
row_decodes_to meaning rows at row text d there h = rw (slice_get-map meaning rows at, there) h

-- where there is no row, no text is an encoding
pub no_row_decodes : {A : Type 0} (meaning : A → CodecRow) (rows : List A) (at : ℕ) (text : List ℕ) → length rows ≤ at
    → RowDecodes (map meaning rows) at text no_encoding
no_row_decodes meaning rows at text past = rw (slice_get-map meaning rows at, slice_get_past rows at past) refl
