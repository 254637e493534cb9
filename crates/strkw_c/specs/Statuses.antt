-- Answers by a number.
use Rattle.std.specs.Prelude.{◌≡◌, ◌≤◌, ℕ, List}
use Rattle.std.specs.Str.{IsUtf8}
use Rattle.strkw_coding.specs.declared.codec.Codec.{Codec}
use Rattle.strkw_coding.specs.Rfc4648.{IsEncoding}
use Rattle.strkw_c.specs.declared.encodings.TheConstants.{NO, OUT_OF_MEMORY, YES}

-- 1, yes, only where it is so, 0, no, only where it is not, and else 2: out of memory
abbrev pub Tells : Type 0 → ℕ → Type 0
Tells So status = (status ≡ YES → So) × (status ≡ NO → So → ⊥) × (status ≤ OUT_OF_MEMORY)

-- whether bytes are an encoding (RFC 4648): bytes that are not UTF-8 are none
abbrev pub TellsEncoding : Codec → List ℕ → ℕ → Type 0
TellsEncoding codec bytes = Tells (IsUtf8 bytes × IsEncoding codec bytes)
