use Rattle.std.specs.Prelude.{ℕ, List, Bool, map, string_bytes}
use Rattle.std.specs.declared.dyn_box.DynBox.{DynBox}
use Rattle.std.specs.declared.alloc.Global.{Global}
use Rattle.strkw_keywords.specs.Meanings.{Decoded, Lists}
use Rattle.strkw_keywords.specs.declared.checks.Checks.{Checks}

-- what the lists of a caller mean, by the meanings of the boxes that they hold
abbrev pub lists_of : {X : Type 0} {F : X → Type 0} {Y : Type 0} {M : Y
    → Type 0} {Z : Type 0} {C : Z → Type 0}
    → (DynBox X Global F → List ℕ → Bool) → (DynBox Y Global M → List ℕ → Bool)
    → (DynBox Z Global C → List ℕ → Bool) → (DynBox Z Global C → List ℕ → Decoded)
    → Checks X Y Z F M C → Lists
lists_of admits accepts is_encoding decoding checks = record {
  formats = map (λ f. record { name = string_bytes f.name; admits = admits f.check })
      checks.formats.now;
  media_types = map (λ m. record { name = string_bytes m.name; admits = accepts m.check })
      checks.media_types.now;
  codecs = map (λ c. record {
    name = string_bytes c.name;
    is_encoded = is_encoding c.codec;
    decode = decoding c.codec;
  }) checks.codecs.now;
}
