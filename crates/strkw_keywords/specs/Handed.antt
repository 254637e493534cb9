-- What a caller hands in, as crates above this one say it: there the meaning of a box is one of
-- what the box holds.
use Rattle.std.specs.Prelude.{ℕ, List, Bool}
use Rattle.strkw_pattern.specs.declared.engine.Outcome.{Outcome}
use Rattle.strkw_keywords.specs.declared.checks.Checks.{Checks}
use Rattle.strkw_keywords.specs.declared.options.Context.{Context}
use Rattle.strkw_keywords.specs.Meanings.{Decoded, Lists}
use Rattle.strkw_keywords.specs.Lists as lists
use Rattle.strkw_keywords.specs.Settings as settings
use Rattle.strkw_keywords.specs.Object.{Settings}

-- what the lists of a caller mean
abbrev pub lists_of : {X : Type 0} {F : X → Type 0} {Y : Type 0} {M : Y
    → Type 0} {Z : Type 0} {C : Z → Type 0}
    → ((x : X) × F x → List ℕ → Bool) → ((y : Y) × M y → List ℕ → Bool)
    → ((z : Z) × C z → List ℕ → Bool) → ((z : Z) × C z → List ℕ → Decoded) → Checks X Y Z F M C
    → Lists
lists_of admits accepts is_encoding decoding checks =
    lists.lists_of (λ b. admits (b.vtable, b.value)) (λ b. accepts (b.vtable, b.value))
    (λ b. is_encoding (b.vtable, b.value))
    (λ b. decoding (b.vtable, b.value)) checks

-- and what a context says, by those and the meanings of its builder
abbrev pub settings_of : {B X : Type 0} {F : X → Type 0} {Y : Type 0} {M : Y
    → Type 0} {Z : Type 0} {C : Z → Type 0}
    → (B → List ℕ → Bool) → (B → List ℕ → List ℕ → Outcome) → ((x : X) × F x → List ℕ → Bool)
    → ((y : Y) × M y → List ℕ → Bool)
    → ((z : Z) × C z → List ℕ → Bool) → ((z : Z) × C z → List ℕ → Decoded) → Context B X Y Z F M C
    → Settings
settings_of takes outcome admits accepts is_encoding decoding ctx =
    settings.settings_of takes outcome (λ b. admits (b.vtable, b.value))
    (λ b. accepts (b.vtable, b.value)) (λ b. is_encoding (b.vtable, b.value))
    (λ b. decoding (b.vtable, b.value)) ctx
