-- What is there together. No public clause speaks of it.
use Rattle.std.specs.Prelude.{◌≡◌, Option, Some, None}

-- both are there and belong together, or neither is there
abbrev pub AreBoth : {A B : Type 0} → (A → B → Type 0) → Option A → Option B → Type 0
AreBoth Belong None other = other ≡ None
AreBoth {A} {B} Belong (Some a) other = (b : B) × (other ≡ Some b) × Belong a b
