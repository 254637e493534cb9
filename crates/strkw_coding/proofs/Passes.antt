-- A test of each number below another.
use Rattle.std.proofs.Common.{◌≡◌, ℕ, zero, suc, ◌<◌, Bool, true, inl, inr, arith}
use Rattle.std.proofs.lemmas.Bool.{and_parts, cases_lt}
use Rattle.strkw_coding.specs.Blocks.{passes_below}

-- what passes below n passes at each number below it
pub passes_below-at : (p : ℕ → Bool) (n k : ℕ) → passes_below p n ≡ true → k < n → p k ≡ true
passes_below-at p zero k h lt = absurd (omega arith)
passes_below-at p (suc n) k h lt =
    let parts = and_parts (p n) (passes_below p n) h in
    elim (cases_lt k n) [
      | inl below ↦ passes_below-at p n k parts.1 below
      | inr top ↦
          let e : k ≡ n = omega arith in
          rw e parts.0
    ]
