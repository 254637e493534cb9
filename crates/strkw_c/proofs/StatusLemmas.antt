-- Answers by a number.
use Rattle.std.proofs.Common.{◌≡◌, ◌↔◌, ℕ, Bool, true, false, Result, Ok, Err, IsTrue, refl, arith, if◌then◌else◌}
use Rattle.std.specs.Prelude.{IfOk, MatchResult}
use Rattle.std.proofs.lemmas.Bool.{false≢true}
use Rattle.strkw_c.specs.Statuses.{Tells}
use Rattle.strkw_c.specs.declared.encodings.TheConstants.{NO, OUT_OF_MEMORY, YES}

-- the number of an answer that is true exactly where P holds tells of P
pub tells : {E : Type 0} (P : Type 0) (answer : Result Bool E) (status : ℕ) → IfOk answer (λ b. IsTrue b ↔ P)
    → MatchResult answer (λ b. status ≡ (if b then YES else NO)) (λ _. status ≡ OUT_OF_MEMORY) → Tells P status
tells P (Ok true) status h e = let yes : status ≡ YES = e in (λ _. h.0 refl, λ n p. absurd (omega (arith, yes, n)), omega (arith, yes))
tells P (Ok false) status h e = let no : status ≡ NO = e in (λ y. absurd (omega (arith, no, y)), λ n p. false≢true (h.1 p), omega (arith, no))
tells P (Err x) status h e = let out : status ≡ OUT_OF_MEMORY = e in
    (λ y. absurd (omega (arith, out, y)), λ n p. absurd (omega (arith, out, n)), omega (arith, out))
