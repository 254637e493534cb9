-- The last place before another, and the first from another on, whose character is not of the neutral kind: what a test
-- of that character's kind tells.
use Rattle.std.proofs.Common.{◌≡◌, ℕ, ◌+◌, ◌<◌, ◌↔◌, Bool, false, List, length, get_or, inl, inr, sym, ap, ◌∙◌, arith}
use Rattle.std.specs.Prelude.{IsTrue}
use Rattle.std.proofs.lemmas.Bool.{cases_lt, cases_eq, false≢true}

module _ {K : Type 0} (kind : ℕ → K) (neutral : K) (passes : K → Bool) (fails : passes neutral ≡ false) where
  -- before place k the last character that is not neutral passes
  abbrev pub LastPasses : List ℕ → ℕ → Type 0
  LastPasses text k = (at : ℕ) × (at < k) × IsTrue (passes (kind (get_or text at 0)))
      × ((m : ℕ) → at < m → m < k → kind (get_or text m 0) ≡ neutral)

  -- a neutral place does not pass
  no_pass : {P : Type 0} (text : List ℕ) (m : ℕ) → kind (get_or text m 0) ≡ neutral → IsTrue (passes (kind (get_or text m 0))) → P
  no_pass text m e t = absurd (false≢true (sym fails ∙ ap passes (sym e) ∙ t))

  -- a place with neutral ones alone between it and k settles that
  pub last_settled : (text : List ℕ) (k at : ℕ) (here : K) → at < k → here ≡ kind (get_or text at 0) → (here ≡ neutral → ⊥)
      → ((m : ℕ) → at < m → m < k → kind (get_or text m 0) ≡ neutral) → IsTrue (passes here) ↔ LastPasses text k
  last_settled text k at here lt is other rest = (
    λ t. (at, lt, sym (ap passes is) ∙ t, rest),
    λ p.
        elim (cases_lt p.0 at) [
          | inl less ↦ absurd (other (is ∙ p.3 at less lt))
          | inr more ↦
              elim (cases_eq p.0 at) [
                | inl same ↦ ap passes (is ∙ ap (λ m. kind (get_or text m 0)) (sym same)) ∙ p.2
                | inr apart ↦ no_pass text p.0 (rest p.0 (omega arith) p.1) p.2
              ]
        ],
  )

  -- and none passes where all are neutral
  pub last_none : (text : List ℕ) (k : ℕ) → ((m : ℕ) → m < k → kind (get_or text m 0) ≡ neutral) → LastPasses text k → ⊥
  last_none text k all p = no_pass text p.0 (all p.0 p.1) p.2

  -- from place k on the first character that is not neutral passes
  abbrev pub FirstPasses : List ℕ → ℕ → Type 0
  FirstPasses text k = (at : ℕ) × (k < at + 1) × (at < length text) × IsTrue (passes (kind (get_or text at 0)))
      × ((m : ℕ) → k < m + 1 → m < at → kind (get_or text m 0) ≡ neutral)

  -- a place with neutral ones alone between k and it settles that
  pub first_settled : (text : List ℕ) (k at : ℕ) (here : K) → k < at + 1 → at < length text → here ≡ kind (get_or text at 0) → (here ≡ neutral → ⊥)
      → ((m : ℕ) → k < m + 1 → m < at → kind (get_or text m 0) ≡ neutral) → IsTrue (passes here) ↔ FirstPasses text k
  first_settled text k at here from lt is other rest = (
    λ t. (at, from, lt, sym (ap passes is) ∙ t, rest),
    λ p.
        elim (cases_lt at p.0) [
          | inl less ↦ absurd (other (is ∙ p.4 at from less))
          | inr more ↦
              elim (cases_eq p.0 at) [
                | inl same ↦ ap passes (is ∙ ap (λ m. kind (get_or text m 0)) (sym same)) ∙ p.3
                | inr apart ↦ no_pass text p.0 (rest p.0 p.1 (omega arith)) p.3
              ]
        ],
  )

  -- and none passes where all are neutral
  pub first_none : (text : List ℕ) (k : ℕ) → ((m : ℕ) → k < m + 1 → m < length text → kind (get_or text m 0) ≡ neutral) → FirstPasses text k → ⊥
  first_none text k all p = no_pass text p.0 (all p.0 p.1 p.2) p.3
