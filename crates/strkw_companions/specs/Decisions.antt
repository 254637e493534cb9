-- Propositions that are decided: one holds, or it does not. And the test that such a decision is.
use Rattle.std.proofs.Common.{◌≡◌, ◌≤◌, ◌<◌, ◌⊎◌, ◌↔◌, ◌≢◌, ℕ, zero, suc, Bool, true, false}
use Rattle.std.proofs.Common.{List, [], ◌∷◌, length, refl, sym, ap, ◌∙◌, subst, inl, inr, arith}
use Rattle.std.specs.Prelude.{IsTrue}
use Rattle.std.specs.Str.{bytes_eq}
use Rattle.std.proofs.lemmas.Bool.{cases_Bool, false≢true, cases_eq}
use Rattle.std.proofs.lemmas.Slice.Eq.{bytes_eq-Decides}

-- P holds, or it does not
abbrev pub Decision : Type 0 → Type 0
Decision P = P ⊎ (P → ⊥)

-- whether it holds
abbrev pub holds : {P : Type 0} → Decision P → Bool
holds (inl p) = true
holds (inr not_p) = false

-- the test is true exactly where it holds
pub holds_exactly : {P : Type 0} (d : Decision P) → IsTrue (holds d) ↔ P
holds_exactly (inl p) = (λ _. p, λ _. refl)
holds_exactly (inr not_p) = (λ e. absurd (false≢true e), λ p. absurd (not_p p))

-- and a test that is true exactly where it holds is this one
pub same_test : {P : Type 0} (d : Decision P) (b : Bool) → IsTrue b ↔ P → b ≡ holds d
same_test d true exact = sym ((holds_exactly d).1 (exact.0 refl))
same_test (inl p) false exact = exact.1 p
same_test (inr not_p) false exact = refl

-- ---- decisions of what is made of propositions

-- of what another one is
pub by_other : {P Q : Type 0} → P ↔ Q → Decision P → Decision Q
by_other same (inl p) = inl (same.0 p)
by_other same (inr not_p) = inr (λ q. not_p (same.1 q))

pub decide_both : {P Q : Type 0} → Decision P → Decision Q → Decision (P × Q)
decide_both (inl p) (inl q) = inl (p, q)
decide_both (inl p) (inr not_p) = inr (λ h. not_p h.1)
decide_both (inr not_p) d = inr (λ h. not_p h.0)

pub decide_either : {P Q : Type 0} → Decision P → Decision Q → Decision (P ⊎ Q)
decide_either (inl p) d = inl (inl p)
decide_either (inr not_p) (inl q) = inl (inr q)
decide_either (inr not_p) (inr not_q) = inr (elim [ inl p ↦ not_p p | inr q ↦ not_q q ])

pub decide_negation : {P : Type 0} → Decision P → Decision (P → ⊥)
decide_negation (inl p) = inr (λ not_p. not_p p)
decide_negation (inr not_p) = inl not_p

pub decide_implication : {P Q : Type 0} → Decision P → Decision Q → Decision (P → Q)
decide_implication (inl p) (inl q) = inl (λ _. q)
decide_implication (inl p) (inr not_p) = inr (λ f. not_p (f p))
decide_implication (inr not_p) d = inl (λ p. absurd (not_p p))

-- ---- of equations and orders

pub is_so : (b : Bool) → Decision (IsTrue b)
is_so true = inl refl
is_so false = inr (λ e. false≢true e)

pub is_not_so : (b : Bool) → Decision (b ≡ false)
is_not_so true = inr (λ e. false≢true (sym e))
is_not_so false = inl refl

pub same_number : (a b : ℕ) → Decision (a ≡ b)
same_number a b = cases_eq a b

pub same_text : (a b : List ℕ) → Decision (a ≡ b)
same_text a b = by_other (bytes_eq-Decides a b) (is_so (bytes_eq a b))

pub at_most : (a b : ℕ) → Decision (a ≤ b)
at_most zero b = inl (omega arith)
at_most (suc a) zero = inr (λ h. omega (arith, h))
at_most (suc a) (suc b) =
    by_other ((λ h. omega (arith, h)), (λ h. omega (arith, h))) (at_most a b)

-- ---- of numbers below another

-- some number below has it
pub some_below : (P : ℕ → Type 0) → ((k : ℕ) → Decision (P k)) → (n : ℕ)
    → Decision ((k : ℕ) × (k < n) × P k)
some_below P each zero = inr (λ h. let low = h.1 in omega (arith, low))
some_below P each (suc n) = elim (some_below P each n) [
  | inl h ↦ inl (h.0, omega (arith, h.1), h.2)
  | inr none ↦ elim (each n) [
    | inl p ↦ inl (n, omega arith, p)
    | inr not_p ↦ inr (λ h. elim (cases_eq h.0 n) [
      | inl same ↦ not_p (subst P same h.2)
      | inr other ↦ none (h.0, (let low = h.1 in omega (arith, low, other)), h.2)
    ])
  ]
]

-- each number below has it
pub each_below : (P : ℕ → Type 0) → ((k : ℕ) → Decision (P k)) → (n : ℕ)
    → Decision ((k : ℕ) → k < n → P k)
each_below P each n = elim (some_below (λ k. P k → ⊥) (λ k. decide_negation (each k)) n) [
  | inl h ↦ inr (λ all. h.2 (all h.0 h.1))
  | inr none ↦ inl (λ k low. elim (each k) [
    | inl p ↦ p
    | inr not_p ↦ absurd (none (k, low, not_p))
  ])
]
