-- The label rules at one place, and what the places before it show.
use Rattle.std.proofs.Common.{◌≡◌, ℕ, ◌+◌, ◌<◌, ◌↔◌, Bool, true, false, ◌||◌, List, length, arith, inl, inr, refl, sym, ap, subst, ◌∙◌}
use Rattle.std.specs.Prelude.{slice_index, IsTrue}
use Rattle.std.proofs.lemmas.Bool.{cases_lt, false≢true}
use Rattle.std.proofs.lemmas.Bool.Decides.{nat_tests}
use Rattle.strkw_label.specs.LabelRules.{Has, StandsWell}

-- ASCII characters stand anywhere
pub StandsWell-ascii : (text : List ℕ) (k : ℕ) → slice_index text k < 128 → StandsWell text k
StandsWell-ascii text k lt = record {
  joiner = λ e. absurd (grind (arith, nat_tests));
  middle_dot = λ e. absurd (omega arith);
  keraia = λ e. absurd (omega arith);
  geresh = λ e. absurd (grind (arith, nat_tests));
  not_excluded = grind (arith, nat_tests);
  character = inl lt;
}

-- ---- a flag that tells whether one of the first n characters passes

-- the flag is set exactly where one of the first n characters passes
abbrev pub Tells : Bool → (ℕ → Bool) → ℕ → List ℕ → Type 0
Tells seen p n text = IsTrue seen ↔ ((k : ℕ) × (k < n) × IsTrue (p (slice_index text k)))

-- a flag that is not set tells it of the first 0 characters
pub Tells-none : (seen : Bool) (p : ℕ → Bool) (text : List ℕ) → seen ≡ false → Tells seen p 0 text
Tells-none seen p text e = (λ t. absurd (false≢true (sym e ∙ t)), λ h. absurd (omega (arith, h.1)))

-- set also where the next character passes, it tells it of one character more
pub Tells-more : (seen now : Bool) (p : ℕ → Bool) (n : ℕ) (text : List ℕ) → Tells seen p n text → now ≡ (seen || p (slice_index text n))
    → Tells now p (n + 1) text
Tells-more true now p n text h e = (λ t. let x = h.0 refl in (x.0, omega (arith, x.1), x.2), λ x. e)
Tells-more false now p n text h e = (
  λ t. (n, omega arith, sym e ∙ t),
  λ x.
      elim (cases_lt x.0 n) [
        | inl lt ↦ absurd (false≢true (h.1 (x.0, lt, x.2)))
        | inr ge ↦
            let same : x.0 ≡ n = omega (arith, x.1) in
            e ∙ ap (λ k. p (slice_index text k)) (sym same) ∙ x.2
      ],
)

-- where n is the length, it tells whether the text has a character that passes
pub Tells-all : (seen : Bool) (p : ℕ → Bool) (n : ℕ) (text : List ℕ) → Tells seen p n text → n ≡ length text → IsTrue seen ↔ Has p text
Tells-all seen p n text h e = subst (λ m. Tells seen p m text) e h
