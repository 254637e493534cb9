-- The loop of bias adaptation (RFC 3492 section 6.1): what is left of the delta, and how far k has come, settle the
-- bias.
use Rattle.std.proofs.Common.{◌≡◌, ℕ, zero, suc, ◌+◌, ◌*◌, ◌/◌, ◌<◌, ◌≤◌, Bool, true, false, nat_lt, cond, refl, sym, ap, ◌∙◌, inl, inr, arith}
use Rattle.std.proofs.lemmas.Bool.{cases_lt, cond-true, cond-false}
use Rattle.std.proofs.lemmas.Bool.Decides.{nat_tests}
use Rattle.strkw_label.specs.Punycode.{scale, adapt}

-- the greatest delta that is not divided further: 35 * 26 / 2
abbrev limit : ℕ
limit = 455

-- one more division, where there is a turn for it
divide : (turns left k : ℕ) → limit < left → scale (suc turns) left k ≡ scale turns (left / 35) (k + 36)
unfolding scale
divide turns left k above = let test : nat_lt limit left ≡ true = grind (arith, nat_tests) in cond-true _ _ _ test

-- no further division, whatever turns there are
finish : (turns left k : ℕ) → left ≤ limit → scale turns left k ≡ k + 36 * left / (left + 38)
unfolding scale
finish zero left k within = refl
finish (suc turns) left k within = let test : nat_lt limit left ≡ false = grind (arith, nat_tests) in cond-false _ _ _ test

-- more turns than are left of the delta change nothing
spare_turns : (turns left k : ℕ) → left ≤ turns → scale turns left k ≡ scale left left k
spare_turns turns left k enough = both turns left left k enough (omega arith)
  where
    -- two numbers of turns, each at least what is left of the delta, come to the same
    both : (m n left k : ℕ) → left ≤ m → left ≤ n → scale m left k ≡ scale n left k
    both zero n left k lm ln = finish zero left k (omega arith) ∙ sym (finish n left k (omega arith))
    both (suc m) zero left k lm ln = finish (suc m) left k (omega arith) ∙ sym (finish zero left k (omega arith))
    both (suc m) (suc n) left k lm ln =
        elim (cases_lt limit left) [
          | inl above ↦ divide m left k above ∙ both m n (left / 35) (k + 36) (omega arith) (omega arith) ∙ sym (divide n left k above)
          | inr within ↦ finish (suc m) left k within ∙ sym (finish (suc n) left k within)
        ]

-- the bias that comes of what is left of the delta at k
abbrev pub bias_from : ℕ → ℕ → ℕ
bias_from left k = scale left left k

-- from the damped delta and its count-th part, at k 0, comes the bias of `adapt`
pub adaptation_begins : (delta count : ℕ) (first : Bool) (damped : ℕ) → damped ≡ cond first (delta / 700) (delta / 2)
    → bias_from (damped + damped / count) 0 ≡ adapt delta count first
unfolding adapt
adaptation_begins delta count first damped e = ap (λ d. scale (d + d / count) (d + d / count) 0) e

-- above the limit, one more division leaves the bias that comes as it is
pub above_limit : (left k : ℕ) → limit < left → bias_from (left / 35) (k + 36) ≡ bias_from left k
above_limit zero k above = absurd (omega arith)
above_limit (suc left) k above = sym (divide left (suc left) k above ∙ spare_turns left (suc left / 35) (k + 36) (omega arith))

-- up to the limit, the last formula gives the bias
pub within_limit : (left k : ℕ) → left ≤ limit → k + 36 * left / (left + 38) ≡ bias_from left k
within_limit left k within = sym (finish left left k within)
