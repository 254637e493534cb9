-- Where the first byte that passes a test stands: what `memchr` says of it, in the word `position`.
use Rattle.std.proofs.Common.{◌≡◌, ℕ, ◌<◌, List, length, Bool, Option, None, Some, refl, sym, arith, position}
use Rattle.std.specs.List.{position_or_len}
use Rattle.std.proofs.lemmas.Bool.{false_from_ne_true, lt-ltb}
use Rattle.std.proofs.lemmas.List.Sums.{position_or_len_is}
use Rattle.std.proofs.lemmas.Bool.Decides.{nat_tests}
use Rattle.memchr.specs.Find.{IsFirstByte}

-- the answer where the first place is known
place : (test : ℕ → Bool) (hay : List ℕ) (k : ℕ) → position_or_len test hay ≡ k → k < length hay → position test hay ≡ Some k
place test hay k is within = rw (is, lt-ltb k (length hay) within) refl

-- the answer where no byte passes
no_place : (test : ℕ → Bool) (hay : List ℕ) → position_or_len test hay ≡ length hay → position test hay ≡ None
no_place test hay is = rw is grind (arith, nat_tests)

-- the place of the first byte that passes a test, if there is one, is what `position` answers
pub IsFirstByte-position : (test : ℕ → Bool) (hay : List ℕ) (r : Option ℕ) → IsFirstByte test hay r → r ≡ position test hay
IsFirstByte-position test hay None h =
    sym (no_place test hay (position_or_len_is test hay (length hay) 0 (omega arith) (λ k below. false_from_ne_true _ (h k (omega arith) below))
    (λ past. absurd (omega arith))))
IsFirstByte-position test hay (Some k) h =
    sym (place test hay k (position_or_len_is test hay k 0 (omega (arith, h.0.high)) (λ j below. false_from_ne_true _ (h.0.before j (omega arith) below))
    (λ _. h.1)) h.0.high)
