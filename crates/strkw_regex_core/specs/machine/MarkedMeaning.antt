-- What a marked pattern matches, and where it is found, as `specs/Meaning.antt` says of patterns.
use Rattle.std.specs.Prelude.{◌≡◌, ℕ, ◌+◌, ◌≤◌, true, ◌⊎◌, List, length, Some, slice_get}
use Rattle.strkw_charset.specs.Membership.{is_member}
use Rattle.strkw_regex_core.specs.Meaning.{before, holds, Unless}
use Rattle.strkw_regex_core.specs.machine.MarkedPattern.{MarkedPattern, empty, class, look, cat}
use Rattle.strkw_regex_core.specs.machine.MarkedPattern.{alt, star, plus, lookbehind, lookahead}

-- so many rounds of R as it takes, none among them, lead from the last number to j
pub data Rounds (R : ℕ → ℕ → Type 0) (j : ℕ) : ℕ → Type 0 where
  no_round : (i : ℕ) → i ≡ j → Rounds R j i
  a_round : (i l : ℕ) → R i l → Rounds R j l → Rounds R j i

abbrev pub Matches : List ℕ → MarkedPattern → ℕ → ℕ → Type 0
Matches text empty i j = i ≡ j
Matches text (class m n rs) i j = (c : ℕ) × (slice_get text i ≡ Some c) × (is_member n rs c ≡ true)
    × (j ≡ i + 1)
Matches text (look l) i j = (holds l (before text i) (slice_get text i) ≡ true) × (i ≡ j)
Matches text (cat p q) i j = (l : ℕ) × Matches text p i l × Matches text q l j
Matches text (alt p q) i j = Matches text p i j ⊎ Matches text q i j
Matches text (star p) i j = Rounds (Matches text p) j i
Matches text (plus p) i j = (l : ℕ) × Matches text p i l × Rounds (Matches text p) j l
Matches text (lookbehind n p) i j = Unless n ((k : ℕ) × Matches text p k i) × (i ≡ j)
Matches text (lookahead n p) i j = Unless n ((k : ℕ) × Matches text p i k) × (i ≡ j)

-- it is found somewhere in the text
abbrev pub Found : MarkedPattern → List ℕ → Type 0
Found p text = (i j : ℕ) × (i ≤ length text) × Matches text p i j
