-- What a pattern means (ECMA-262 2024, section 22.2.2): it matches a text from place i to place j.
-- A place is the number of characters before it. By the law `matchers_agree` this is what the
-- matchers of the standard answer (`specs/Matchers.antt`): that RepeatMatcher refuses a round that
-- reads nothing where none is required, and that CompileAssertion runs the pattern of a lookbehind
-- backward from its place, changes no answer.
use Rattle.std.specs.Prelude.{◌≡◌, ℕ, zero, suc, ◌+◌, ◌-◌, ◌≤◌, ◌==◌, Bool, true, false, not, ◌⊎◌}
use Rattle.std.specs.Prelude.{List, length, Option, Some, None, IfSome, if◌then◌else◌, slice_get}
use Rattle.strkw_regex_core.specs.Tree.{Look, start, end, boundary, no_boundary, Pattern, empty}
use Rattle.strkw_regex_core.specs.Tree.{class, look, cat, alt, repeat, lookbehind, lookahead}
use Rattle.strkw_charset.specs.Membership.{in_sets, differ, is_member}
use Rattle.strkw_charset.specs.Sets.{word_characters}

-- so many rounds of R lead from i to j
abbrev pub Rounds : (ℕ → ℕ → Type 0) → ℕ → ℕ → ℕ → Type 0
Rounds R zero i j = i ≡ j
Rounds R (suc n) i j = (l : ℕ) × R i l × Rounds R n l j

-- the character before a place
abbrev pub before : List ℕ → ℕ → Option ℕ
before text i = if i == 0 then None else slice_get text (i - 1)

-- IsWordChar (section 22.2.2.4.1)
abbrev pub is_word : Option ℕ → Bool
is_word None = false
is_word (Some c) = in_sets word_characters c

abbrev pub is_edge : Option ℕ → Bool
is_edge None = true
is_edge (Some c) = false

-- the assertion holds between these two characters
abbrev pub holds : Look → Option ℕ → Option ℕ → Bool
holds start b a = is_edge b
holds end b a = is_edge a
holds boundary b a = differ (is_word b) (is_word a)
holds no_boundary b a = not (differ (is_word b) (is_word a))

-- it holds, or where the first does, it does not
abbrev pub Unless : Bool → Type 0 → Type 0
Unless false A = A
Unless true A = A → ⊥

abbrev pub Matches : List ℕ → Pattern → ℕ → ℕ → Type 0
Matches text empty i j = i ≡ j
Matches text (class n rs) i j = (c : ℕ) × (slice_get text i ≡ Some c) × (is_member n rs c ≡ true)
    × (j ≡ i + 1)
Matches text (look l) i j = (holds l (before text i) (slice_get text i) ≡ true) × (i ≡ j)
Matches text (cat p q) i j = (l : ℕ) × Matches text p i l × Matches text q l j
Matches text (alt p q) i j = Matches text p i j ⊎ Matches text q i j
Matches text (repeat min max p) i j = (n : ℕ) × (min ≤ n) × IfSome max (λ m. n ≤ m)
    × Rounds (Matches text p) n i j
Matches text (lookbehind n p) i j = Unless n ((k : ℕ) × Matches text p k i) × (i ≡ j)
Matches text (lookahead n p) i j = Unless n ((k : ℕ) × Matches text p i k) × (i ≡ j)

-- the pattern is found somewhere in the text. Beyond its end no place is one: there both assertions
-- would hold
abbrev pub Found : Pattern → List ℕ → Type 0
Found p text = (i j : ℕ) × (i ≤ length text) × Matches text p i j
