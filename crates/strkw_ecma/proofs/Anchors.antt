-- `^`, `$`, `\b` and `\B` as lookarounds.
use Rattle.std.proofs.Common.{◌≡◌, ◌↔◌, ◌⊎◌, ℕ, zero, suc, ◌+◌, ◌≤◌, Bool, false, true, not, List, length, get_or, Option, Some, None, slice_get}
use Rattle.std.proofs.Common.{arith, refl, sym, ap, subst, ◌∙◌, inl, inr, ⊎_elim, true≢false}
use Rattle.std.proofs.lemmas.Option.{slice_get-get_or}
use Rattle.strkw_regex_core.specs.Tree.{cat, lookbehind, lookahead}
use Rattle.strkw_charset.specs.Membership.{differ, is_member}
use Rattle.strkw_charset.specs.Sets.{word_characters}
use Rattle.strkw_regex_core.specs.Meaning.{before, is_edge, is_word, Unless, Matches}
use Rattle.strkw_ecma.specs.Laws.{any_character, word_character}
use Rattle.strkw_regex_core.proofs.Search.{before_next}

-- no character stands before a place exactly where `[^]` matches up to it from nowhere
pub nothing_before : (text : List ℕ) (i : ℕ) → i ≤ length text
    → (is_edge (before text i) ≡ true) ↔ ((k : ℕ) × Matches text any_character k i → ⊥)
nothing_before text zero h = (λ e found. absurd (omega (arith, found.1.3)), λ none. refl)
nothing_before text (suc k) h =
    let there : slice_get text k ≡ Some (get_or text k 0) = slice_get-get_or text k 0 (omega (arith, h)) in
    let no_edge : is_edge (before text (suc k)) ≡ false = ap is_edge (before_next text k ∙ there) in
    let next : suc k ≡ k + 1 = omega arith in
    (λ e. absurd (true≢false (sym e ∙ no_edge)), λ none. absurd (none (k, (get_or text k 0, there, refl, next))))

-- no character stands at a place exactly where `[^]` matches from it to nowhere
pub nothing_behind : (o : Option ℕ)
    → (is_edge o ≡ true) ↔ ((c : ℕ) → o ≡ Some c → ⊥)
nothing_behind None = (λ e c same. absurd (true≢false (ap is_edge same)), λ none. refl)
nothing_behind (Some c) = (λ e. absurd (true≢false (sym e)), λ none. absurd (none c refl))

-- a character is a word's exactly where it is a member of `\w`
word_member : (o : Option ℕ) → (is_word o ≡ true) ↔ ((c : ℕ) × (o ≡ Some c) × (is_member false word_characters c ≡ true))
word_member None = (λ e. absurd (true≢false (sym e)), λ found. ap is_word found.1 ∙ found.2)
word_member (Some c) = (λ e. (c, refl, e), λ found. ap is_word found.1 ∙ found.2)

-- a character of a word stands before a place exactly where `\w` matches up to it, and behind it where it matches from
-- it on
word_before : (text : List ℕ) (i : ℕ) → (is_word (before text i) ≡ true) ↔ ((k : ℕ) × Matches text word_character k i)
word_before text zero = (λ e. absurd (true≢false (sym e)), λ found. absurd (omega (arith, found.1.3)))
word_before text (suc k) =
    let next : suc k ≡ k + 1 = omega arith in
    let at = word_member (slice_get text k) in (
      λ e. let f = at.0 (sym (ap is_word (before_next text k)) ∙ e) in (k, (f.0, f.1, f.2, next)),
      λ found. let same : k ≡ found.0 = omega (arith, found.1.3) in
          ap is_word (before_next text k) ∙ at.1 (found.1.0, ap (slice_get text) same ∙ found.1.1, found.1.2),
    )

-- a character of a word stands behind a place exactly where `\w` matches from it on
word_behind : (text : List ℕ) (i : ℕ) → (is_word (slice_get text i) ≡ true) ↔ ((k : ℕ) × Matches text word_character i k)
word_behind text i =
    let at = word_member (slice_get text i) in
    (λ e. let f = at.0 e in (i + 1, (f.0, f.1, f.2, refl)), λ found. at.1 (found.1.0, found.1.1, found.1.2))

-- what a test tells, its negation tells of the contrary
pub told_unless : (n b : Bool) (A : Type 0) → (b ≡ true) ↔ A → (differ n b ≡ true) ↔ Unless n A
told_unless false b A told = told
told_unless true false A told = (λ e a. absurd (true≢false (sym (told.1 a))), λ none. refl)
told_unless true true A told = (λ e. absurd (true≢false (sym e)), λ none. absurd (none (told.0 refl)))

-- a lookbehind and a lookahead for `\w` at one place say what the two characters beside it are
beside : (text : List ℕ) (m n : Bool) (i j : ℕ)
    → ((differ m (is_word (before text i)) ≡ true) × (differ n (is_word (slice_get text i)) ≡ true) × (i ≡ j))
    ↔ Matches text (cat (lookbehind m word_character) (lookahead n word_character)) i j
beside text m n i j =
    let left = told_unless m (is_word (before text i)) ((k : ℕ) × Matches text word_character k i) (word_before text i) in
    let right = told_unless n (is_word (slice_get text i)) ((k : ℕ) × Matches text word_character i k) (word_behind text i) in (
      λ t. (i, (left.0 t.0, refl), (right.0 t.1, t.2)),
      λ found. (
        left.1 found.1.0,
        right.1 (subst (λ (x : ℕ). Unless n ((k : ℕ) × Matches text word_character x k)) (sym found.1.1) found.2.0),
        found.1.1 ∙ found.2.1,
      ),
    )

-- two tests differ where one of the two holds alone, and agree where both hold or none does
pub tests_differ : (b a : Bool) → (differ b a ≡ true)
    ↔ (((differ false b ≡ true) × (differ true a ≡ true)) ⊎ ((differ true b ≡ true) × (differ false a ≡ true)))
tests_differ true true = (λ e. absurd (true≢false (sym e)), ⊎_elim (λ p. p.1) (λ p. p.0))
tests_differ true false = (λ e. inl (refl, refl), λ s. refl)
tests_differ false true = (λ e. inr (refl, refl), λ s. refl)
tests_differ false false = (λ e. absurd (true≢false (sym e)), ⊎_elim (λ p. p.0) (λ p. p.1))

-- and two tests agree exactly where both hold, or neither does
pub tests_agree : (b a : Bool) → (not (differ b a) ≡ true)
    ↔ (((differ false b ≡ true) × (differ false a ≡ true)) ⊎ ((differ true b ≡ true) × (differ true a ≡ true)))
tests_agree true true = (λ e. inl (refl, refl), λ s. refl)
tests_agree true false = (λ e. absurd (true≢false (sym e)), ⊎_elim (λ p. p.1) (λ p. p.0))
tests_agree false true = (λ e. absurd (true≢false (sym e)), ⊎_elim (λ p. p.0) (λ p. p.1))
tests_agree false false = (λ e. inr (refl, refl), λ s. refl)

-- so an assertion about the two characters matches where one of two such pairs of lookarounds does
pub beside_either : (text : List ℕ) (holds : Type 0) (m n o p : Bool) (i j : ℕ)
    → holds ↔ (((differ m (is_word (before text i)) ≡ true) × (differ n (is_word (slice_get text i)) ≡ true))
    ⊎ ((differ o (is_word (before text i)) ≡ true) × (differ p (is_word (slice_get text i)) ≡ true)))
    → (holds × (i ≡ j)) ↔ (Matches text (cat (lookbehind m word_character) (lookahead n word_character)) i j
    ⊎ Matches text (cat (lookbehind o word_character) (lookahead p word_character)) i j)
beside_either text holds m n o p i j either =
    let one = beside text m n i j in
    let other = beside text o p i j in (
      λ h. ⊎_elim (λ t. inl (one.0 (t.0, t.1, h.1))) (λ t. inr (other.0 (t.0, t.1, h.1))) (either.0 h.0),
      ⊎_elim (λ f. let t = one.1 f in (either.1 (inl (t.0, t.1)), t.2)) (λ f. let t = other.1 f in (either.1 (inr (t.0, t.1)), t.2)),
    )
