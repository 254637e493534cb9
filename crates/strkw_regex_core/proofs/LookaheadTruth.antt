-- Whether what a lookahead looks for is there: what the search from the end of a text says of it is so.
use Rattle.std.proofs.Common.{◌≡◌, ◌⊎◌, ◌↔◌, ℕ, zero, suc, ◌+◌, ◌-◌, ◌≤◌, ◌<◌, Bool, true, false, List, length, reverse, slice_get, refl, sym, subst}
use Rattle.std.proofs.Common.{◌∙◌, ⊎_elim, arith}
use Rattle.std.proofs.lemmas.List.{length-reverse}
use Rattle.strkw_regex_core.specs.machine.MarkedPattern.{MarkedPattern, empty, class, look, cat, alt, star, plus, lookbehind, lookahead}
use Rattle.strkw_regex_core.specs.Meaning.{before}
use Rattle.strkw_regex_core.specs.machine.MarkedMeaning.{Matches, Found}
use Rattle.strkw_regex_core.specs.machine.Mirror.{mirror}
use Rattle.strkw_regex_core.specs.machine.Positions.{IsToldBy, Kept, is_unmarked}
use Rattle.strkw_regex_core.specs.machine.Sight.{depth, marked_at, ends_at, ends_by, begins_at}
use Rattle.strkw_regex_core.proofs.Steps.{same_meaning, forwards}
use Rattle.strkw_charset.proofs.Booleans.{and_left, and_right, or_case, or_left, or_right}
use Rattle.strkw_regex_core.proofs.Behind.{says_of, kept_next, none_under_way, seen}
use Rattle.strkw_regex_core.proofs.Mirrors.{stays, begins_turned}
use Rattle.strkw_regex_core.proofs.Unmarked.{clean_unmarked, mirror_unmarked}
use Rattle.strkw_regex_core.proofs.Depths.{less_left, less_right, mirror_depth}

-- Here `see` says at each place of a lookahead whether what it looks for is there, and says what is so of those with
-- fewer lookarounds in one another than n.
module _ (see : ℕ → MarkedPattern → Bool) (text : List ℕ) (n : ℕ)
    (told : (r : MarkedPattern) → is_unmarked r ≡ true → depth r < n → IsToldBy see text r) where
  -- at the first place the marks within lookbehinds are kept
  kept_start : (p : MarkedPattern) → is_unmarked p ≡ true → depth p ≤ n → Kept see text p 0
  kept_start empty h w = tt
  kept_start (class m b rs) h w = tt
  kept_start (look l) h w = tt
  kept_start (cat p q) h w =
      (kept_start p (and_left _ _ h) (less_left (depth p) (depth q) n w), kept_start q (and_right (is_unmarked p) _ h) (less_right (depth p) (depth q) n w))
  kept_start (alt p q) h w =
      (kept_start p (and_left _ _ h) (less_left (depth p) (depth q) n w), kept_start q (and_right (is_unmarked p) _ h) (less_right (depth p) (depth q) n w))
  kept_start (star p) h w = kept_start p h w
  kept_start (plus p) h w = kept_start p h w
  kept_start (lookbehind b p) h w = (
    kept_start p h (omega (arith, w)),
    λ j. (λ r. absurd (none_under_way text p 0 j (clean_unmarked p h) r), λ c. absurd (omega (arith, c.1))),
  )
  kept_start (lookahead b p) h w = told p h (omega (arith, w))

  module _ (p : MarkedPattern) (bare : is_unmarked p ≡ true) (few : depth p ≤ n) where
    -- the marks of a pattern that is entered at each place are those of all ways that have begun before
    kept_at : (i : ℕ) → i ≤ length text → Kept see text (lookbehind false (marked_at see text p i)) i
    kept_at zero h = (
      kept_start p bare few,
      λ j. (λ r. absurd (none_under_way text p 0 j (clean_unmarked p bare) r), λ c. absurd (omega (arith, c.1))),
    )
    kept_at (suc i) h =
        let next : suc i ≡ i + 1 = omega arith in
        subst (λ (z : ℕ). Kept see text (lookbehind false (marked_at see text p (suc i))) z) (sym next)
        (kept_next see text i (omega (arith, h)) (lookbehind false (marked_at see text p i)) true (kept_at i (omega (arith, h))))

    -- marks mean nothing
    same_at : (i : ℕ) → Matches text (marked_at see text p i) ≡ Matches text p
    same_at zero = refl
    same_at (suc i) = same_meaning (see i) text (before text i) (slice_get text i) (marked_at see text p i) true ∙ same_at i

    -- so it ends at a place exactly where it matches up to there from some place
    pub ends_right : (i : ℕ) → i ≤ length text → (ends_at see text p i ≡ true) ↔ ((k : ℕ) × Matches text p k i)
    ends_right i h =
        let kept = kept_at i h in
        subst (λ (R : ℕ → ℕ → Type 0). (ends_at see text p i ≡ true) ↔ ((k : ℕ) × R k i)) (same_at i)
        (seen (see i) text i (marked_at see text p i) (says_of see text i h (marked_at see text p i) kept.0) kept.1)

    -- and at one of the first places exactly where it matches up to one
    ends_one : (i : ℕ) → i ≤ length text → (ends_by see text p i ≡ true) → (j k : ℕ) × (j ≤ i) × Matches text p k j
    ends_one zero h e = let m = (ends_right zero h).0 e in (0, m.0, omega arith, m.1)
    ends_one (suc i) h e =
        ⊎_elim (λ early. let m = ends_one i (omega (arith, h)) early in (m.0, m.1, omega (arith, m.2), m.3))
        (λ here. let m = (ends_right (suc i) h).0 here in (suc i, m.0, omega arith, m.1))
        (or_case (ends_by see text p i) (ends_at see text p (suc i)) e)

    -- a place that is not behind another lies before it, or is that one
    before_or_there : (j i : ℕ) → j ≤ suc i → (j ≤ i) ⊎ (j ≡ suc i)
    before_or_there j i h = grind arith

    one_ends : (i : ℕ) → i ≤ length text → (j k : ℕ) → j ≤ i → Matches text p k j → ends_by see text p i ≡ true
    one_ends zero h j k w m =
        let first : j ≡ 0 = omega (arith, w) in
        (ends_right zero h).1 (k, subst (λ (z : ℕ). Matches text p k z) first m)
    one_ends (suc i) h j k w m =
        ⊎_elim (λ early. or_left _ _ (one_ends i (omega (arith, h)) j k early m))
        (λ there. or_right (ends_by see text p i) _ ((ends_right (suc i) h).1 (k, subst (λ (z : ℕ). Matches text p k z) there m)))
        (before_or_there j i w)

    pub found_right : (ends_by see text p (length text) ≡ true) ↔ Found p text
    found_right = (
      λ e. let m = ends_one (length text) (omega arith) e in found_of m.0 m.1 m.2 m.3,
      λ f. one_ends (length text) (omega arith) f.1 f.0 (stays text p f.0 f.1 f.2 f.3) f.3,
    )
      where
        found_of : (j k : ℕ) → j ≤ length text → Matches text p k j → Found p text
        found_of j k h m = (k, j, omega (arith, h, forwards text p k j m), m)

-- what is said of a lookahead, from the end of the text on, is so
pub begins_right : (n : ℕ) (text : List ℕ) (p : MarkedPattern) → is_unmarked p ≡ true → depth p < n → IsToldBy (begins_at n text) text p
begins_right zero text p h w = absurd (omega (arith, w))
begins_right (suc n) text p h w = λ i within.
    let back = reverse text in
    let there = ends_right (begins_at n back) back n (λ r bare few. begins_right n back r bare few) (mirror p) (mirror_unmarked p h)
    (omega (arith, w, mirror_depth p)) (length text - i) (omega (arith, length-reverse text)) in
    let turned = begins_turned text p i within in
    (λ e. turned.0 (there.0 e), λ m. there.1 (turned.1 m))
