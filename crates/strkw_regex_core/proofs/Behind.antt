-- The marks within lookbehinds: at each place they are those of all ways that have begun before it, so that each
-- lookbehind says there what is so.
use Rattle.std.proofs.Common.{◌≡◌, ◌⊎◌, ◌↔◌, ℕ, ◌+◌, ◌≤◌, ◌<◌, Bool, true, false, List, slice_get, length, refl, sym, ap, subst, inl, inr, ⊎_elim}
use Rattle.std.proofs.Common.{true≢false, arith}
use Rattle.strkw_regex_core.specs.machine.MarkedPattern.{MarkedPattern, empty, class, look, cat, alt, star, plus, lookbehind, lookahead}
use Rattle.strkw_regex_core.specs.Meaning.{before}
use Rattle.strkw_regex_core.specs.machine.MarkedMeaning.{Matches}
use Rattle.strkw_regex_core.specs.machine.Positions.{sees, Rest, Crosses, Kept, is_clean}
use Rattle.strkw_regex_core.specs.machine.Program.{is_empty}
use Rattle.strkw_regex_core.specs.machine.OneCharLookahead.{is_glance, are_told}
use Rattle.strkw_regex_core.proofs.Steps.{same_meaning, forwards, rest_forwards, unless_differs, left, stepped, reads_some, Says, Goes, Went, goes_on}
use Rattle.strkw_regex_core.proofs.Steps.{goes_back}
use Rattle.strkw_charset.proofs.Booleans.{and_left, and_right, or_case, or_left, or_right}

-- the empty pattern is the one that is nothing
pub nothing_is : (p : MarkedPattern) → is_empty p ≡ true → p ≡ empty
nothing_is empty h = refl
nothing_is (class m n rs) h = absurd (true≢false (sym h))
nothing_is (look l) h = absurd (true≢false (sym h))
nothing_is (cat p q) h = absurd (true≢false (sym h))
nothing_is (alt p q) h = absurd (true≢false (sym h))
nothing_is (star p) h = absurd (true≢false (sym h))
nothing_is (plus p) h = absurd (true≢false (sym h))
nothing_is (lookbehind n p) h = absurd (true≢false (sym h))
nothing_is (lookahead n p) h = absurd (true≢false (sym h))

-- Here `see` says of a lookahead whether what it looks for is there.
module _ (see : MarkedPattern → Bool) (text : List ℕ) (i : ℕ) where
  -- what is not behind a place stands before it, or there
  before_or_there : (k : ℕ) → k ≤ i → (k < i) ⊎ (k ≡ i)
  before_or_there k h = grind arith

  module _ (p : MarkedPattern) (says : Says see text i p) (marks : (j : ℕ) → Rest text p i j ↔ Crosses text p i j) where
    -- a match that has begun before this place, or begins here, goes through the pattern from here
    goes_from : (k j : ℕ) → i ≤ j → Matches text p k j → (k < i) ⊎ (k ≡ i) → Goes see text i p true j
    goes_from k j h m (inl early) = inl ((marks j).1 (k, early, h, m))
    goes_from k j h m (inr e) = inr (refl, subst (λ (z : ℕ). Matches text p z j) e m)

    -- what goes through the pattern from here is a match that has begun before this place, or begins here
    matches_from : (j : ℕ) → Goes see text i p true j → (k : ℕ) × (k ≤ i) × Matches text p k j
    matches_from j (inl r) = let c = (marks j).0 r in (c.0, omega (arith, c.1), c.3)
    matches_from j (inr m) = (i, omega arith, m.1)

    -- a way that comes to this place and no further ends here
    ends_here : Went see text i p true i → left see text i p true ≡ true
    ends_here (inl e) = e.0
    ends_here (inr r) = let beyond : i + 1 ≤ i = rest_forwards text _ _ _ r in absurd (omega (arith, beyond))

    -- and one that comes further goes on from a mark
    ends_later : (j : ℕ) → i + 1 ≤ j → Went see text i p true j → Rest text (stepped see text i p true) (i + 1) j
    ends_later j h (inl e) = absurd (omega (arith, e.1))
    ends_later j h (inr r) = r

    -- the body of a lookbehind is left here exactly where it matches up to here from some place
    pub seen : (left see text i p true ≡ true) ↔ ((k : ℕ) × Matches text p k i)
    seen = (
      λ h. let found = matches_from i (goes_back see text i p says true i (inl (h, refl))) in (found.0, found.2),
      λ found.
          ends_here (goes_on see text i p says true i
          (goes_from found.0 i (omega arith) found.1 (before_or_there found.0 (forwards text p found.0 i found.1)))),
    )

    -- a step changes nothing of what the pattern matches
    same_step : (k j : ℕ) → Matches text (stepped see text i p true) k j ≡ Matches text p k j
    same_step k j = ap (λ (R : ℕ → ℕ → Type 0). R k j) (same_meaning see text (before text i) (slice_get text i) p true)

    -- the marks behind the character here are those of all ways that have begun before the next place
    pub next_marks : (j : ℕ) → Rest text (stepped see text i p true) (i + 1) j ↔ Crosses text (stepped see text i p true) (i + 1) j
    next_marks j = (
      λ r.
          let found = matches_from j (goes_back see text i p says true j (inr r)) in (
            found.0,
            omega (arith, found.1),
            rest_forwards text _ _ _ r,
            subst (λ (A : Type 0). A) (sym (same_step found.0 j)) found.2,
          ),
      λ c.
          ends_later j c.2 (goes_on see text i p says true j
          (goes_from c.0 j (omega (arith, c.2)) (subst (λ (A : Type 0). A) (same_step c.0 j) c.3) (before_or_there c.0 (omega (arith, c.1))))),
    )

-- whether a pattern that the next character tells matches from a place on
abbrev pub seen_from : List ℕ → ℕ → MarkedPattern → Bool
seen_from text i = sees (before text i) (slice_get text i)

module _ (text : List ℕ) (i : ℕ) where
  -- a glance says whether the pattern matches from here on
  pub glanced : (p : MarkedPattern) → is_glance p ≡ true → (seen_from text i p ≡ true) ↔ ((k : ℕ) × Matches text p i k)
  glanced empty g = (λ h. (i, refl), λ found. refl)
  glanced (class m n rs) g = (
    λ h. let found = reads_some (seen_from text i) text i n rs (slice_get text i) h in (i + 1, (found.0, found.1, found.2, refl)),
    λ found. rw (found.1.1) found.1.2,
  )
  glanced (look l) g = (λ h. (i, (h, refl)), λ found. found.1.0)
  glanced (cat p q) g = with_nothing p (nothing_is p (and_left (is_empty p) _ g)) (glanced q (and_right (is_empty p) _ g))
    where
      -- behind nothing, it is that of what follows
      with_nothing : (p : MarkedPattern) → p ≡ empty → (seen_from text i q ≡ true) ↔ ((k : ℕ) × Matches text q i k)
          → (seen_from text i (cat p q) ≡ true) ↔ ((k : ℕ) × Matches text (cat p q) i k)
      with_nothing p e same =
          rw e (
            λ h. let found = same.0 h in (found.0, (i, refl, found.1)),
            λ found. same.1 (found.0, subst (λ (z : ℕ). Matches text q z found.0) (sym found.1.1) found.1.2),
          )
  glanced (alt p q) g = (
    λ h.
        ⊎_elim (λ one. let found = (glanced p (and_left _ _ g)).0 one in (found.0, inl found.1))
        (λ other. let found = (glanced q (and_right (is_glance p) _ g)).0 other in (found.0, inr found.1))
        (or_case (seen_from text i p) (seen_from text i q) h),
    λ found.
        ⊎_elim (λ m. or_left _ _ ((glanced p (and_left _ _ g)).1 (found.0, m)))
        (λ m. or_right (seen_from text i p) _ ((glanced q (and_right (is_glance p) _ g)).1 (found.0, m))) found.1,
  )
  glanced (star p) g = absurd (true≢false (sym g))
  glanced (plus p) g = absurd (true≢false (sym g))
  glanced (lookbehind n p) g = absurd (true≢false (sym g))
  glanced (lookahead n p) g = (
    λ h. (i, ((unless_differs n _ _ (glanced p g)).0 h, refl)),
    λ found. (unless_differs n _ _ (glanced p g)).1 found.1.0,
  )

-- Here `see` says at each place of a lookahead whether what it looks for is there.
module _ (see : ℕ → MarkedPattern → Bool) (text : List ℕ) (i : ℕ) (within : i ≤ length text) where
  -- where the marks within lookbehinds are kept, each says what is so
  pub says_of : (p : MarkedPattern) → Kept see text p i → Says (see i) text i p
  says_of empty k = tt
  says_of (class m n rs) k = tt
  says_of (look l) k = tt
  says_of (cat p q) k = (says_of p k.0, says_of q k.1)
  says_of (alt p q) k = (says_of p k.0, says_of q k.1)
  says_of (star p) k = says_of p k
  says_of (plus p) k = says_of p k
  says_of (lookbehind n p) k = (says_of p k.0, seen (see i) text i p (says_of p k.0) k.1)
  says_of (lookahead n p) k = k i within

  -- and a step keeps them
  pub kept_next : (p : MarkedPattern) (x : Bool) → Kept see text p i → Kept see text (stepped (see i) text i p x) (i + 1)
  kept_next empty x k = tt
  kept_next (class m n rs) x k = tt
  kept_next (look l) x k = tt
  kept_next (cat p q) x k = (kept_next p x k.0, kept_next q _ k.1)
  kept_next (alt p q) x k = (kept_next p x k.0, kept_next q x k.1)
  kept_next (star p) x k = kept_next p _ k
  kept_next (plus p) x k = kept_next p _ k
  kept_next (lookbehind n p) x k = (kept_next p true k.0, next_marks (see i) text i p (says_of p k.0) k.1)
  kept_next (lookahead n p) x k = k

-- a pattern without marks has no match under way
pub none_under_way : (text : List ℕ) (p : MarkedPattern) (k j : ℕ) → is_clean p ≡ true → Rest text p k j → ⊥
none_under_way text empty k j h r = r
none_under_way text (class true n rs) k j h r = true≢false (sym h)
none_under_way text (class false n rs) k j h r = true≢false (sym r.0)
none_under_way text (look l) k j h r = r
none_under_way text (cat p q) k j h (inl (l, r, m)) = none_under_way text p k l (and_left _ _ h) r
none_under_way text (cat p q) k j h (inr r) = none_under_way text q k j (and_right _ _ h) r
none_under_way text (alt p q) k j h (inl r) = none_under_way text p k j (and_left _ _ h) r
none_under_way text (alt p q) k j h (inr r) = none_under_way text q k j (and_right _ _ h) r
none_under_way text (star p) k j h r = none_under_way text p k r.0 h r.1
none_under_way text (plus p) k j h r = none_under_way text p k r.0 h r.1
none_under_way text (lookbehind n p) k j h r = r
none_under_way text (lookahead n p) k j h r = r

-- so at the first place, before which no way has begun, its marks are kept, where its lookaheads are told
pub kept_first : (text : List ℕ) (p : MarkedPattern) → is_clean p ≡ true → are_told p ≡ true → Kept (seen_from text) text p 0
kept_first text empty h w = tt
kept_first text (class m n rs) h w = tt
kept_first text (look l) h w = tt
kept_first text (cat p q) h w =
    (kept_first text p (and_left _ _ h) (and_left _ _ w), kept_first text q (and_right (is_clean p) _ h) (and_right (are_told p) _ w))
kept_first text (alt p q) h w =
    (kept_first text p (and_left _ _ h) (and_left _ _ w), kept_first text q (and_right (is_clean p) _ h) (and_right (are_told p) _ w))
kept_first text (star p) h w = kept_first text p h w
kept_first text (plus p) h w = kept_first text p h w
kept_first text (lookbehind n p) h w =
    (kept_first text p h w, λ j. (λ r. absurd (none_under_way text p 0 j h r), λ c. absurd (omega (arith, c.1))))
kept_first text (lookahead n p) h w = λ i within. glanced text i p w
