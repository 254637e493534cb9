-- Each match of a pattern reads the character that is seen to be needed, so in a text without it the pattern is not
-- found.
use Rattle.std.proofs.Common.{◌≡◌, ◌⊎◌, ℕ, zero, suc, ◌-◌, ◌<◌, ◌≤◌, nat_lt, ◌==◌, Bool, true, false, ◌&&◌, List, [], ◌∷◌, reverse, Option, Some}
use Rattle.std.proofs.Common.{None, slice_get, if◌then◌else◌, length, get_or, true≢false, refl, sym, ap, subst, ◌∙◌, inl, inr, ⊎_elim, arith}
use Rattle.std.specs.Prelude.{◌≢◌, is_some, not}
use Rattle.std.proofs.lemmas.Bool.{false_from_ne_true}
use Rattle.std.proofs.lemmas.Bool.Decides.{nat_tests}
use Rattle.std.proofs.lemmas.List.{reverse-append}
use Rattle.std.proofs.lemmas.Option.{cond_some, none-some, same_Some}
use Rattle.memchr.specs.Find.{IsFirstByte, is_byte}
use Rattle.strkw_text.specs.Delimiters.{Without}
use Rattle.strkw_text.proofs.Delimiters.{Without-append}
use Rattle.strkw_regex_core.specs.machine.MarkedPattern.{MarkedPattern, empty, class, look, cat, alt, star, plus, lookbehind, lookahead}
use Rattle.strkw_charset.specs.Membership.{in_sets, is_member}
use Rattle.strkw_regex_core.specs.machine.OneCharLookahead.{are_told}
use Rattle.strkw_regex_core.specs.machine.MarkedMeaning.{Matches}
use Rattle.strkw_regex_core.specs.machine.Mirror.{along}
use Rattle.strkw_regex_core.specs.machine.Times.{Times, any_times, some_times, once_at_most, exact_times, least_times, range_times, repetition}
use Rattle.strkw_regex_core.specs.machine.Times.{quantified_pattern}
use Rattle.strkw_regex_core.specs.machine.Positions.{is_clean}
use Rattle.strkw_ecma.specs.machine.RequiredByte.{only_character, later, common, is_sure, needed_char}
use Rattle.strkw_regex_search.specs.machine.Search.{search_from}
use Rattle.strkw_charset.specs.declared.tree.CharSet.{CharSet}
use Rattle.strkw_charset.specs.declared.tree.CharSet.TheVariants.{Range, Property}
use Rattle.strkw_regex_search.proofs.Answers.{search_is_exact}
use Rattle.strkw_charset.proofs.Booleans.{and_left, and_right}
use Rattle.strkw_regex_core.proofs.Steps.{forwards, rounds_forwards}

-- the character is one of ASCII, and sets have no other
abbrev IsOnly : (ℕ → Bool) → ℕ → Type 0
IsOnly has c = (c < 128) × ((d : ℕ) → has d ≡ true → d ≡ c)

-- so is the one that they are seen to have
only_right : (rs : List CharSet) (c : ℕ) → only_character rs ≡ Some c → IsOnly (in_sets rs) c
only_right [] c e = absurd (none-some c e)
only_right (Range low high ∷ []) c e =
    let is = cond_some (low == high && nat_lt low 128) low c e in
    let same : (low == high) ≡ true = and_left (low == high) _ is.0 in
    let ascii : nat_lt low 128 ≡ true = and_right (low == high) _ is.0 in
    let is_low : low ≡ c = is.1 in
    (grind (arith, nat_tests), λ d inside. grind (arith, nat_tests))
only_right (Property lacked p ∷ []) c e = absurd (none-some c e)
only_right (r ∷ s ∷ rs) c e = absurd (none-some c e)

-- and the one of a class
class_right : (n : Bool) (rs : List CharSet) (c : ℕ) → (if n then None else only_character rs) ≡ Some c → IsOnly (is_member n rs) c
class_right true rs c e = absurd (none-some c e)
class_right false rs c e = only_right rs c e

-- the later of two is one of them
later_is : (first second : Option ℕ) (c : ℕ) → later first second ≡ Some c → (second ≡ Some c) ⊎ (first ≡ Some c)
later_is first None c e = inr e
later_is first (Some d) c e = inl e

-- what two have in common is both of them
common_is : (one other : Option ℕ) (c : ℕ) → common one other ≡ Some c → (one ≡ Some c) × (other ≡ Some c)
common_is None other c e = absurd (none-some c e)
common_is (Some d) None c e = absurd (none-some c e)
common_is (Some d) (Some f) c e =
    let is = cond_some (d == f) d c e in
    let same : (d == f) ≡ true = is.0 in
    let both : d ≡ f = grind (arith, nat_tests) in
    (ap Some is.1, ap Some (sym both ∙ is.1))

-- what is needed is a character of ASCII
pub needed_ascii : (p : MarkedPattern) (c : ℕ) → needed_char p ≡ Some c → c < 128
needed_ascii empty c e = absurd (none-some c e)
needed_ascii (class m n rs) c e = (class_right n rs c e).0
needed_ascii (look l) c e = absurd (none-some c e)
needed_ascii (cat p q) c e = ⊎_elim (needed_ascii q c) (needed_ascii p c) (later_is (needed_char p) (needed_char q) c e)
needed_ascii (alt p q) c e = needed_ascii p c (common_is (needed_char p) (needed_char q) c e).0
needed_ascii (star p) c e = absurd (none-some c e)
needed_ascii (plus p) c e = needed_ascii p c e
needed_ascii (lookbehind n p) c e = absurd (none-some c e)
needed_ascii (lookahead n p) c e = absurd (none-some c e)

module _ (text : List ℕ) (c : ℕ) where
  -- it stands from one place on and before another
  abbrev pub StandsIn : ℕ → ℕ → Type 0
  StandsIn i j = (k : ℕ) × (i ≤ k) × (k < j) × (slice_get text k ≡ Some c)

  -- so it does where a match reads that needs it
  pub needed_read : (p : MarkedPattern) (i j : ℕ) → needed_char p ≡ Some c → Matches text p i j → StandsIn i j
  needed_read empty i j e m = absurd (none-some c e)
  needed_read (class m n rs) i j e (d, there, has, next) =
      (i, omega arith, omega (arith, next), there ∙ ap Some ((class_right n rs c e).1 d has))
  needed_read (look l) i j e m = absurd (none-some c e)
  needed_read (cat p q) i j e (l, m, n) =
      ⊎_elim (λ f. let r = needed_read q l j f n in (r.0, omega (arith, r.1, forwards text p i l m), r.2, r.3))
      (λ f. let r = needed_read p i l f m in (r.0, r.1, omega (arith, r.2, forwards text q l j n), r.3))
      (later_is (needed_char p) (needed_char q) c e)
  needed_read (alt p q) i j e (inl m) = needed_read p i j (common_is (needed_char p) (needed_char q) c e).0 m
  needed_read (alt p q) i j e (inr m) = needed_read q i j (common_is (needed_char p) (needed_char q) c e).1 m
  needed_read (star p) i j e m = absurd (none-some c e)
  needed_read (plus p) i j e (l, m, s) =
      let r = needed_read p i l e m in
      (r.0, r.1, omega (arith, r.2, rounds_forwards (Matches text p) (forwards text p) j l s), r.3)
  needed_read (lookbehind n p) i j e m = absurd (none-some c e)
  needed_read (lookahead n p) i j e m = absurd (none-some c e)

-- in a text without a character it stands at no place
stands_nowhere : (text : List ℕ) (c k : ℕ) → Without c text → slice_get text k ≡ Some c → ⊥
stands_nowhere [] c k w e = none-some c e
stands_nowhere (d ∷ ds) c zero w e = w.0 (same_Some d c e)
stands_nowhere (d ∷ ds) c (suc k) w e = stands_nowhere ds c k w.1 e

-- and the text turned round is without it too
without_turned : (c : ℕ) → c < 128 → (text : List ℕ) → Without c text → Without c (reverse text)
without_turned c low [] w = tt
without_turned c low (d ∷ ds) w =
    subst (Without c) (sym (reverse-append (d ∷ []) ds)) (Without-append c low (reverse ds) (d ∷ []) (without_turned c low ds w.1) (w.0, tt))

-- a text without the character is without it in either direction
without_along : (c : ℕ) → c < 128 → (b : Bool) (text : List ℕ) → Without c text → Without c (along b text)
without_along c low false text w = w
without_along c low true text w = without_turned c low text w

-- a pattern without marks, whose lookaheads are told
-- is not found from either end of a text without the character that it needs
pub ruled_out : (p : MarkedPattern) (c : ℕ) (text : List ℕ) (b : Bool) → is_clean p ≡ true → are_told p ≡ true → needed_char p ≡ Some c → Without c text
    → search_from p None (along b text) ≡ false
ruled_out p c text b clean told e w = false_from_ne_true _ (λ found.
    let at = (search_is_exact p (along b text) clean told).0 found in
    let read = needed_read (along b text) c p at.0 at.1 e at.3 in
    stands_nowhere (along b text) c read.0 (without_along c (needed_ascii p c e) b text w) read.3)

-- where a search for a byte finds none, it is at no place
pub no_byte : (byte : ℕ) (hay : List ℕ) (r : Option ℕ) (none : Bool) → IsFirstByte (is_byte byte) hay r → is_some r ≡ not none → none ≡ true
    → (k : ℕ) → k < length hay → get_or hay k 0 ≢ byte
no_byte byte hay None none h e is k within here =
    let same : (get_or hay k 0 == byte) ≡ true = grind (arith, nat_tests) in
    h k (omega arith) within same
no_byte byte hay (Some i) none h e is k within here = absurd (true≢false (e ∙ ap not is))

-- of copies
-- the later of two that are the same is that one
later_same : (o : Option ℕ) → later o o ≡ o
later_same None = refl
later_same (Some c) = refl

-- copies need what one needs
copies_need : (n : ℕ) (p : MarkedPattern) → needed_char (repetition (suc n) p) ≡ needed_char p
copies_need zero p = refl
copies_need (suc n) p = ap (later (needed_char p)) (copies_need n p) ∙ later_same (needed_char p)

-- those that may be missing need nothing
options_need : (n : ℕ) (p : MarkedPattern) → needed_char (repetition n (alt empty p)) ≡ None
options_need zero p = refl
options_need (suc n) p = ap (later None) (options_need n p)

-- one copy more than some is one at least
some_copy : (n : ℕ) → nat_lt 0 (suc n) ≡ true
some_copy n = grind (arith, nat_tests)

-- so what is repeated needs what it repeats, where it takes a copy at least
pub times_need : (t : Times) (p : MarkedPattern) → (if is_sure t then needed_char p else None) ≡ needed_char (quantified_pattern t p)
times_need any_times p = refl
times_need some_times p = refl
times_need once_at_most p = refl
times_need (exact_times zero) p = refl
times_need (exact_times (suc n)) p = ap (λ (b : Bool). if b then needed_char p else None) (some_copy n) ∙ sym (copies_need n p)
times_need (least_times zero) p = refl
times_need (least_times (suc n)) p = ap (λ (b : Bool). if b then needed_char p else None) (some_copy n) ∙ sym (copies_need n p)
times_need (range_times zero m) p = sym (ap (later None) (options_need (m - zero) p))
times_need (range_times (suc n) m) p =
    ap (λ (b : Bool). if b then needed_char p else None) (some_copy n)
    ∙ sym (ap (later (needed_char (repetition (suc n) p))) (options_need (m - suc n) p) ∙ copies_need n p)
