-- Patterns of parts that come to the same come to the same.
use Rattle.std.proofs.Common.{◌≡◌, ℕ, zero, suc, ◌-◌, ◌+◌, Bool, true, false, ◌&&◌, [], refl, sym, ap, ◌∙◌, inl, inr, ⊎_elim, true≢false, arith}
use Rattle.strkw_regex_core.specs.machine.MarkedPattern.{MarkedPattern, empty, class, look, cat, alt, star, plus, lookbehind, lookahead}
use Rattle.strkw_regex_core.specs.machine.MarkedMeaning.{Rounds, no_round, a_round, Matches}
use Rattle.strkw_regex_core.specs.machine.Times.{Times, any_times, some_times, once_at_most, exact_times, least_times, range_times, repetition}
use Rattle.strkw_regex_core.specs.machine.Times.{quantified_pattern}
use Rattle.strkw_regex_core.specs.machine.Program.{is_class, is_empty, alternatives}
use Rattle.strkw_regex_core.specs.machine.OneCharLookahead.{is_glance, are_told}
use Rattle.strkw_regex_core.specs.machine.ProgramSteps.{steps_of, steps, spread}
use Rattle.strkw_regex_core.specs.machine.EquivalentPatterns.{EquivalentPatterns}
use Rattle.strkw_regex_core.proofs.Mirrors.{unless_same}
use Rattle.strkw_regex_core.proofs.Sizes.{cat_steps, alt_steps, beside_steps, star_steps, plus_steps, behind_steps, ahead_steps, glance_alt_steps}
use Rattle.strkw_charset.proofs.Booleans.{and_left, and_right}

-- each pattern is like itself
pub alike_refl : (p : MarkedPattern) → EquivalentPatterns p p
alike_refl p = record {
  meaning = λ text i j. (λ m. m, λ m. m);
  nothing = refl;
  class = refl;
  sees = refl;
  told = refl;
  clean = refl;
  steps = λ t. refl;
  beside = λ t. refl;
  glance_steps = λ g. refl;
  apart = refl;
  apart_beside = refl;
}

-- and like all that what is like it is like
pub alike_trans : (p q r : MarkedPattern) → EquivalentPatterns p q → EquivalentPatterns q r → EquivalentPatterns p r
alike_trans p q r u w = record {
  meaning = λ text i j. (
    λ m. (w.meaning text i j).0 ((u.meaning text i j).0 m),
    λ m. (u.meaning text i j).1 ((w.meaning text i j).1 m),
  );
  nothing = u.nothing ∙ w.nothing;
  class = u.class ∙ w.class;
  sees = u.sees ∙ w.sees;
  told = u.told ∙ w.told;
  clean = u.clean ∙ w.clean;
  steps = λ t. u.steps (w.told ∙ t) ∙ w.steps t;
  beside = λ t. u.beside (w.told ∙ t) ∙ w.beside t;
  glance_steps = λ g. u.glance_steps (w.sees ∙ g) ∙ w.glance_steps g;
  apart = u.apart ∙ w.apart;
  apart_beside = u.apart_beside ∙ w.apart_beside;
}

-- both of two are the same where each is
pub both_same : (a b c d : Bool) → a ≡ c → b ≡ d → (a && b) ≡ (c && d)
both_same a b c d e f = ap (λ (x : Bool). x && b) e ∙ ap (λ (x : Bool). c && x) f

-- patterns one behind the other
pub alike_cat : (p q r s : MarkedPattern) → EquivalentPatterns p r → EquivalentPatterns q s → EquivalentPatterns (cat p q) (cat r s)
alike_cat p q r s u w =
    let same : are_told (cat r s) ≡ true → steps (cat p q) ≡ steps (cat r s) =
    λ t. omega (arith, cat_steps p q, cat_steps r s, u.steps (and_left _ _ t), w.steps (and_right (are_told r) _ t)) in
    let wide : steps (spread (cat p q)) ≡ steps (spread (cat r s)) =
    omega (arith, cat_steps (spread p) (spread q), cat_steps (spread r) (spread s), u.apart, w.apart) in
    record {
      meaning = λ text i j. (
        λ m. (m.0, (u.meaning text i m.0).0 m.1, (w.meaning text m.0 j).0 m.2),
        λ m. (m.0, (u.meaning text i m.0).1 m.1, (w.meaning text m.0 j).1 m.2),
      );
      nothing = refl;
      class = refl;
      sees = both_same _ _ _ _ u.nothing w.sees;
      told = both_same _ _ _ _ u.told w.told;
      clean = both_same _ _ _ _ u.clean w.clean;
      steps = same;
      beside = same;
      glance_steps = λ g. w.glance_steps (and_right (is_empty r) _ g);
      apart = wide;
      apart_beside = wide;
    }

-- of one class that may be missing, the steps are its own
pub option_class : (p q : MarkedPattern) → (is_empty p && is_class q) ≡ true → steps (alt p q) ≡ steps q
option_class empty (class m n rs) h = refl
option_class empty _ h = absurd (true≢false (sym h))
option_class _ q h = absurd (true≢false (sym h))

-- alternatives of as many steps, the first nothing and the second a class where those are, take as many
pub alt_same : (p q r s : MarkedPattern) → is_empty p ≡ is_empty r → is_class q ≡ is_class s
    → steps_of (alternatives p) ≡ steps_of (alternatives r) → steps q ≡ steps s → steps (alt p q) ≡ steps (alt r s)
alt_same p q r s nothing classes beside same = by_option (is_empty p && is_class q) refl
  where
    -- by whether they are a class that may be missing
    by_option : (b : Bool) → (is_empty p && is_class q) ≡ b → steps (alt p q) ≡ steps (alt r s)
    by_option true e = option_class p q e ∙ same ∙ sym (option_class r s (sym (both_same _ _ _ _ nothing classes) ∙ e))
    by_option false e = omega (arith, alt_steps p q e, alt_steps r s (sym (both_same _ _ _ _ nothing classes) ∙ e), beside, same)

-- a mark beside what lookarounds look for makes nothing of what is something
pub spread_nothing : (p : MarkedPattern) → is_empty (spread p) ≡ is_empty p
spread_nothing empty = refl
spread_nothing (class m n rs) = refl
spread_nothing (look l) = refl
spread_nothing (cat p q) = refl
spread_nothing (alt p q) = refl
spread_nothing (star p) = refl
spread_nothing (plus p) = refl
spread_nothing (lookbehind n p) = refl
spread_nothing (lookahead n p) = refl

-- and no class of what is none
pub spread_class : (p : MarkedPattern) → is_class (spread p) ≡ is_class p
spread_class empty = refl
spread_class (class m n rs) = refl
spread_class (look l) = refl
spread_class (cat p q) = refl
spread_class (alt p q) = refl
spread_class (star p) = refl
spread_class (plus p) = refl
spread_class (lookbehind n p) = refl
spread_class (lookahead n p) = refl

-- alternatives
pub alike_alt : (p q r s : MarkedPattern) → EquivalentPatterns p r → EquivalentPatterns q s → EquivalentPatterns (alt p q) (alt r s)
alike_alt p q r s u w = record {
  meaning = λ text i j. (
    λ m. ⊎_elim (λ n. inl ((u.meaning text i j).0 n)) (λ n. inr ((w.meaning text i j).0 n)) m,
    λ m. ⊎_elim (λ n. inl ((u.meaning text i j).1 n)) (λ n. inr ((w.meaning text i j).1 n)) m,
  );
  nothing = refl;
  class = refl;
  sees = both_same _ _ _ _ u.sees w.sees;
  told = both_same _ _ _ _ u.told w.told;
  clean = both_same _ _ _ _ u.clean w.clean;
  steps = λ t. alt_same p q r s u.nothing w.class (u.beside (and_left _ _ t)) (w.steps (and_right (are_told r) _ t));
  beside = λ t. omega (arith, beside_steps p q, beside_steps r s, u.beside (and_left _ _ t), w.steps (and_right (are_told r) _ t));
  glance_steps = λ g.
      omega (arith, glance_alt_steps p q, glance_alt_steps r s, u.glance_steps (and_left _ _ g), w.glance_steps (and_right (is_glance r) _ g));
  apart =
      alt_same (spread p) (spread q) (spread r) (spread s) (spread_nothing p ∙ u.nothing ∙ sym (spread_nothing r))
      (spread_class q ∙ w.class ∙ sym (spread_class s)) u.apart_beside w.apart;
  apart_beside =
      omega (arith, beside_steps (spread p) (spread q), beside_steps (spread r) (spread s), u.apart_beside, w.apart);
}

-- rounds of what leads from place to place as another does
rounds_alike : (R S : ℕ → ℕ → Type 0) → ((i j : ℕ) → R i j → S i j) → (j i : ℕ) → Rounds R j i → Rounds S j i
rounds_alike R S f j i (no_round _ e) = no_round i e
rounds_alike R S f j i (a_round _ l m rs) = a_round i l (f i l m) (rounds_alike R S f j l rs)

-- a class that is repeated takes its own steps
pub star_class : (p : MarkedPattern) → is_class p ≡ true → steps (star p) ≡ steps p
star_class (class m n rs) h = refl
star_class _ h = absurd (true≢false (sym h))

-- a class once or more takes the steps of the class
pub plus_class : (p : MarkedPattern) → is_class p ≡ true → steps (plus p) ≡ steps p
plus_class (class m n rs) h = refl
plus_class _ h = absurd (true≢false (sym h))

-- so what takes as many steps, and is a class where the other is, takes as many where it is repeated
pub star_same : (p r : MarkedPattern) → is_class p ≡ is_class r → steps p ≡ steps r → steps (star p) ≡ steps (star r)
star_same p r classes same = by_class (is_class p) refl
  where
    by_class : (b : Bool) → is_class p ≡ b → steps (star p) ≡ steps (star r)
    by_class true e = star_class p e ∙ same ∙ sym (star_class r (sym classes ∙ e))
    by_class false e = omega (arith, star_steps p e, star_steps r (sym classes ∙ e), same)

-- once or more, patterns of as many steps take as many, where both are classes or neither is
pub plus_same : (p r : MarkedPattern) → is_class p ≡ is_class r → steps p ≡ steps r → steps (plus p) ≡ steps (plus r)
plus_same p r classes same = by_class (is_class p) refl
  where
    by_class : (b : Bool) → is_class p ≡ b → steps (plus p) ≡ steps (plus r)
    by_class true e = plus_class p e ∙ same ∙ sym (plus_class r (sym classes ∙ e))
    by_class false e = omega (arith, plus_steps p e, plus_steps r (sym classes ∙ e), same)

-- what is repeated without end
pub alike_star : (p r : MarkedPattern) → EquivalentPatterns p r → EquivalentPatterns (star p) (star r)
alike_star p r u =
    let wide = star_same (spread p) (spread r) (spread_class p ∙ u.class ∙ sym (spread_class r)) u.apart in
    record {
      meaning = λ text i j. (
        rounds_alike (Matches text p) (Matches text r) (λ x y. (u.meaning text x y).0) j i,
        rounds_alike (Matches text r) (Matches text p) (λ x y. (u.meaning text x y).1) j i,
      );
      nothing = refl;
      class = refl;
      sees = refl;
      told = u.told;
      clean = u.clean;
      steps = λ t. star_same p r u.class (u.steps t);
      beside = λ t. star_same p r u.class (u.steps t);
      glance_steps = λ g. absurd (true≢false (sym g));
      apart = wide;
      apart_beside = wide;
    }

-- once or more, patterns that are alike are alike
pub alike_plus : (p r : MarkedPattern) → EquivalentPatterns p r → EquivalentPatterns (plus p) (plus r)
alike_plus p r u =
    let wide = plus_same (spread p) (spread r) (spread_class p ∙ u.class ∙ sym (spread_class r)) u.apart in
    record {
      meaning = λ text i j. (
        λ m. (m.0, (u.meaning text i m.0).0 m.1, rounds_alike (Matches text p) (Matches text r) (λ x y. (u.meaning text x y).0) j m.0 m.2),
        λ m. (m.0, (u.meaning text i m.0).1 m.1, rounds_alike (Matches text r) (Matches text p) (λ x y. (u.meaning text x y).1) j m.0 m.2),
      );
      nothing = refl;
      class = refl;
      sees = refl;
      told = u.told;
      clean = u.clean;
      steps = λ t. plus_same p r u.class (u.steps t);
      beside = λ t. plus_same p r u.class (u.steps t);
      glance_steps = λ g. absurd (true≢false (sym g));
      apart = wide;
      apart_beside = wide;
    }

-- what a lookaround looks for, with a mark beside it, takes three steps more
pub spread_look : (n : Bool) (p : MarkedPattern) → steps (lookbehind n (cat (class false false []) p)) ≡ steps p + 3
spread_look n p =
    let mark : steps (class false false []) ≡ 1 = refl in
    omega (arith, behind_steps n (cat (class false false []) p), cat_steps (class false false []) p, mark)

-- lookarounds
pub alike_behind : (n : Bool) (p r : MarkedPattern) → EquivalentPatterns p r → EquivalentPatterns (lookbehind n p) (lookbehind n r)
alike_behind n p r u = record {
  meaning = λ text i j. (
    λ m. (unless_same n _ _ (λ a. (a.0, (u.meaning text a.0 i).0 a.1), λ a. (a.0, (u.meaning text a.0 i).1 a.1)) m.0, m.1),
    λ m. (unless_same n _ _ (λ a. (a.0, (u.meaning text a.0 i).1 a.1), λ a. (a.0, (u.meaning text a.0 i).0 a.1)) m.0, m.1),
  );
  nothing = refl;
  class = refl;
  sees = refl;
  told = u.told;
  clean = u.clean;
  steps = λ t. omega (arith, behind_steps n p, behind_steps n r, u.steps t);
  beside = λ t. omega (arith, behind_steps n p, behind_steps n r, u.steps t);
  glance_steps = λ g. absurd (true≢false (sym g));
  apart = omega (arith, spread_look n (spread p), spread_look n (spread r), u.apart);
  apart_beside = omega (arith, spread_look n (spread p), spread_look n (spread r), u.apart);
}

-- lookaheads for patterns that are alike are alike
pub alike_ahead : (n : Bool) (p r : MarkedPattern) → EquivalentPatterns p r → EquivalentPatterns (lookahead n p) (lookahead n r)
alike_ahead n p r u = record {
  meaning = λ text i j. (
    λ m. (unless_same n _ _ (λ a. (a.0, (u.meaning text i a.0).0 a.1), λ a. (a.0, (u.meaning text i a.0).1 a.1)) m.0, m.1),
    λ m. (unless_same n _ _ (λ a. (a.0, (u.meaning text i a.0).1 a.1), λ a. (a.0, (u.meaning text i a.0).0 a.1)) m.0, m.1),
  );
  nothing = refl;
  class = refl;
  sees = u.sees;
  told = u.sees;
  clean = u.clean;
  steps = λ t. omega (arith, ahead_steps n p, ahead_steps n r, u.glance_steps t);
  beside = λ t. omega (arith, ahead_steps n p, ahead_steps n r, u.glance_steps t);
  glance_steps = λ t. omega (arith, ahead_steps n p, ahead_steps n r, u.glance_steps t);
  apart = omega (arith, spread_look n (spread p), spread_look n (spread r), u.apart);
  apart_beside = omega (arith, spread_look n (spread p), spread_look n (spread r), u.apart);
}

-- what is repeated
alike_repeated : (n : ℕ) (p r : MarkedPattern) → EquivalentPatterns p r → EquivalentPatterns (repetition n p) (repetition n r)
alike_repeated zero p r u = alike_refl empty
alike_repeated (suc n) p r u = alike_cat _ _ _ _ u (alike_repeated n p r u)

-- with a quantifier, patterns that are alike are alike
pub alike_times : (t : Times) (p r : MarkedPattern) → EquivalentPatterns p r → EquivalentPatterns (quantified_pattern t p) (quantified_pattern t r)
alike_times any_times p r u = alike_star p r u
alike_times some_times p r u = alike_plus p r u
alike_times once_at_most p r u = alike_alt _ _ _ _ (alike_refl empty) u
alike_times (exact_times n) p r u = alike_repeated n p r u
alike_times (least_times n) p r u = alike_cat _ _ _ _ (alike_repeated n p r u) (alike_star p r u)
alike_times (range_times n m) p r u =
    alike_cat _ _ _ _ (alike_repeated n p r u) (alike_repeated (m - n) _ _ (alike_alt _ _ _ _ (alike_refl empty) u))
