-- Each pattern has searches that find it, whatever its lookarounds, and that take no more steps than are counted for
-- it.
use Rattle.std.proofs.Common.{◌≡◌, ℕ, ◌+◌, ◌*◌, ◌≤◌, Bool, true, false, not, ◌||◌, List, [], ◌∷◌, ◌++◌, length, Option, Some, None, slice_get}
use Rattle.std.proofs.Common.{if◌then◌else◌, append-nil, refl, sym, ap, subst, ◌∙◌, arith}
use Rattle.std.proofs.lemmas.List.{append_assoc}
use Rattle.std.proofs.lemmas.Nat.{mul-le}
use Rattle.strkw_regex_core.specs.machine.MarkedPattern.{MarkedPattern, empty, class, look, cat, alt, star, plus, lookbehind, lookahead}
use Rattle.strkw_regex_core.specs.machine.MarkedMeaning.{Found}
use Rattle.strkw_regex_core.specs.Mirror.{mirror_look}
use Rattle.strkw_regex_core.specs.machine.Mirror.{mirror, mirror_if}
use Rattle.strkw_regex_core.specs.machine.Program.{is_empty, is_class, alternatives}
use Rattle.strkw_regex_core.specs.machine.ProgramSteps.{steps_of, steps, spread}
use Rattle.strkw_regex_search.specs.machine.OraclePasses.{OracleQuery, AreToldAs, IsAside, AreAsides}
use Rattle.strkw_regex_search.specs.machine.Counted.{IsSoughtWithin}
use Rattle.strkw_regex_core.specs.machine.Positions.{is_unmarked}
use Rattle.strkw_regex_core.specs.machine.EquivalentPatterns.{EquivalentPatterns}
use Rattle.strkw_regex_search.specs.machine.Seeking.{Seeking}
use Rattle.strkw_regex_search.specs.machine.OracleMarks.{slot, aside, spots}
use Rattle.strkw_regex_search.proofs.Answers.{same_answer}
use Rattle.strkw_regex_core.proofs.PatternEquivalences.{alike_refl, spread_look, spread_nothing, spread_class}
use Rattle.strkw_regex_core.proofs.MirrorEquivalence.{mirror_nothing, mirror_class}
use Rattle.strkw_regex_search.proofs.FoundIn.{found_in_right}
use Rattle.strkw_regex_search.proofs.PassCost.{total, seeking_answer, seeking_steps}
use Rattle.strkw_regex_search.proofs.OracleSplit.{at_end, mirror_twice, one_aside, told_append, told_more}
use Rattle.strkw_regex_core.proofs.Sizes.{cat_steps, beside_steps, behind_steps}
use Rattle.strkw_regex_search.proofs.OracleCorrect.{is_sought_right}
use Rattle.strkw_regex_search.proofs.Spread.{aside_nothing, aside_class, fewer_alt, fewer_star, fewer_plus}
use Rattle.strkw_charset.proofs.Booleans.{and_left, and_right}
use Rattle.strkw_regex_core.proofs.Unmarked.{facing_unmarked}

-- steps of lists
total_append : (xs ys : List Seeking) → total (xs ++ ys) ≡ total xs + total ys
total_append [] ys = omega arith
total_append (x ∷ xs) ys = omega (arith, total_append xs ys)

-- Some searches more tell the lookaheads of a pattern r, and take so many steps.
pub record Tells (b : Bool) (r : MarkedPattern) (fs : List OracleQuery) (xs : List Seeking) (t : ℕ) : Type 0 where
  pub added : List OracleQuery
  pub more : List Seeking
  pub asides : AreAsides [] (xs ++ more) (fs ++ added)
  pub numbers : List (Option ℕ)
  pub told : AreToldAs (fs ++ added) b numbers (spots r)
  pub takes : total more ≡ t

-- there are such, behind any others
abbrev pub CanTell : Bool → MarkedPattern → ℕ → Type 0
CanTell b r t = (fs : List OracleQuery) (xs : List Seeking) → AreAsides [] xs fs → Tells b r fs xs t

-- none are needed for a pattern without lookaheads
none_needed : (b : Bool) (r : MarkedPattern) (numbers : List (Option ℕ)) → ((fs : List OracleQuery) → AreToldAs fs b numbers (spots r)) → CanTell b r 0
none_needed b r numbers told = λ fs xs are. record {
  added = [];
  more = [];
  asides = subst (λ (l : List Seeking). AreAsides [] l (fs ++ [])) (sym (append-nil xs)) (subst (AreAsides [] xs) (sym (append-nil fs)) are);
  numbers = numbers;
  told = told (fs ++ []);
  takes = refl;
}

-- those of two, one after the other
two_tell : (b : Bool) (r s : MarkedPattern) (fs : List OracleQuery) (xs : List Seeking) (t u : ℕ) → Tells b r fs xs t → CanTell b s u
    → (added : List OracleQuery) × (more : List Seeking) × AreAsides [] (xs ++ more) (fs ++ added) × (numbers : List (Option ℕ))
    × AreToldAs (fs ++ added) b numbers (spots r ++ spots s) × (total more ≡ t + u)
two_tell b r s fs xs t u one can =
    let two = can (fs ++ one.added) (xs ++ one.more) one.asides in
    let quests : (fs ++ one.added) ++ two.added ≡ fs ++ (one.added ++ two.added) = append_assoc fs one.added two.added in
    let all : (xs ++ one.more) ++ two.more ≡ xs ++ (one.more ++ two.more) = append_assoc xs one.more two.more in (
      one.added ++ two.added,
      one.more ++ two.more,
      subst (AreAsides [] (xs ++ (one.more ++ two.more))) quests
          (subst (λ (l : List Seeking). AreAsides [] l ((fs ++ one.added) ++ two.added)) all two.asides),
      one.numbers ++ two.numbers,
      subst (λ (l : List OracleQuery). AreToldAs l b (one.numbers ++ two.numbers) (spots r ++ spots s)) quests
          (told_append ((fs ++ one.added) ++ two.added) b one.numbers two.numbers (spots r) (spots s)
          (told_more (fs ++ one.added) two.added b one.numbers (spots r) one.told) two.told),
      total_append one.more two.more ∙ omega (arith, one.takes, two.takes),
    )

-- there are such for a sequence where there are for both parts, and they take the steps of both
cat_tells : (b : Bool) (r s : MarkedPattern) (t u : ℕ) → CanTell b r t → CanTell b s u → CanTell b (cat r s) (t + u)
cat_tells b r s t u one two = λ fs xs are.
    let both = two_tell b r s fs xs t u (one fs xs are) two in
    record { added = both.0; more = both.1; asides = both.2; numbers = both.3; told = both.4; takes = both.5 }

-- and so for two alternatives
alt_tells : (b : Bool) (r s : MarkedPattern) (t u : ℕ) → CanTell b r t → CanTell b s u → CanTell b (alt r s) (t + u)
alt_tells b r s t u one two = λ fs xs are.
    let both = two_tell b r s fs xs t u (one fs xs are) two in
    record { added = both.0; more = both.1; asides = both.2; numbers = both.3; told = both.4; takes = both.5 }

-- those of a body
same_tells : (b : Bool) (r s : MarkedPattern) (t : ℕ) → spots s ≡ spots r → CanTell b r t → CanTell b s t
same_tells b r s t same one = λ fs xs are.
    let tells = one fs xs are in
    record {
      added = tells.added;
      more = tells.more;
      asides = tells.asides;
      numbers = tells.numbers;
      told = subst (AreToldAs (fs ++ tells.added) b tells.numbers) (sym same) tells.told;
      takes = tells.takes;
    }

-- that of a lookahead: its own, told by those of its lookaheads
ahead_tells : (b n : Bool) (q r : MarkedPattern) (t : ℕ) → EquivalentPatterns r (mirror q) → is_unmarked r ≡ true → CanTell (not b) r t
    → CanTell b (lookahead n q) (t + steps (aside r))
ahead_tells b n q r t like bare can = λ fs xs are.
    let one = can fs xs are in
    let f : OracleQuery = record { backward = not b; pattern = r } in
    let x : Seeking = record { backward = not b; pattern = aside r; told = one.numbers } in
    let is : IsAside (fs ++ one.added) x f = record { backward = refl; bare = bare; slotted = refl; told = one.told } in
    let quests : (fs ++ one.added) ++ (f ∷ []) ≡ fs ++ (one.added ++ (f ∷ [])) = append_assoc fs one.added (f ∷ []) in
    let all : (xs ++ one.more) ++ (x ∷ []) ≡ xs ++ (one.more ++ (x ∷ [])) = append_assoc xs one.more (x ∷ []) in
    record {
      added = one.added ++ (f ∷ []);
      more = one.more ++ (x ∷ []);
      asides = subst (AreAsides [] (xs ++ (one.more ++ (x ∷ [])))) quests
          (subst (λ (l : List Seeking). AreAsides [] l ((fs ++ one.added) ++ (f ∷ []))) all
          (one_aside [] (xs ++ one.more) (fs ++ one.added) x f one.asides is));
      numbers = Some (length (fs ++ one.added)) ∷ [];
      told = (
        (f, subst (λ (l : List OracleQuery). slice_get l (length (fs ++ one.added)) ≡ Some f) quests (at_end (fs ++ one.added) f), refl, like),
        tt,
      );
      takes = total_append one.more (x ∷ []) ∙ omega (arith, one.takes);
    }

-- The searches for a pattern, and what is left of it, take no more steps than are counted.
pub record IsTold (b : Bool) (p : MarkedPattern) : Type 0 where
  pub t : ℕ
  pub can : CanTell b (mirror_if b p) t
  pub fits : t + steps (aside (mirror_if b p)) ≤ steps (spread p)
  pub beside : t + steps_of (alternatives (aside (mirror_if b p))) ≤ steps_of (alternatives (spread p))

-- what is nothing, or a class, is so from either end
facing_nothing : (b : Bool) (p : MarkedPattern) → is_empty (mirror_if b p) ≡ is_empty p
facing_nothing false p = refl
facing_nothing true p = mirror_nothing p

-- a pattern is a class from either end exactly where it is one
facing_class : (b : Bool) (p : MarkedPattern) → is_class (mirror_if b p) ≡ is_class p
facing_class false p = refl
facing_class true p = mirror_class p

-- of two, one behind the other, in either order
module _ (p q : MarkedPattern) where
  -- there are such for what is left of both, in no more steps than both have with their marks
  cat_told : (b : Bool) (r s : MarkedPattern) (t u : ℕ) → CanTell b r t → CanTell b s u
      → (t + u) + (steps (aside r) + steps (aside s)) ≤ steps (spread p) + steps (spread q)
      → (v : ℕ) × CanTell b (cat r s) v × (v + steps (aside (cat r s)) ≤ steps (spread (cat p q)))
  cat_told b r s t u one two w = (
    t + u,
    cat_tells b r s t u one two,
    omega (arith, cat_steps (aside r) (aside s), cat_steps (spread p) (spread q), w),
  )

  -- so two are told where each is, in either direction
  told_cat : (b : Bool) → IsTold b p → IsTold b q → IsTold b (cat p q)
  told_cat false u w =
      let all = cat_told false p q u.t w.t u.can w.can (omega (arith, u.fits, w.fits)) in
      record { t = all.0; can = all.1; fits = all.2; beside = all.2 }
  told_cat true u w = by_test (is_empty p || is_empty q) refl
    where
      by_test : (c : Bool) → (is_empty p || is_empty q) ≡ c → IsTold true (cat p q)
      by_test true e =
          let all = cat_told true (mirror p) (mirror q) u.t w.t u.can w.can (omega (arith, u.fits, w.fits)) in
          let is : cat (mirror p) (mirror q) ≡ mirror (cat p q) =
          sym (ap (λ (x : Bool). if x then cat (mirror p) (mirror q) else cat (mirror q) (mirror p)) e) in
          let fits : all.0 + steps (aside (mirror (cat p q))) ≤ steps (spread (cat p q)) =
          subst (λ (r : MarkedPattern). all.0 + steps (aside r) ≤ steps (spread (cat p q))) is all.2 in
          record {
            t = all.0;
            can = subst (λ (r : MarkedPattern). CanTell true r all.0) is all.1;
            fits = fits;
            beside = subst (λ (r : MarkedPattern). all.0 + steps_of (alternatives (aside r)) ≤ steps (spread (cat p q))) is all.2;
          }
      by_test false e =
          let all = cat_told true (mirror q) (mirror p) w.t u.t w.can u.can (omega (arith, u.fits, w.fits)) in
          let is : cat (mirror q) (mirror p) ≡ mirror (cat p q) =
          sym (ap (λ (x : Bool). if x then cat (mirror p) (mirror q) else cat (mirror q) (mirror p)) e) in
          record {
            t = all.0;
            can = subst (λ (r : MarkedPattern). CanTell true r all.0) is all.1;
            fits = subst (λ (r : MarkedPattern). all.0 + steps (aside r) ≤ steps (spread (cat p q))) is all.2;
            beside = subst (λ (r : MarkedPattern). all.0 + steps_of (alternatives (aside r)) ≤ steps (spread (cat p q))) is all.2;
          }

  -- of alternatives
  told_alt : (b : Bool) (r s : MarkedPattern) (t u : ℕ) → is_empty r ≡ is_empty p → is_class s ≡ is_class q → CanTell b r t → CanTell b s u
      → t + steps_of (alternatives (aside r)) ≤ steps_of (alternatives (spread p)) → u + steps (aside s) ≤ steps (spread q)
      → (CanTell b (alt r s) (t + u))
      × (t + u + steps (aside (alt r s)) ≤ steps (spread (alt p q)))
      × (t + u + steps_of (alternatives (aside (alt r s))) ≤ steps_of (alternatives (spread (alt p q))))
  told_alt b r s t u nothing classes one two beside fits = (
    alt_tells b r s t u one two,
    fewer_alt t u (aside r) (aside s) (spread p) (spread q) (aside_nothing r ∙ nothing ∙ sym (spread_nothing p))
        (aside_class s ∙ classes ∙ sym (spread_class q)) beside fits,
    omega (arith, beside_steps (aside r) (aside s), beside_steps (spread p) (spread q), beside, fits),
  )

-- each pattern is told so, from either end
pub told_so : (p : MarkedPattern) → is_unmarked p ≡ true → (b : Bool) → IsTold b p
told_so empty h false = record { t = 0; can = none_needed false empty [] (λ fs. tt); fits = omega arith; beside = omega arith }
told_so empty h true = record { t = 0; can = none_needed true empty [] (λ fs. tt); fits = omega arith; beside = omega arith }
told_so (class m n rs) h false =
    record { t = 0; can = none_needed false (class m n rs) (None ∷ []) (λ fs. (tt, tt)); fits = omega arith; beside = omega arith }
told_so (class m n rs) h true =
    record { t = 0; can = none_needed true (class m n rs) (None ∷ []) (λ fs. (tt, tt)); fits = omega arith; beside = omega arith }
told_so (look l) h false = record { t = 0; can = none_needed false (look l) [] (λ fs. tt); fits = omega arith; beside = omega arith }
told_so (look l) h true =
    record { t = 0; can = none_needed true (look (mirror_look l)) [] (λ fs. tt); fits = omega arith; beside = omega arith }
told_so (cat p q) h b = told_cat p q b (told_so p (and_left _ _ h) b) (told_so q (and_right (is_unmarked p) _ h) b)
told_so (alt p q) h false =
    let u = told_so p (and_left _ _ h) false in
    let w = told_so q (and_right (is_unmarked p) _ h) false in
    let all = told_alt p q false p q u.t w.t refl refl u.can w.can u.beside w.fits in
    record { t = u.t + w.t; can = all.0; fits = all.1; beside = all.2 }
told_so (alt p q) h true =
    let u = told_so p (and_left _ _ h) true in
    let w = told_so q (and_right (is_unmarked p) _ h) true in
    let all = told_alt p q true (mirror p) (mirror q) u.t w.t (mirror_nothing p) (mirror_class q) u.can w.can u.beside w.fits in
    record { t = u.t + w.t; can = all.0; fits = all.1; beside = all.2 }
told_so (star p) h false =
    let u = told_so p h false in
    let fits = fewer_star u.t (aside p) (spread p) (aside_class p ∙ sym (spread_class p)) u.fits in
    record { t = u.t; can = same_tells false p (star p) u.t refl u.can; fits = fits; beside = fits }
told_so (star p) h true =
    let u = told_so p h true in
    let fits = fewer_star u.t (aside (mirror p)) (spread p) (aside_class (mirror p) ∙ mirror_class p ∙ sym (spread_class p)) u.fits in
    record { t = u.t; can = same_tells true (mirror p) (star (mirror p)) u.t refl u.can; fits = fits; beside = fits }
told_so (plus p) h false =
    let u = told_so p h false in
    let fits = fewer_plus u.t (aside p) (spread p) (aside_class p ∙ sym (spread_class p)) u.fits in
    record { t = u.t; can = same_tells false p (plus p) u.t refl u.can; fits = fits; beside = fits }
told_so (plus p) h true =
    let u = told_so p h true in
    let fits = fewer_plus u.t (aside (mirror p)) (spread p) (aside_class (mirror p) ∙ mirror_class p ∙ sym (spread_class p)) u.fits in
    record { t = u.t; can = same_tells true (mirror p) (plus (mirror p)) u.t refl u.can; fits = fits; beside = fits }
told_so (lookbehind n p) h false =
    let u = told_so p h false in
    let fits : u.t + steps (lookbehind n (aside p)) ≤ steps (spread (lookbehind n p)) =
    omega (arith, behind_steps n (aside p), spread_look n (spread p), u.fits) in
    record { t = u.t; can = same_tells false p (lookbehind n p) u.t refl u.can; fits = fits; beside = fits }
told_so (lookbehind n p) h true =
    let u = told_so p h false in
    let mark : steps (class false false []) ≡ 1 = refl in
    let fits : u.t + steps (aside p) + steps (slot n false) ≤ steps (spread (lookbehind n p)) =
    omega (arith, behind_steps n (class false false []), mark, spread_look n (spread p), u.fits) in
    record {
      t = u.t + steps (aside p);
      can = ahead_tells true n (mirror p) p u.t (subst (EquivalentPatterns p) (sym (mirror_twice p)) (alike_refl p)) h u.can;
      fits = fits;
      beside = fits;
    }
told_so (lookahead n p) h false =
    let u = told_so p h true in
    let mark : steps (class false false []) ≡ 1 = refl in
    let fits : u.t + steps (aside (mirror p)) + steps (slot n false) ≤ steps (spread (lookahead n p)) =
    omega (arith, behind_steps n (class false false []), mark, spread_look n (spread p), u.fits) in
    record {
      t = u.t + steps (aside (mirror p));
      can = ahead_tells false n p (mirror p) u.t (alike_refl (mirror p)) (facing_unmarked true p h) u.can;
      fits = fits;
      beside = fits;
    }
told_so (lookahead n p) h true =
    let u = told_so p h true in
    let fits : u.t + steps (lookbehind n (aside (mirror p))) ≤ steps (spread (lookahead n p)) =
    omega (arith, behind_steps n (aside (mirror p)), spread_look n (spread p), u.fits) in
    record { t = u.t; can = same_tells true (mirror p) (lookbehind n (mirror p)) u.t refl u.can; fits = fits; beside = fits }

-- so a pattern is sought within twice its steps with a mark beside what each lookaround looks for
pub sought_within : (most : ℕ) (p : MarkedPattern) (text : List ℕ) → is_unmarked p ≡ true → 2 * steps (spread p) ≤ most → IsSoughtWithin most p text
sought_within most p text bare few =
    let told = told_so p bare false in
    let tells = told.can [] [] tt in
    let f : OracleQuery = record { backward = false; pattern = p } in
    let x : Seeking = record { backward = false; pattern = aside p; told = tells.numbers } in
    let is : IsAside tells.added x f = record { backward = refl; bare = bare; slotted = refl; told = tells.told } in
    let found = is_sought_right text tells.more tells.added x f tells.asides is in
    let within : 2 * (total tells.more + steps (aside p)) ≤ most = omega (arith, tells.takes, told.fits, few) in
    record {
      searches = tells.more;
      last = x;
      answer = seeking_answer text tells.more x ∙ same_answer (Found p text) _ _ found (found_in_right p text bare);
      steps = times_within _ most (length text + 1) _ (seeking_steps text tells.more x) within;
    }
  where
    -- a product is within another where its first factor is
    times_within : (a most n s : ℕ) → s ≡ a * n → a ≤ most → s ≤ most * n
    times_within a most n s is h = subst (λ (z : ℕ). z ≤ most * n) (sym is) (mul-le a n most n h (omega arith))
