-- Lookaheads put aside: what is added to quests and asides, and how the numbers of the marks grow.
use Rattle.std.proofs.Common.{◌≡◌, ℕ, zero, suc, ◌+◌, ◌-◌, max, Bool, true, false, not, ◌||◌, if◌then◌else◌, List, [], ◌∷◌, ◌++◌, length, Option}
use Rattle.std.proofs.Common.{Some, None, slice_get, refl, sym, ap, subst, ◌∙◌, append-nil, true≢false, is_some, ◌==◌, arith}
use Rattle.std.proofs.lemmas.List.{append_assoc}
use Rattle.strkw_regex_core.specs.Tree.{start, end, boundary, no_boundary}
use Rattle.strkw_regex_core.specs.machine.MarkedPattern.{MarkedPattern, empty, class, look, cat, alt, star, plus, lookbehind, lookahead}
use Rattle.strkw_regex_core.specs.machine.Mirror.{mirror, mirror_if}
use Rattle.strkw_regex_core.specs.machine.Times.{Times, any_times, some_times, once_at_most, exact_times, least_times, range_times, repetition}
use Rattle.strkw_regex_core.specs.machine.Times.{quantified_pattern}
use Rattle.strkw_regex_core.specs.machine.Program.{is_empty, concat_copies}
use Rattle.strkw_regex_search.specs.machine.OraclePasses.{OracleQuery, IsToldAs, AreToldAs, IsAside, AreAsides, IsSmall, AreSmall, Puts, PutsAside, PutsLook}
use Rattle.strkw_regex_search.specs.machine.OraclePasses.{SetsAside, TellsAside}
use Rattle.strkw_regex_core.specs.machine.EquivalentPatterns.{EquivalentPatterns}
use Rattle.strkw_regex_core.specs.machine.Positions.{is_unmarked}
use Rattle.strkw_regex_search.specs.machine.OracleMarks.{slot, aside, spots, all_copies}
use Rattle.strkw_regex_core.specs.machine.Shape.{is_never}
use Rattle.strkw_regex_search.specs.machine.Seeking.{Seeking}
use Rattle.strkw_regex_core.proofs.PatternEquivalences.{alike_refl, alike_cat, alike_alt, alike_behind, alike_times}
use Rattle.strkw_regex_core.proofs.MirrorEquivalence.{counted_mirror, mirror_nothing}
use Rattle.strkw_regex_core.proofs.Shapes.{no_copy}
use Rattle.strkw_regex_search.proofs.Spread.{facing_steps}
use Rattle.strkw_charset.proofs.Booleans.{and_left}
use Rattle.strkw_regex_core.proofs.Unmarked.{facing_unmarked}

-- what stands at a place of a list stands there with more behind it
at_front : {A : Type 0} (xs ys : List A) (k : ℕ) (x : A) → slice_get xs k ≡ Some x → slice_get (xs ++ ys) k ≡ Some x
at_front [] ys k x e = absurd (true≢false (sym (ap is_some e)))
at_front (y ∷ xs) ys zero x e = e
at_front (y ∷ xs) ys (suc k) x e = at_front xs ys k x e

-- and what is put behind a list stands at its end
pub at_end : {A : Type 0} (xs : List A) (x : A) → slice_get (xs ++ (x ∷ [])) (length xs) ≡ Some x
at_end [] x = refl
at_end (y ∷ xs) x = at_end xs x

-- numbers
-- they say the same with more quests
one_more : (fs gs : List OracleQuery) (b : Bool) (t : Option ℕ) (s : Option MarkedPattern) → IsToldAs fs b t s → IsToldAs (fs ++ gs) b t s
one_more fs gs b None None u = tt
one_more fs gs b None (Some p) u = absurd u
one_more fs gs b (Some k) None u = absurd u
one_more fs gs b (Some k) (Some p) u = (u.0, at_front fs gs k u.0 u.1, u.2, u.3)

-- so do many with more quests
pub told_more : (fs gs : List OracleQuery) (b : Bool) (ts : List (Option ℕ)) (ss : List (Option MarkedPattern)) → AreToldAs fs b ts ss → AreToldAs (fs ++ gs) b ts ss
told_more fs gs b [] [] u = tt
told_more fs gs b [] (s ∷ ss) u = absurd u
told_more fs gs b (t ∷ ts) [] u = absurd u
told_more fs gs b (t ∷ ts) (s ∷ ss) u = (one_more fs gs b t s u.0, told_more fs gs b ts ss u.1)

-- lists of them one behind another
pub told_append : (fs : List OracleQuery) (b : Bool) (ts us : List (Option ℕ)) (ss rs : List (Option MarkedPattern)) → AreToldAs fs b ts ss → AreToldAs fs b us rs
    → AreToldAs fs b (ts ++ us) (ss ++ rs)
told_append fs b [] us [] rs u w = w
told_append fs b [] us (s ∷ ss) rs u w = absurd u
told_append fs b (t ∷ ts) us [] rs u w = absurd u
told_append fs b (t ∷ ts) us (s ∷ ss) rs u w = (u.0, told_append fs b ts us ss rs u.1 w)

-- and so often
told_copies : (n : ℕ) (fs : List OracleQuery) (b : Bool) (ts : List (Option ℕ)) (ss : List (Option MarkedPattern)) → AreToldAs fs b ts ss
    → AreToldAs fs b (concat_copies n ts) (concat_copies n ss)
told_copies zero fs b ts ss u = tt
told_copies (suc n) fs b ts ss u = told_append fs b ts (concat_copies n ts) ss (concat_copies n ss) u (told_copies n fs b ts ss u)

-- spots of what is repeated
copies_spots : (n : ℕ) (p : MarkedPattern) → spots (repetition n p) ≡ concat_copies n (spots p)
copies_spots zero p = refl
copies_spots (suc n) p = ap (λ (ss : List (Option MarkedPattern)). spots p ++ ss) (copies_spots n p)

-- copies and more copies
copied_more : {A : Type 0} (n m : ℕ) (xs : List A) → concat_copies n xs ++ concat_copies m xs ≡ concat_copies (n + m) xs
copied_more zero m xs = ap (λ (k : ℕ). concat_copies k xs) (omega arith)
copied_more (suc n) m xs =
    let next : suc (n + m) ≡ suc n + m = omega arith in
    append_assoc xs (concat_copies n xs) (concat_copies m xs) ∙ ap (λ ys. xs ++ ys) (copied_more n m xs) ∙ ap (λ (k : ℕ). concat_copies k xs) next

-- a list is one copy of it
copied_once : {A : Type 0} (xs : List A) → xs ≡ concat_copies 1 xs
copied_once xs = sym (append-nil xs)

-- the spots of a pattern with a quantifier are as many copies of its spots as it is copied
pub times_spots : (t : Times) (p : MarkedPattern) → spots (quantified_pattern t p) ≡ concat_copies (all_copies t) (spots p)
times_spots any_times p = copied_once (spots p)
times_spots some_times p = copied_once (spots p)
times_spots once_at_most p = copied_once (spots p)
times_spots (exact_times n) p = copies_spots n p
times_spots (least_times n) p =
    ap (λ (ss : List (Option MarkedPattern)). ss ++ spots p) (copies_spots n p)
    ∙ ap (λ (ss : List (Option MarkedPattern)). concat_copies n (spots p) ++ ss) (copied_once (spots p)) ∙ copied_more n 1 (spots p)
times_spots (range_times n m) p =
    let all : n + (m - n) ≡ max n m = omega arith in
    ap (λ (ss : List (Option MarkedPattern)). ss ++ spots (repetition (m - n) (alt empty p))) (copies_spots n p)
    ∙ ap (λ (ss : List (Option MarkedPattern)). concat_copies n (spots p) ++ ss) (copies_spots (m - n) (alt empty p)) ∙ copied_more n (m - n) (spots p)
    ∙ ap (λ (k : ℕ). concat_copies k (spots p)) all

-- what is repeated, with its lookaheads put aside, is what it repeats with them put aside, repeated
copies_aside : (n : ℕ) (p : MarkedPattern) → aside (repetition n p) ≡ repetition n (aside p)
copies_aside zero p = refl
copies_aside (suc n) p = ap (cat (aside p)) (copies_aside n p)

-- and with none of the marks set it is the pattern with none set, with the quantifier
pub times_aside : (t : Times) (p : MarkedPattern) → aside (quantified_pattern t p) ≡ quantified_pattern t (aside p)
times_aside any_times p = refl
times_aside some_times p = refl
times_aside once_at_most p = refl
times_aside (exact_times n) p = copies_aside n p
times_aside (least_times n) p = ap (λ (q : MarkedPattern). cat q (star (aside p))) (copies_aside n p)
times_aside (range_times n m) p =
    ap (λ (q : MarkedPattern). cat q (aside (repetition (m - n) (alt empty p)))) (copies_aside n p)
    ∙ ap (cat (repetition n (aside p))) (copies_aside (m - n) (alt empty p))

-- there are as many asides as quests
pub same_count : (ps : List OracleQuery) (xs : List Seeking) (gs : List OracleQuery) → AreAsides ps xs gs → length xs ≡ length gs
same_count ps [] [] u = refl
same_count ps [] (g ∷ gs) u = absurd u
same_count ps (x ∷ xs) [] u = absurd u
same_count ps (x ∷ xs) (g ∷ gs) u = omega (arith, same_count (ps ++ (g ∷ [])) xs gs u.1)

-- and one more, whose lookaheads are among them, makes more
pub one_aside : (ps : List OracleQuery) (xs : List Seeking) (gs : List OracleQuery) (x : Seeking) (f : OracleQuery) → AreAsides ps xs gs → IsAside (ps ++ gs) x f
    → AreAsides ps (xs ++ (x ∷ [])) (gs ++ (f ∷ []))
one_aside ps [] [] x f u w = (subst (λ (l : List OracleQuery). IsAside l x f) (append-nil ps) w, tt)
one_aside ps [] (g ∷ gs) x f u w = absurd u
one_aside ps (y ∷ xs) [] x f u w = absurd u
one_aside ps (y ∷ xs) (g ∷ gs) x f u w =
    (u.0, one_aside (ps ++ (g ∷ [])) xs gs x f u.1 (subst (λ (l : List OracleQuery). IsAside l x f) (sym (append_assoc ps (g ∷ []) gs)) w))

-- what is added is small together
small_append : (fs gs : List OracleQuery) → AreSmall fs → AreSmall gs → AreSmall (fs ++ gs)
small_append [] gs u w = w
small_append (f ∷ fs) gs u w = (u.0, small_append fs gs u.1 w)

-- one of two holds in either order
or_turned : (a b : Bool) → (a || b) ≡ (b || a)
or_turned true true = refl
or_turned true false = refl
or_turned false true = refl
or_turned false false = refl

-- a mirror's mirror is the pattern
pub mirror_twice : (p : MarkedPattern) → mirror (mirror p) ≡ p
mirror_twice empty = refl
mirror_twice (class m n rs) = refl
mirror_twice (look start) = refl
mirror_twice (look end) = refl
mirror_twice (look boundary) = refl
mirror_twice (look no_boundary) = refl
mirror_twice (cat p q) = by_test (is_empty p || is_empty q) refl (mirror_twice p) (mirror_twice q)
  where
    -- two mirrors, one of which is nothing where one of the patterns is
    same_test : (is_empty (mirror p) || is_empty (mirror q)) ≡ (is_empty p || is_empty q)
    same_test =
        ap (λ (x : Bool). x || is_empty (mirror q)) (mirror_nothing p) ∙ ap (λ (x : Bool). is_empty p || x) (mirror_nothing q)

    same_turned : (is_empty (mirror q) || is_empty (mirror p)) ≡ (is_empty p || is_empty q)
    same_turned = or_turned (is_empty (mirror q)) (is_empty (mirror p)) ∙ same_test

    -- by whether one of the two is nothing
    by_test : (b : Bool) → (is_empty p || is_empty q) ≡ b → mirror (mirror p) ≡ p → mirror (mirror q) ≡ q
        → mirror (if b then cat (mirror p) (mirror q) else cat (mirror q) (mirror p)) ≡ cat p q
    by_test true e u w =
        ap (λ (x : Bool). if x then cat (mirror (mirror p)) (mirror (mirror q)) else cat (mirror (mirror q)) (mirror (mirror p))) (same_test ∙ e)
        ∙ ap (λ (r : MarkedPattern). cat r (mirror (mirror q))) u ∙ ap (cat p) w
    by_test false e u w =
        ap (λ (x : Bool). if x then cat (mirror (mirror q)) (mirror (mirror p)) else cat (mirror (mirror p)) (mirror (mirror q))) (same_turned ∙ e)
        ∙ ap (λ (r : MarkedPattern). cat r (mirror (mirror q))) u ∙ ap (cat p) w
mirror_twice (alt p q) = ap (λ (r : MarkedPattern). alt r (mirror (mirror q))) (mirror_twice p) ∙ ap (alt p) (mirror_twice q)
mirror_twice (star p) = ap star (mirror_twice p)
mirror_twice (plus p) = ap plus (mirror_twice p)
mirror_twice (lookbehind n p) = ap (lookbehind n) (mirror_twice p)
mirror_twice (lookahead n p) = ap (lookahead n) (mirror_twice p)

-- so what is looked for from the other end is the mirror of what is looked for from this one
pub other_facing : (b : Bool) (p : MarkedPattern) → mirror_if (not b) p ≡ mirror (mirror_if b p)
other_facing false p = refl
other_facing true p = sym (mirror_twice p)

-- what is repeated is so from either end
pub times_facing : (b : Bool) (t : Times) (p made : MarkedPattern) → EquivalentPatterns made (mirror_if b p)
    → EquivalentPatterns (quantified_pattern t made) (mirror_if b (quantified_pattern t p))
times_facing false t p made u = alike_times t made p u
times_facing true t p made u = counted_mirror t p made u

-- and so are alternatives
pub alt_facing : (b : Bool) (p q : MarkedPattern) → mirror_if b (alt p q) ≡ alt (mirror_if b p) (mirror_if b q)
alt_facing false p q = refl
alt_facing true p q = refl

-- what is left of a pattern
module _ (b : Bool) (fs : List OracleQuery) where
  -- of one without lookaheads
  pub none_put : (made sought o : MarkedPattern) (xs : List Seeking) (old more new : List (Option ℕ)) → AreAsides [] xs fs → EquivalentPatterns made sought
      → o ≡ aside made → AreToldAs fs b more (spots made) → new ≡ old ++ more → Puts b sought o fs xs old new
  none_put made sought o xs old more new are like slotted told numbers = record {
    added = [];
    small = tt;
    asides = subst (AreAsides [] xs) (sym (append-nil fs)) are;
    made = made;
    alike = like;
    slotted = slotted;
    more = more;
    numbers = numbers;
    told = subst (λ (l : List OracleQuery). AreToldAs l b more (spots made)) (sym (append-nil fs)) told;
  }

  -- of two, one after the other
  module _ (p q o r s : MarkedPattern) (xs ys : List Seeking) (old mid new : List (Option ℕ)) (first : Puts b p o fs xs old mid)
      (second : Puts b q r (fs ++ first.added) ys mid new) where
    both_asides : AreAsides [] ys (fs ++ (first.added ++ second.added))
    both_asides = subst (AreAsides [] ys) (append_assoc fs first.added second.added) second.asides

    both_numbers : new ≡ old ++ (first.more ++ second.more)
    both_numbers =
        second.numbers ∙ ap (λ (l : List (Option ℕ)). l ++ second.more) first.numbers ∙ append_assoc old first.more second.more

    both_told : AreToldAs (fs ++ (first.added ++ second.added)) b (first.more ++ second.more) (spots first.made ++ spots second.made)
    both_told =
        subst (λ (l : List OracleQuery). AreToldAs l b (first.more ++ second.more) (spots first.made ++ spots second.made))
        (append_assoc fs first.added second.added)
        (told_append ((fs ++ first.added) ++ second.added) b first.more second.more (spots first.made) (spots second.made)
        (told_more (fs ++ first.added) second.added b first.more (spots first.made) first.told) second.told)

    pub both_put : s ≡ cat o r → Puts b (cat p q) s fs ys old new
    both_put is = record {
      added = first.added ++ second.added;
      small = small_append first.added second.added first.small second.small;
      asides = both_asides;
      made = cat first.made second.made;
      alike = alike_cat _ _ _ _ first.alike second.alike;
      slotted = is ∙ ap (λ (z : MarkedPattern). cat z r) first.slotted ∙ ap (cat (aside first.made)) second.slotted;
      more = first.more ++ second.more;
      numbers = both_numbers;
      told = both_told;
    }

    pub either_put : s ≡ alt o r → Puts b (alt p q) s fs ys old new
    either_put is = record {
      added = first.added ++ second.added;
      small = small_append first.added second.added first.small second.small;
      asides = both_asides;
      made = alt first.made second.made;
      alike = alike_alt _ _ _ _ first.alike second.alike;
      slotted = is ∙ ap (λ (z : MarkedPattern). alt z r) first.slotted ∙ ap (alt (aside first.made)) second.slotted;
      more = first.more ++ second.more;
      numbers = both_numbers;
      told = both_told;
    }

  -- of what is repeated, with the numbers of one copy
  pub times_put : (t : Times) (p o s : MarkedPattern) (xs : List Seeking) (own old new : List (Option ℕ)) → Puts b (mirror_if b p) o fs xs [] own
      → new ≡ old ++ concat_copies (all_copies t) own → s ≡ quantified_pattern t o → Puts b (mirror_if b (quantified_pattern t p)) s fs xs old new
  times_put t p o s xs own old new one numbers is =
      let told = told_copies (all_copies t) (fs ++ one.added) b one.more (spots one.made) one.told in
      record {
        added = one.added;
        small = one.small;
        asides = one.asides;
        made = quantified_pattern t one.made;
        alike = times_facing b t p one.made one.alike;
        slotted = is ∙ ap (quantified_pattern t) one.slotted ∙ sym (times_aside t one.made);
        more = concat_copies (all_copies t) one.more;
        numbers = numbers ∙ ap (λ (l : List (Option ℕ)). old ++ concat_copies (all_copies t) l) one.numbers;
        told = subst (AreToldAs (fs ++ one.added) b (concat_copies (all_copies t) one.more)) (sym (times_spots t one.made)) told;
      }

  -- of a lookbehind
  pub behind_put : (n : Bool) (p o s : MarkedPattern) (xs : List Seeking) (old new : List (Option ℕ)) → Puts b p o fs xs old new
      → s ≡ lookbehind n o → Puts b (lookbehind n p) s fs xs old new
  behind_put n p o s xs old new one is = record {
    added = one.added;
    small = one.small;
    asides = one.asides;
    made = lookbehind n one.made;
    alike = alike_behind n _ _ one.alike;
    slotted = is ∙ ap (lookbehind n) one.slotted;
    more = one.more;
    numbers = one.numbers;
    told = one.told;
  }

  -- of a lookahead, which gets a number
  pub ahead_put : (n : Bool) (p s : MarkedPattern) (k : ℕ) (xs : List Seeking) (old new : List (Option ℕ)) → TellsAside (not b) p k fs xs
      → new ≡ old ++ (Some k ∷ []) → s ≡ slot n false → Puts b (lookahead n (mirror_if b p)) s fs xs old new
  ahead_put n p s k xs old new one numbers is = record {
    added = one.added;
    small = one.small;
    asides = one.asides;
    made = lookahead n (mirror_if b p);
    alike = alike_refl _;
    slotted = is;
    more = Some k ∷ [];
    numbers = numbers;
    told = (
      (record { backward = not b; pattern = one.made }, one.is, refl, subst (EquivalentPatterns one.made) (other_facing b p) one.alike),
      tt,
    );
  }

  -- what is set aside gets the next number
  pub number_set : (p : MarkedPattern) (x : Seeking) (xs ys : List Seeking) (k : ℕ) → SetsAside b p x fs xs → k ≡ length xs → ys ≡ xs ++ (x ∷ [])
      → TellsAside b p k fs ys
  number_set p x xs ys k one k_is ys_are =
      let f : OracleQuery = record { backward = b; pattern = one.made } in
      let all : (fs ++ one.added) ++ (f ∷ []) ≡ fs ++ (one.added ++ (f ∷ [])) = append_assoc fs one.added (f ∷ []) in
      let count : k ≡ length (fs ++ one.added) = k_is ∙ same_count [] xs (fs ++ one.added) one.asides in
      record {
        added = one.added ++ (f ∷ []);
        small = small_append one.added (f ∷ []) one.small (one.made_small, tt);
        asides = subst (AreAsides [] ys) all
            (subst (λ (l : List Seeking). AreAsides [] l ((fs ++ one.added) ++ (f ∷ []))) (sym ys_are)
            (one_aside [] xs (fs ++ one.added) x f one.asides one.is));
        made = one.made;
        alike = one.alike;
        is = subst (λ (l : List OracleQuery). slice_get l k ≡ Some f) all
            (subst (λ (n : ℕ). slice_get ((fs ++ one.added) ++ (f ∷ [])) n ≡ Some f) (sym count) (at_end (fs ++ one.added) f));
      }

  -- and what is left of a pattern is set aside
  pub set_put : (p o : MarkedPattern) (x : Seeking) (xs : List Seeking) (new : List (Option ℕ)) → Puts b (mirror_if b p) o fs xs [] new → is_unmarked p ≡ true
      → IsSmall p → x.backward ≡ b → x.pattern ≡ o → x.told ≡ new → SetsAside b p x fs xs
  set_put p o x xs new one bare small way pattern_is told_is = record {
    added = one.added;
    small = one.small;
    asides = one.asides;
    made = one.made;
    alike = one.alike;
    made_small = omega (arith, one.alike.apart, facing_steps b p, small);
    is = record {
      backward = way;
      bare = one.alike.clean ∙ facing_unmarked b p bare;
      slotted = pattern_is ∙ one.slotted;
      told = subst (λ (l : List (Option ℕ)). AreToldAs (fs ++ one.added) b l (spots one.made)) (sym (told_is ∙ one.numbers)) one.told;
    };
  }

-- by which way a search goes
-- a lookbehind is one for what is behind the search along the text, or ahead of that from its end on
pub behind_faced : (b n : Bool) (p o : MarkedPattern) (fs : List OracleQuery) (xs : List Seeking) (old new : List (Option ℕ))
    → PutsLook b n b p o fs xs old new → PutsAside b (lookbehind n p) o fs xs old new
behind_faced false n p o fs xs old new u = u
behind_faced true n p o fs xs old new u = u

-- and a lookahead is so the other way round
pub ahead_faced : (b n : Bool) (p o : MarkedPattern) (fs : List OracleQuery) (xs : List Seeking) (old new : List (Option ℕ))
    → PutsLook (not b) n b p o fs xs old new → PutsAside b (lookahead n p) o fs xs old new
ahead_faced false n p o fs xs old new u = u
ahead_faced true n p o fs xs old new u = u

-- what takes no copy of what it repeats is the same, whatever that is
pub never_copied : (t : Times) (p : MarkedPattern) → is_never t ≡ true → quantified_pattern t empty ≡ aside (quantified_pattern t p)
never_copied any_times p h = absurd (true≢false (sym h))
never_copied some_times p h = absurd (true≢false (sym h))
never_copied once_at_most p h = absurd (true≢false (sym h))
never_copied (exact_times zero) p h = refl
never_copied (exact_times (suc n)) p h = absurd (no_copy n h)
never_copied (least_times n) p h = absurd (true≢false (sym h))
never_copied (range_times zero zero) p h = refl
never_copied (range_times zero (suc m)) p h = absurd (no_copy m h)
never_copied (range_times (suc n) m) p h = absurd (no_copy n (and_left (suc n == 0) _ h))

-- and has no class
pub never_spots : (t : Times) (p : MarkedPattern) → is_never t ≡ true → spots (quantified_pattern t p) ≡ []
never_spots any_times p h = absurd (true≢false (sym h))
never_spots some_times p h = absurd (true≢false (sym h))
never_spots once_at_most p h = absurd (true≢false (sym h))
never_spots (exact_times zero) p h = refl
never_spots (exact_times (suc n)) p h = absurd (no_copy n h)
never_spots (least_times n) p h = absurd (true≢false (sym h))
never_spots (range_times zero zero) p h = refl
never_spots (range_times zero (suc m)) p h = absurd (no_copy m h)
never_spots (range_times (suc n) m) p h = absurd (no_copy n (and_left (suc n == 0) _ h))
