-- The matchers of the standard succeed exactly where a pattern matches and the continuation succeeds.
use Rattle.std.proofs.Common.{◌≡◌, ◌↔◌, ℕ, zero, suc, ◌+◌, ◌-◌, ◌≤◌, ◌==◌, Bool, true, false, not, ◌&&◌, ◌||◌, List, length, Option, Some, None}
use Rattle.std.proofs.Common.{IfSome, if◌then◌else◌, slice_get, get_or, arith, inl, inr, ⊎_elim, refl, sym, ap, subst, ◌∙◌, true≢false}
use Rattle.std.specs.Prelude.{option_map}
use Rattle.std.proofs.lemmas.Bool.{eqb-true, eq-eqb}
use Rattle.std.proofs.lemmas.Option.{slice_get-get_or, slice_get_past}
use Rattle.strkw_charset.specs.Membership.{is_member, differ}
use Rattle.strkw_charset.specs.declared.tree.CharSet.{CharSet}
use Rattle.strkw_charset.proofs.Booleans.{and_true, and_left, and_right, or_case, or_left, or_right}
use Rattle.strkw_regex_core.specs.Tree.{Look, start, end, boundary, no_boundary, Pattern, empty, class, look, cat, alt, repeat, lookbehind, lookahead}
use Rattle.strkw_regex_core.specs.Meaning.{Rounds, before, is_edge, holds, Unless, Matches, Found}
use Rattle.strkw_regex_core.specs.Matchers.{Direction, forward, backward, Continuation, Matcher, has_char, class_matcher, is_zero, repeat_matcher}
use Rattle.strkw_regex_core.specs.Matchers.{is_asserted, look_matcher, matcher, AreOrdered}
use Rattle.strkw_regex_core.proofs.Places.{forwards, stays, rounds_back}
use Rattle.strkw_regex_core.proofs.Search.{before_next}
use Rattle.strkw_regex_core.proofs.Steps.{unless_differs}

-- a matcher succeeds exactly where its relation leads from the place to one where the continuation does, up to the last place
abbrev pub IsExact : ℕ → Matcher → (ℕ → ℕ → Type 0) → Type 0
IsExact last m R = (x : ℕ) (c : Continuation) → x ≤ last → (m x c ≡ true) ↔ ((y : ℕ) × R x y × (c y ≡ true))

-- between the least and the most rounds lead from one place to the other
abbrev pub Counted : (ℕ → ℕ → Type 0) → ℕ → Option ℕ → ℕ → ℕ → Type 0
Counted R min max x y = (n : ℕ) × (min ≤ n) × IfSome max (λ k. n ≤ k) × Rounds R n x y

-- a number that is not zero is one at least
positive : (n : ℕ) → (n == 0) ≡ false → 1 ≤ n
positive zero e = absurd (true≢false e)
positive (suc n) e = omega arith

-- where no more rounds may come, none has to
none_left : (min : ℕ) (max : Option ℕ) → is_zero max ≡ true → IfSome max (λ k. min ≤ k) → min ≤ 0
none_left min None e o = absurd (true≢false (sym e))
none_left min (Some k) e o = omega (arith, eqb-true k 0 e, o)

-- no round is within any most
no_round : (max : Option ℕ) → IfSome max (λ k. 0 ≤ k)
no_round None = tt
no_round (Some k) = omega arith

-- behind one round one less has to come, and one less may
less : (a : ℕ) (max : Option ℕ) → IfSome max (λ k. a ≤ k) → IfSome (option_map (λ n. n - 1) max) (λ k. a - 1 ≤ k)
less a None o = tt
less a (Some k) o = omega (arith, o)

-- and at most as many as are left of one more
left : (n : ℕ) (max : Option ℕ) → IfSome max (λ k. suc n ≤ k) → IfSome (option_map (λ n. n - 1) max) (λ k. n ≤ k)
left n None o = tt
left n (Some k) o = omega (arith, o)

-- and with it there is one more
more : (n : ℕ) (max : Option ℕ) → is_zero max ≡ false → IfSome (option_map (λ n. n - 1) max) (λ k. n ≤ k) → IfSome max (λ k. suc n ≤ k)
more n None e o = tt
more n (Some k) e o = omega (arith, positive k e, o)

-- what may come once more may come
fewer : (n : ℕ) (max : Option ℕ) → IfSome max (λ k. suc n ≤ k) → IfSome max (λ k. n ≤ k)
fewer n None o = tt
fewer n (Some k) o = omega (arith, o)

-- Here the matcher of one round leads to no place that is farther from the end of its direction, and where it reads something,
-- to one that is nearer.
module _ (m : Matcher) (R : ℕ → ℕ → Type 0) (last : ℕ) (far : ℕ → ℕ) (exact : IsExact last m R)
    (within : (x y : ℕ) → x ≤ last → R x y → y ≤ last)
    (nearer : (x y : ℕ) → x ≤ last → R x y → far y ≤ far x)
    (reads : (x y : ℕ) → x ≤ last → R x y → (y == x) ≡ false → suc (far y) ≤ far x) where
  -- behind one round
  abbrev behind : ℕ → ℕ → Option ℕ → ℕ → Continuation → Continuation
  behind calls min max x c = λ y. not (min == 0 && y == x) && repeat_matcher m calls (min - 1) (option_map (λ n. n - 1) max) y c

  -- where the matcher of one round and the rest behind it succeed, there is one round more
  one_round : (calls min : ℕ) (max : Option ℕ) (x : ℕ) (c : Continuation) → x ≤ last → IfSome max (λ k. min ≤ k) → is_zero max ≡ false
      → ((l : ℕ) → l ≤ last → repeat_matcher m calls (min - 1) (option_map (λ n. n - 1) max) l c ≡ true
      → (y : ℕ) × Counted R (min - 1) (option_map (λ n. n - 1) max) l y × (c y ≡ true))
      → m x (behind calls min max x c) ≡ true → (y : ℕ) × Counted R min max x y × (c y ≡ true)
  one_round calls min max x c w o e again g =
      let found = (exact x (behind calls min max x c) w).0 g in
      let l = found.0 in
      let rest = again l (within x l w found.1) (and_right (not (min == 0 && l == x)) _ found.2) in
      (rest.0, (suc rest.1.0, omega (arith, rest.1.1), more rest.1.0 max e rest.1.2, (l, found.1, rest.1.3)), rest.2)

  -- RepeatMatcher succeeds only where there are so many rounds
  sound : (calls min : ℕ) (max : Option ℕ) (x : ℕ) (c : Continuation) → x ≤ last → IfSome max (λ k. min ≤ k)
      → repeat_matcher m calls min max x c ≡ true → (y : ℕ) × Counted R min max x y × (c y ≡ true)
  sound zero min max x c w o h = absurd (true≢false (sym h))
  sound (suc calls) min max x c w o h =
      by_max (is_zero max) refl (λ l v. sound calls (min - 1) (option_map (λ n. n - 1) max) l c v (less min max o)) h
    where
      -- with no round
      none : min ≤ 0 → c x ≡ true → (y : ℕ) × Counted R min max x y × (c y ≡ true)
      none z g = (x, (0, z, no_round max, refl), g)

      -- by whether a round has to come
      by_min : (b : Bool) → is_zero max ≡ false → (min == 0) ≡ b
          → ((l : ℕ) → l ≤ last → repeat_matcher m calls (min - 1) (option_map (λ n. n - 1) max) l c ≡ true
          → (y : ℕ) × Counted R (min - 1) (option_map (λ n. n - 1) max) l y × (c y ≡ true))
          → (if b then m x (behind calls min max x c) || c x else m x (behind calls min max x c)) ≡ true
          → (y : ℕ) × Counted R min max x y × (c y ≡ true)
      by_min true e z again g =
          ⊎_elim (one_round calls min max x c w o e again) (none (omega (arith, eqb-true min 0 z))) (or_case (m x (behind calls min max x c)) (c x) g)
      by_min false e z again g = one_round calls min max x c w o e again g

      -- and whether one may
      by_max : (b : Bool) → is_zero max ≡ b
          → ((l : ℕ) → l ≤ last → repeat_matcher m calls (min - 1) (option_map (λ n. n - 1) max) l c ≡ true
          → (y : ℕ) × Counted R (min - 1) (option_map (λ n. n - 1) max) l y × (c y ≡ true))
          → (if b then c x else if min == 0 then m x (behind calls min max x c) || c x else m x (behind calls min max x c)) ≡ true
          → (y : ℕ) × Counted R min max x y × (c y ≡ true)
      by_max true e again g = none (none_left min max e o) g
      by_max false e again g = by_min (min == 0) e refl again g

  -- where a round leads on, and the rest succeeds behind it, so does the whole
  round : (calls min : ℕ) (max : Option ℕ) (x l : ℕ) (c : Continuation) → x ≤ last → is_zero max ≡ false → R x l
      → behind calls min max x c l ≡ true → repeat_matcher m (suc calls) min max x c ≡ true
  round calls min max x l c w e r go = by_max (is_zero max) e
    where
      led : m x (behind calls min max x c) ≡ true
      led = (exact x (behind calls min max x c) w).1 (l, r, go)

      -- by whether one has to come
      by_min : (b : Bool) → (if b then m x (behind calls min max x c) || c x else m x (behind calls min max x c)) ≡ true
      by_min true = or_left (m x (behind calls min max x c)) (c x) led
      by_min false = led

      -- and whether one may
      by_max : (b : Bool) → b ≡ false
          → (if b then c x else if min == 0 then m x (behind calls min max x c) || c x else m x (behind calls min max x c)) ≡ true
      by_max true e = absurd (true≢false e)
      by_max false e = by_min (min == 0)

  -- and where no round has to come, and the continuation succeeds here
  stop : (calls min : ℕ) (max : Option ℕ) (x : ℕ) (c : Continuation) → min ≤ 0 → c x ≡ true → repeat_matcher m (suc calls) min max x c ≡ true
  stop calls min max x c z g = by_max (is_zero max)
    where
      -- by whether one has to come
      by_min : (b : Bool) → (min == 0) ≡ b → (if b then m x (behind calls min max x c) || c x else m x (behind calls min max x c)) ≡ true
      by_min true e = or_right (m x (behind calls min max x c)) (c x) g
      by_min false e = absurd (omega (arith, z, positive min e))

      -- and whether one may
      by_max : (b : Bool) → (if b then c x else if min == 0 then m x (behind calls min max x c) || c x else m x (behind calls min max x c)) ≡ true
      by_max true = g
      by_max false = by_min (min == 0) refl

  -- a round may come where one more than some may
  may : (n : ℕ) (max : Option ℕ) → IfSome max (λ k. suc n ≤ k) → is_zero max ≡ false
  may n None o = refl
  may n (Some k) o = by_zero (k == 0) refl
    where
      -- by whether there is none
      by_zero : (b : Bool) → (k == 0) ≡ b → b ≡ false
      by_zero true e = absurd (omega (arith, eqb-true k 0 e, o))
      by_zero false e = refl

  -- so RepeatMatcher succeeds where there are so many rounds: those that read nothing and are not required are left out
  complete : (n calls min : ℕ) (max : Option ℕ) (x y : ℕ) (c : Continuation) → x ≤ last → min ≤ n → IfSome max (λ k. n ≤ k) → min + far x + 1 ≤ calls
      → Rounds R n x y → c y ≡ true → repeat_matcher m calls min max x c ≡ true
  complete n zero min max x y c w a o k rs g = absurd (omega (arith, k))
  complete zero (suc calls) min max x y c w a o k e g = stop calls min max x c (omega (arith, a)) (subst (λ (z : ℕ). c z ≡ true) (sym e) g)
  complete (suc n) (suc calls) min max x y c w a o k (l, r, rs) g =
      by_test (min == 0) (l == x) refl refl
      (λ enough. complete n calls (min - 1) (option_map (λ n. n - 1) max) l y c (within x l w r) (omega (arith, a)) (left n max o) enough rs g)
      (λ z e. complete n (suc calls) min max x y c w (omega (arith, z)) (fewer n max o) k (subst (λ (i : ℕ). Rounds R n i y) e rs) g)
    where
      -- the round is not left out, where few enough calls are left behind it
      turn : (b same : Bool) → (min == 0) ≡ b → (l == x) ≡ same → (b && same) ≡ false
          → repeat_matcher m calls (min - 1) (option_map (λ n. n - 1) max) l c ≡ true → repeat_matcher m (suc calls) min max x c ≡ true
      turn b same z e none rest =
          let go : not (min == 0 && l == x) ≡ true =
          ap (λ (q : Bool). not (q && l == x)) z ∙ ap (λ (q : Bool). not (b && q)) e ∙ ap not none in
          round calls min max x l c w (may n max o) r (and_true _ _ go rest)

      -- by whether it is required, and whether it reads something
      by_test : (b same : Bool) → (min == 0) ≡ b → (l == x) ≡ same
          → ((min - 1) + far l + 1 ≤ calls → repeat_matcher m calls (min - 1) (option_map (λ n. n - 1) max) l c ≡ true)
          → (min ≡ 0 → l ≡ x → repeat_matcher m (suc calls) min max x c ≡ true) → repeat_matcher m (suc calls) min max x c ≡ true
      by_test true true z e next skip = skip (eqb-true min 0 z) (eqb-true l x e)
      by_test true false z e next skip = turn true false z e refl (next (omega (arith, eqb-true min 0 z, reads x l w r e, k)))
      by_test false same z e next skip = turn false same z e refl (next (omega (arith, positive min z, nearer x l w r, k)))

  -- RepeatMatcher leads where so many rounds do
  pub repeats : (calls min : ℕ) (max : Option ℕ) → IfSome max (λ k. min ≤ k) → ((x : ℕ) → x ≤ last → min + far x + 1 ≤ calls)
      → IsExact last (repeat_matcher m calls min max) (Counted R min max)
  repeats calls min max o enough x c w = (
    sound calls min max x c w o,
    λ f. complete f.1.0 calls min max x f.0 c w f.1.1 f.1.2 (enough x w) f.1.3 f.2,
  )

-- the matcher of a lookaround leads from a place to itself, where what it looks for is there, or is not
looked : (n : Bool) (last : ℕ) (m : Matcher) (R : ℕ → ℕ → Type 0) → IsExact last m R
    → IsExact last (look_matcher n m) (λ x y. Unless n ((k : ℕ) × R x k) × (x ≡ y))
looked n last m R exact x c w =
    let there : (m x (λ y. true) ≡ true) ↔ ((k : ℕ) × R x k) =
    (λ h. let f = (exact x (λ y. true) w).0 h in (f.0, f.1), λ f. (exact x (λ y. true) w).1 (f.0, f.1, refl)) in
    let says = unless_differs n (m x (λ y. true)) _ there in (
      λ h. (x, (says.0 (and_left _ _ h), refl), and_right (differ n (m x (λ y. true))) _ h),
      λ f. and_true _ _ (says.1 f.1.0) (subst (λ (z : ℕ). c z ≡ true) (sym f.1.1) f.2),
    )

-- as it leads to the same place, it does so from there
stays_there : (n : Bool) (R : ℕ → ℕ → Type 0) (x y : ℕ) → Unless n ((k : ℕ) × R x k) × (x ≡ y) → Unless n ((k : ℕ) × R y k) × (y ≡ x)
stays_there n R x y f = (subst (λ (z : ℕ). Unless n ((k : ℕ) × R z k)) f.1 f.0, sym f.1)

-- and back
stays_back : (n : Bool) (R : ℕ → ℕ → Type 0) (x y : ℕ) → Unless n ((k : ℕ) × R y k) × (y ≡ x) → Unless n ((k : ℕ) × R x k) × (x ≡ y)
stays_back n R x y f = (subst (λ (z : ℕ). Unless n ((k : ℕ) × R z k)) f.1 f.0, sym f.1)

-- of what leads from place to place, the second is handed the continuation of the first
sequenced : (last : ℕ) (m1 m2 : Matcher) (R S : ℕ → ℕ → Type 0) → ((x y : ℕ) → x ≤ last → R x y → y ≤ last) → IsExact last m1 R → IsExact last m2 S
    → IsExact last (λ x c. m1 x (λ y. m2 y c)) (λ x y. (l : ℕ) × R x l × S l y)
sequenced last m1 m2 R S within first second x c w = (
  λ h.
      let one = (first x (λ y. m2 y c) w).0 h in
      let two = (second one.0 c (within x one.0 w one.1)).0 one.2 in
      (two.0, (one.0, one.1, two.1), two.2),
  λ f. (first x (λ y. m2 y c) w).1 (f.1.0, f.1.1, (second f.1.0 c (within x f.1.0 w f.1.1)).1 (f.0, f.1.2, f.2)),
)

-- what leads to the same places as another leads to is as exact
led_as : (last : ℕ) (m : Matcher) (R S : ℕ → ℕ → Type 0) → ((x y : ℕ) → R x y → S x y) → ((x y : ℕ) → S x y → R x y) → IsExact last m R → IsExact last m S
led_as last m R S to from exact x c w = (
  λ h. let f = (exact x c w).0 h in (f.0, to x f.0 f.1, f.2),
  λ f. (exact x c w).1 (f.0, from x f.0 f.1, f.2),
)

module _ (text : List ℕ) where
  -- from a place a pattern leads on to those up to which it matches, or back to those from which it does
  abbrev pub Leads : Direction → Pattern → ℕ → ℕ → Type 0
  Leads forward p x y = Matches text p x y
  Leads backward p x y = Matches text p y x

  -- how many characters lie in a direction
  abbrev far : Direction → ℕ → ℕ
  far forward x = length text - x
  far backward x = x

  -- neither way leads out of the text
  leads_within : (d : Direction) (p : Pattern) (x y : ℕ) → x ≤ length text → Leads d p x y → y ≤ length text
  leads_within forward p x y h m = stays text p x y h m
  leads_within backward p x y h m = omega (arith, h, forwards text p y x m)

  -- nor back
  leads_nearer : (d : Direction) (p : Pattern) (x y : ℕ) → x ≤ length text → Leads d p x y → far d y ≤ far d x
  leads_nearer forward p x y h m = omega (arith, forwards text p x y m)
  leads_nearer backward p x y h m = forwards text p y x m

  -- and what leads to another place leads nearer
  leads_on : (d : Direction) (p : Pattern) (x y : ℕ) → x ≤ length text → Leads d p x y → (y == x) ≡ false → suc (far d y) ≤ far d x
  leads_on d p x y h m e = by_direction d m
    where
      -- the two are not the same
      apart : (y ≡ x) → ⊥
      apart same = true≢false (sym (eq-eqb y x same) ∙ e)

      differs : (a b : ℕ) → a ≤ b → ((a ≡ b) → ⊥) → suc a ≤ b
      differs a b w n = grind (arith, w, n)

      by_direction : (d : Direction) → Leads d p x y → suc (far d y) ≤ far d x
      by_direction forward m =
          let later : suc x ≤ y = differs x y (forwards text p x y m) (λ same. apart (sym same)) in
          omega (arith, later, stays text p x y h m)
      by_direction backward m = differs y x (forwards text p y x m) apart

  -- an assertion holds where the two characters beside the place say so
  asserted : (l : Look) (x : ℕ) → x ≤ length text → is_asserted text l x ≡ holds l (before text x) (slice_get text x)
  asserted start zero h = refl
  asserted start (suc k) h = by_test (suc k == 0) refl
    where
      there : slice_get text k ≡ Some (get_or text k 0)
      there = slice_get-get_or text k 0 (omega (arith, h))

      same : suc k - 1 ≡ k
      same = omega arith

      by_test : (b : Bool) → (suc k == 0) ≡ b → b ≡ is_edge (if b then None else slice_get text (suc k - 1))
      by_test true e = refl
      by_test false e = sym (ap (λ (i : ℕ). is_edge (slice_get text i)) same ∙ ap is_edge there)
  asserted end x h = by_test (x == length text) refl
    where
      by_test : (b : Bool) → (x == length text) ≡ b → b ≡ is_edge (slice_get text x)
      by_test true e = sym (ap is_edge (slice_get_past text x (omega (arith, eqb-true x (length text) e))))
      by_test false e =
          let less : suc x ≤ length text = by_place (λ same. true≢false (sym (eq-eqb x (length text) same) ∙ e)) in
          sym (ap is_edge (slice_get-get_or text x 0 less))
        where
          by_place : ((x ≡ length text) → ⊥) → suc x ≤ length text
          by_place apart = grind (arith, h, apart)
  asserted boundary x h = refl
  asserted no_boundary x h = refl

  -- a character that the class has is there
  has : (n : Bool) (rs : List CharSet) (o : Option ℕ) → (has_char n rs o ≡ true) ↔ ((c : ℕ) × (o ≡ Some c) × (is_member n rs c ≡ true))
  has n rs None = (λ h. absurd (true≢false (sym h)), λ f. ap (has_char n rs) f.1 ∙ f.2)
  has n rs (Some c) = (λ h. (c, refl, h), λ f. ap (has_char n rs) f.1 ∙ f.2)

  -- CharacterSetMatcher, by its direction
  class_exact : (d : Direction) (n : Bool) (rs : List CharSet) → IsExact (length text) (class_matcher text d n rs) (Leads d (class n rs))
  class_exact forward n rs x c w = (
    λ h. let f = (has n rs (slice_get text x)).0 (and_left _ _ h) in (x + 1, (f.0, f.1, f.2, refl), and_right (has_char n rs (slice_get text x)) _ h),
    λ f. and_true _ _ ((has n rs (slice_get text x)).1 (f.1.0, f.1.1, f.1.2)) (subst (λ (z : ℕ). c z ≡ true) f.1.3 f.2),
  )
  class_exact backward n rs zero c w = (
    λ h. absurd (true≢false (sym (and_left (has_char n rs (before text zero)) (c (zero - 1)) h))),
    λ f. absurd (omega (arith, f.1.3)),
  )
  class_exact backward n rs (suc k) c w =
      let same : suc k - 1 ≡ k = omega arith in
      let char : before text (suc k) ≡ slice_get text k = before_next text k in (
        λ h.
            let f = (has n rs (slice_get text k)).0 (sym (ap (has_char n rs) char) ∙ and_left _ _ h) in
            (k, (f.0, f.1, f.2, omega arith), sym (ap c same) ∙ and_right (has_char n rs (before text (suc k))) _ h),
        λ f.
            let at : f.0 ≡ k = omega (arith, f.1.3) in
            and_true _ _ (ap (has_char n rs) char ∙ (has n rs (slice_get text k)).1 (f.1.0, sym (ap (slice_get text) at) ∙ f.1.1, f.1.2))
            (ap c same ∙ sym (ap c at) ∙ f.2),
      )

  -- each matcher leads as its pattern does
  pub exact : (p : Pattern) → AreOrdered p → (d : Direction) → IsExact (length text) (matcher text d p) (Leads d p)
  exact empty o forward = λ x c w. (λ h. (x, refl, h), λ f. subst (λ (z : ℕ). c z ≡ true) (sym f.1) f.2)
  exact empty o backward = λ x c w. (λ h. (x, refl, h), λ f. subst (λ (z : ℕ). c z ≡ true) f.1 f.2)
  exact (class n rs) o d = class_exact d n rs
  exact (look l) o forward = λ x c w. (
    λ h. (x, (sym (asserted l x w) ∙ and_left _ _ h, refl), and_right (is_asserted text l x) _ h),
    λ f. and_true _ _ (asserted l x w ∙ f.1.0) (subst (λ (z : ℕ). c z ≡ true) (sym f.1.1) f.2),
  )
  exact (look l) o backward = λ x c w. (
    λ h. (x, (sym (asserted l x w) ∙ and_left _ _ h, refl), and_right (is_asserted text l x) _ h),
    λ f.
        and_true _ _ (asserted l x w ∙ subst (λ (z : ℕ). holds l (before text z) (slice_get text z) ≡ true) f.1.1 f.1.0)
        (subst (λ (z : ℕ). c z ≡ true) f.1.1 f.2),
  )
  exact (cat p q) o forward = sequenced (length text) _ _ _ _ (leads_within forward p) (exact p o.0 forward) (exact q o.1 forward)
  exact (cat p q) o backward =
      led_as (length text) _ _ _ (λ x y f. (f.0, f.2, f.1)) (λ x y f. (f.0, f.2, f.1))
      (sequenced (length text) _ _ _ _ (leads_within backward q) (exact q o.1 backward) (exact p o.0 backward))
  exact (alt p q) o forward = λ x c w. (
    λ h.
        ⊎_elim (λ g. let f = (exact p o.0 forward x c w).0 g in (f.0, inl f.1, f.2)) (λ g. let f = (exact q o.1 forward x c w).0 g in (f.0, inr f.1, f.2))
        (or_case (matcher text forward p x c) (matcher text forward q x c) h),
    λ f.
        ⊎_elim (λ m. or_left _ _ ((exact p o.0 forward x c w).1 (f.0, m, f.2)))
        (λ m. or_right (matcher text forward p x c) _ ((exact q o.1 forward x c w).1 (f.0, m, f.2))) f.1,
  )
  exact (alt p q) o backward = λ x c w. (
    λ h.
        ⊎_elim (λ g. let f = (exact p o.0 backward x c w).0 g in (f.0, inl f.1, f.2)) (λ g. let f = (exact q o.1 backward x c w).0 g in (f.0, inr f.1, f.2))
        (or_case (matcher text backward p x c) (matcher text backward q x c) h),
    λ f.
        ⊎_elim (λ m. or_left _ _ ((exact p o.0 backward x c w).1 (f.0, m, f.2)))
        (λ m. or_right (matcher text backward p x c) _ ((exact q o.1 backward x c w).1 (f.0, m, f.2))) f.1,
  )
  exact (repeat min max p) o forward =
      repeats _ _ (length text) (far forward) (exact p o.1 forward) (leads_within forward p) (leads_nearer forward p) (leads_on forward p)
      (min + length text + 1) min max o.0 (λ x w. omega arith)
  exact (repeat min max p) o backward =
      led_as (length text) _ _ _ (λ x y f. (f.0, f.1, f.2, rounds_back _ _ (λ i j m. m) f.0 x y f.3))
      (λ x y f. (f.0, f.1, f.2, rounds_back _ _ (λ i j m. m) f.0 y x f.3))
      (repeats _ _ (length text) (far backward) (exact p o.1 backward) (leads_within backward p) (leads_nearer backward p) (leads_on backward p)
      (min + length text + 1) min max o.0 (λ x w. omega (arith, w)))
  exact (lookbehind n p) o forward = looked n (length text) _ _ (exact p o backward)
  exact (lookbehind n p) o backward =
      led_as (length text) _ _ _ (stays_there n (λ x k. Matches text p k x)) (stays_back n (λ x k. Matches text p k x)) (looked n (length text) _ _ (exact p o backward))
  exact (lookahead n p) o forward = looked n (length text) _ _ (exact p o forward)
  exact (lookahead n p) o backward =
      led_as (length text) _ _ _ (stays_there n (Matches text p)) (stays_back n (Matches text p)) (looked n (length text) _ _ (exact p o forward))

  -- so it is found exactly where its matcher succeeds somewhere
  pub found_by_matcher : (p : Pattern) → AreOrdered p → Found p text ↔ ((i : ℕ) × (i ≤ length text) × (matcher text forward p i (λ y. true) ≡ true))
  found_by_matcher p o = (
    λ f. (f.0, f.2, (exact p o forward f.0 (λ y. true) f.2).1 (f.1, f.3, refl)),
    λ f. let m = (exact p o forward f.0 (λ y. true) f.1).0 f.2 in (f.0, m.0, f.1, m.1),
  )
