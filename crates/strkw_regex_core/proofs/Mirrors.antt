-- A pattern matches a text where its mirror matches the text turned round.
use Rattle.std.proofs.Common.{◌≡◌, ◌↔◌, ℕ, zero, suc, ◌+◌, ◌-◌, ◌≤◌, Bool, true, false, not, ◌||◌, List, length, reverse, get_or, Option, Some}
use Rattle.std.proofs.Common.{slice_get, refl, sym, ap, subst, ◌∙◌, inl, inr, ⊎_elim, arith, if◌then◌else◌}
use Rattle.std.proofs.lemmas.List.{length-reverse, get_or-reverse}
use Rattle.std.proofs.lemmas.Option.{slice_get-get_or, slice_get_past, slice_get_within}
use Rattle.strkw_regex_core.specs.Tree.{Look, start, end, boundary, no_boundary}
use Rattle.strkw_regex_core.specs.machine.MarkedPattern.{MarkedPattern, empty, class, look, cat, alt, star, plus, lookbehind}
use Rattle.strkw_regex_core.specs.machine.MarkedPattern.{lookahead}
use Rattle.strkw_charset.specs.Membership.{differ}
use Rattle.strkw_regex_core.specs.machine.MarkedMeaning.{Rounds, no_round, a_round, Matches, Found}
use Rattle.strkw_regex_core.specs.Meaning.{before, is_word, holds, Unless}
use Rattle.strkw_regex_core.specs.machine.Program.{is_empty}
use Rattle.strkw_regex_core.specs.Mirror.{mirror_look}
use Rattle.strkw_regex_core.specs.machine.Mirror.{mirror, mirror_if, along, is_backward, target, sought_in}
use Rattle.strkw_regex_core.proofs.Behind.{nothing_is}
use Rattle.strkw_regex_core.proofs.Search.{before_next}
use Rattle.strkw_regex_core.proofs.Steps.{forwards, rounds_forwards}

-- what holds or not by a condition holds or not by one that holds exactly then
pub unless_same : (n : Bool) (A B : Type 0) → A ↔ B → Unless n A → Unless n B
unless_same false A B e a = e.0 a
unless_same true A B e none = λ b. none (e.1 b)

-- no match goes beyond the end of the text
module _ (text : List ℕ) where
  -- nor do rounds of what does not
  rounds_stay : (R : ℕ → ℕ → Type 0) → ((i j : ℕ) → i ≤ length text → R i j → j ≤ length text) → (j i : ℕ) → i ≤ length text
      → Rounds R j i → j ≤ length text
  rounds_stay R f j i h (no_round _ e) = omega (arith, e)
  rounds_stay R f j i h (a_round _ l m s) = rounds_stay R f j l (f i l h m) s

  -- nor does a pattern
  pub stays : (p : MarkedPattern) (i j : ℕ) → i ≤ length text → Matches text p i j → j ≤ length text
  stays empty i j h m = omega (arith, m)
  stays (class b n rs) i j h w = omega (arith, w.3, slice_get_within text i w.0 w.1)
  stays (look l) i j h m = omega (arith, m.1)
  stays (cat p q) i j h (l, m, n) = stays q l j (stays p i l h m) n
  stays (alt p q) i j h (inl m) = stays p i j h m
  stays (alt p q) i j h (inr m) = stays q i j h m
  stays (star p) i j h s = rounds_stay (Matches text p) (stays p) j i h s
  stays (plus p) i j h (l, m, s) = rounds_stay (Matches text p) (stays p) j l (stays p i l h m) s
  stays (lookbehind n p) i j h m = omega (arith, m.1)
  stays (lookahead n p) i j h m = omega (arith, m.1)

-- of rounds
-- one round more may stand behind them
one_more : (S : ℕ → ℕ → Type 0) (m k l : ℕ) → Rounds S m l → S m k → Rounds S k l
one_more S m k l (no_round _ e) s = a_round l k (subst (λ (z : ℕ). S z k) (sym e) s) (no_round k refl)
one_more S m k l (a_round _ x r rs) s = a_round l x r (one_more S m k x rs s)

-- so what has one round at its end has one at its beginning
pub first_of : (S : ℕ → ℕ → Type 0) (m k l : ℕ) → Rounds S m l → S m k → (x : ℕ) × S l x × Rounds S k x
first_of S m k l (no_round _ e) s = (k, subst (λ (z : ℕ). S z k) (sym e) s, no_round k refl)
first_of S m k l (a_round _ x r rs) s = (x, r, one_more S m k x rs s)

-- where the one leads from place to place, the other does between the same places, counted from the end
abbrev pub Flips : ℕ → (ℕ → ℕ → Type 0) → (ℕ → ℕ → Type 0) → Type 0
Flips n R S = (i j k l : ℕ) → i + k ≡ n → j + l ≡ n → R i j → S l k

-- it leads to no place before its own
abbrev pub IsForwards : (ℕ → ℕ → Type 0) → Type 0
IsForwards R = (i j : ℕ) → R i j → i ≤ j

-- nor beyond the last
abbrev pub StaysWithin : ℕ → (ℕ → ℕ → Type 0) → Type 0
StaysWithin n R = (i j : ℕ) → i ≤ n → R i j → j ≤ n

module _ (n : ℕ) where
  -- as many places are left behind one as make up all
  pub left_over : (i : ℕ) → i ≤ n → i + (n - i) ≡ n
  left_over i h = omega (arith, h)

  -- of two that follow each other, the second comes first
  pub cat_flips : (R Q S T : ℕ → ℕ → Type 0) → IsForwards Q → Flips n R S → Flips n Q T
      → Flips n (λ i j. (m : ℕ) × R i m × Q m j) (λ i j. (m : ℕ) × T i m × S m j)
  cat_flips R Q S T f u w i j k l e g (m, r, q) =
      let d : m + (n - m) ≡ n = left_over m (omega (arith, f m j q, g)) in
      (n - m, w m j (n - m) l d g q, u i m k (n - m) e d r)

  -- rounds are rounds
  rounds_turned : (R S : ℕ → ℕ → Type 0) → IsForwards R → Flips n R S → (j i k l : ℕ) → i + k ≡ n → j + l ≡ n → Rounds R j i → Rounds S k l
  rounds_turned R S f u j i k l e g (no_round _ d) = no_round l (omega (arith, e, g, d))
  rounds_turned R S f u j i k l e g (a_round _ m r rs) =
      let d : m + (n - m) ≡ n = left_over m (omega (arith, rounds_forwards R f j m rs, g)) in
      one_more S (n - m) k l (rounds_turned R S f u j m (n - m) l d g rs) (u i m k (n - m) e d r)

  -- the same in the words of what flips
  rounds_flip : (R S : ℕ → ℕ → Type 0) → IsForwards R → Flips n R S → Flips n (λ i j. Rounds R j i) (λ i j. Rounds S j i)
  rounds_flip R S f u i j k l e g rs = rounds_turned R S f u j i k l e g rs

  -- and so are one and more
  plus_flips : (R S : ℕ → ℕ → Type 0) → IsForwards R → Flips n R S
      → Flips n (λ i j. (m : ℕ) × R i m × Rounds R j m) (λ i j. (m : ℕ) × S i m × Rounds S j m)
  plus_flips R S f u i j k l e g (m, r, rs) =
      let d : m + (n - m) ≡ n = left_over m (omega (arith, rounds_forwards R f j m rs, g)) in
      first_of S (n - m) k l (rounds_turned R S f u j m (n - m) l d g rs) (u i m k (n - m) e d r)

  -- what leads up to a place, or to none, leads on from the same place, counted from the end
  pub up_to : (R S : ℕ → ℕ → Type 0) → IsForwards R → StaysWithin n S → Flips n R S → Flips n S R → (i l : ℕ) → i + l ≡ n
      → ((a : ℕ) × R a i) ↔ ((a : ℕ) × S l a)
  up_to R S f w u v i l e = (
    λ m. let d : m.0 + (n - m.0) ≡ n = left_over m.0 (omega (arith, f m.0 i m.1, e)) in
        (n - m.0, u m.0 i (n - m.0) l d e m.1),
    λ m. let d : m.0 + (n - m.0) ≡ n = left_over m.0 (w l m.0 (omega (arith, e)) m.1) in
        (n - m.0, v l m.0 i (n - m.0) (omega (arith, e)) d m.1),
  )

  -- a lookbehind becomes a lookahead
  pub behind_flips : (b : Bool) (R S : ℕ → ℕ → Type 0) → IsForwards R → StaysWithin n S → Flips n R S → Flips n S R
      → Flips n (λ i j. Unless b ((a : ℕ) × R a i) × (i ≡ j)) (λ i j. Unless b ((a : ℕ) × S i a) × (i ≡ j))
  behind_flips b R S f w u v i j k l e g (m, d) =
      (unless_same b _ _ (up_to R S f w u v i l (omega (arith, g, d))) m, omega (arith, e, g, d))

  -- and a lookahead becomes a lookbehind
  pub ahead_flips : (b : Bool) (R S : ℕ → ℕ → Type 0) → IsForwards R → StaysWithin n S → Flips n R S → Flips n S R
      → Flips n (λ i j. Unless b ((a : ℕ) × S i a) × (i ≡ j)) (λ i j. Unless b ((a : ℕ) × R a i) × (i ≡ j))
  ahead_flips b R S f w u v i j k l e g (m, d) =
      let same = up_to R S f w u v l i (omega (arith, g, d)) in
      (unless_same b _ _ (same.1, same.0) m, omega (arith, e, g, d))

-- two answers differ in either order
differ_turned : (x y : Bool) → differ x y ≡ differ y x
differ_turned true true = refl
differ_turned true false = refl
differ_turned false true = refl
differ_turned false false = refl

-- an assertion holds between two characters where its mirror holds between them in the other order
pub look_turned : (l : Look) (b a : Option ℕ) → holds l b a ≡ holds (mirror_look l) a b
look_turned start b a = refl
look_turned end b a = refl
look_turned boundary b a = differ_turned (is_word b) (is_word a)
look_turned no_boundary b a = ap not (differ_turned (is_word b) (is_word a))

-- of two texts, each character of the one stands in the other as far from the end
module _ (text back : List ℕ) (as_long : length back ≡ length text)
    (same_char : (i k : ℕ) → i + suc k ≡ length text → slice_get text i ≡ slice_get back k) where
  -- the character behind a place is the one before it
  pub behind_is : (i k : ℕ) → i + k ≡ length text → slice_get text i ≡ before back k
  behind_is i zero e = slice_get_past text i (omega (arith, e))
  behind_is i (suc k) e = same_char i k e ∙ sym (before_next back k)

  -- and the one before it is the one behind it
  pub before_is : (i k : ℕ) → i + k ≡ length text → before text i ≡ slice_get back k
  before_is zero k e = sym (slice_get_past back k (omega (arith, e, as_long)))
  before_is (suc i) k e = before_next text i ∙ same_char i k (omega (arith, e))

  -- a match of the pattern in the one is a match of its mirror in the other, and back
  abbrev AreTurned : MarkedPattern → MarkedPattern → Type 0
  AreTurned p q = Flips (length text) (Matches text p) (Matches back q) × Flips (length text) (Matches back q) (Matches text p)

  -- what stands behind nothing is turned by itself
  behind_nothing : (p q : MarkedPattern) → AreTurned p q → AreTurned (cat empty p) (cat empty q)
  behind_nothing p q w = (
    λ i j k l e g m. (l, refl, w.0 i j k l e g (subst (λ (z : ℕ). Matches text p z j) (sym m.1) m.2)),
    λ i j k l e g m. (l, refl, w.1 i j k l e g (subst (λ (z : ℕ). Matches back q z j) (sym m.1) m.2)),
  )

  -- and so is what stands before nothing
  before_nothing : (p q : MarkedPattern) → AreTurned p q → AreTurned (cat p empty) (cat q empty)
  before_nothing p q w = (
    λ i j k l e g m. (k, w.0 i j k l e g (subst (λ (z : ℕ). Matches text p i z) m.2 m.1), refl),
    λ i j k l e g m. (k, w.1 i j k l e g (subst (λ (z : ℕ). Matches back q i z) m.2 m.1), refl),
  )

  -- two patterns, by whether one of them is nothing
  cat_turned : (p q : MarkedPattern) (b c : Bool) → is_empty p ≡ b → is_empty q ≡ c → AreTurned p (mirror p) → AreTurned q (mirror q)
      → AreTurned (cat p q) (if b || c then cat (mirror p) (mirror q) else cat (mirror q) (mirror p))
  cat_turned p q true c e g u w =
      subst (λ (r : MarkedPattern). AreTurned (cat r q) (cat (mirror r) (mirror q))) (sym (nothing_is p e)) (behind_nothing q (mirror q) w)
  cat_turned p q false true e g u w =
      subst (λ (r : MarkedPattern). AreTurned (cat p r) (cat (mirror p) (mirror r))) (sym (nothing_is q g)) (before_nothing p (mirror p) u)
  cat_turned p q false false e g u w = (
    cat_flips (length text) _ _ _ _ (forwards text q) u.0 w.0,
    cat_flips (length text) _ _ _ _ (forwards back (mirror p)) w.1 u.1,
  )

  -- no match in the other text goes beyond its end
  stays_back : (p : MarkedPattern) → StaysWithin (length text) (Matches back p)
  stays_back p i j h m = omega (arith, as_long, stays back p i j (omega (arith, as_long, h)) m)

  -- each pattern and its mirror match the same, turned round
  pub turned : (p : MarkedPattern) → AreTurned p (mirror p)
  turned empty = (λ i j k l e g m. omega (arith, e, g, m), λ i j k l e g m. omega (arith, e, g, m))
  turned (class b n rs) = (
    λ i j k l e g m. (m.0, sym (same_char i l (omega (arith, g, m.3))) ∙ m.1, m.2, omega (arith, e, g, m.3)),
    λ i j k l e g m. (m.0, same_char l i (omega (arith, g, m.3)) ∙ m.1, m.2, omega (arith, e, g, m.3)),
  )
  turned (look a) = (
    λ i j k l e g m. (
      sym (look_turned a _ _ ∙ looks (mirror_look a) _ _ _ _ (behind_is i l (omega (arith, g, m.1))) (before_is i l (omega (arith, g, m.1)))) ∙ m.0,
      omega (arith, e, g, m.1),
    ),
    λ i j k l e g m. (
      look_turned a _ _ ∙ looks (mirror_look a) _ _ _ _ (behind_is l i (omega (arith, g, m.1))) (before_is l i (omega (arith, g, m.1))) ∙ m.0,
      omega (arith, e, g, m.1),
    ),
  )
    where
      -- an assertion between the same characters
      looks : (a : Look) (b c d f : Option ℕ) → b ≡ c → d ≡ f → holds a b d ≡ holds a c f
      looks a b c d f x y = ap (λ (z : Option ℕ). holds a z d) x ∙ ap (holds a c) y
  turned (cat p q) = cat_turned p q (is_empty p) (is_empty q) refl refl (turned p) (turned q)
  turned (alt p q) = (
    λ i j k l e g m. ⊎_elim (λ n. inl ((turned p).0 i j k l e g n)) (λ n. inr ((turned q).0 i j k l e g n)) m,
    λ i j k l e g m. ⊎_elim (λ n. inl ((turned p).1 i j k l e g n)) (λ n. inr ((turned q).1 i j k l e g n)) m,
  )
  turned (star p) = (
    rounds_flip (length text) _ _ (forwards text p) (turned p).0,
    rounds_flip (length text) _ _ (forwards back (mirror p)) (turned p).1,
  )
  turned (plus p) = (
    plus_flips (length text) _ _ (forwards text p) (turned p).0,
    plus_flips (length text) _ _ (forwards back (mirror p)) (turned p).1,
  )
  turned (lookbehind n p) = (
    behind_flips (length text) n _ _ (forwards text p) (stays_back (mirror p)) (turned p).0 (turned p).1,
    ahead_flips (length text) n _ _ (forwards text p) (stays_back (mirror p)) (turned p).0 (turned p).1,
  )
  turned (lookahead n p) = (
    ahead_flips (length text) n _ _ (forwards back (mirror p)) (stays text p) (turned p).1 (turned p).0,
    behind_flips (length text) n _ _ (forwards back (mirror p)) (stays text p) (turned p).1 (turned p).0,
  )

-- a text turned round
module _ (text : List ℕ) where
  -- has each character as far from its end
  pub reversed_char : (i k : ℕ) → i + suc k ≡ length text → slice_get text i ≡ slice_get (reverse text) k
  reversed_char i k e =
      let far : length text - 1 - k ≡ i = omega (arith, e) in
      slice_get-get_or text i 0 (omega (arith, e))
      ∙ ap (λ (z : ℕ). Some (get_or text z 0)) (sym far)
      ∙ ap Some (sym (get_or-reverse text k 0 (omega (arith, e))))
      ∙ sym (slice_get-get_or (reverse text) k 0 (omega (arith, e, length-reverse text)))

  -- so a pattern is found in a text exactly where its mirror is in the text turned round
  pub found_mirrored : (p : MarkedPattern) → Found p text ↔ Found (mirror p) (reverse text)
  found_mirrored p =
      let both = turned text (reverse text) (length-reverse text) reversed_char p in (
        λ f. let h = stays text p f.0 f.1 f.2 f.3 in (
          length text - f.1,
          length text - f.0,
          omega (arith, length-reverse text),
          both.0 f.0 f.1 (length text - f.0) (length text - f.1) (omega (arith, f.2)) (omega (arith, h)) f.3,
        ),
        λ f. let h = stays (reverse text) (mirror p) f.0 f.1 f.2 f.3 in (
          length text - f.1,
          length text - f.0,
          omega arith,
          both.1 f.0 f.1 (length text - f.0) (length text - f.1) (omega (arith, f.2, length-reverse text))
              (omega (arith, h, length-reverse text)) f.3,
        ),
      )

  -- and it matches from a place on exactly where its mirror matches up to that place, counted from the end
  pub begins_turned : (p : MarkedPattern) (i : ℕ) → i ≤ length text
      → ((k : ℕ) × Matches (reverse text) (mirror p) k (length text - i)) ↔ ((k : ℕ) × Matches text p i k)
  begins_turned p i h =
      let both = turned text (reverse text) (length-reverse text) reversed_char p in
      up_to (length text) (Matches (reverse text) (mirror p)) (Matches text p) (forwards (reverse text) (mirror p)) (stays text p) both.1 both.0
      (length text - i) i (omega (arith, h))

-- and what is looked for is found there exactly where the pattern is in the text
pub found_sought : (p : MarkedPattern) (text : List ℕ) → Found (target p) (sought_in p text) ↔ Found p text
found_sought p text = by_test (is_backward p)
  where
    -- by whether the search goes from the end on
    by_test : (b : Bool) → Found (mirror_if b p) (along b text) ↔ Found p text
    by_test false = (λ f. f, λ f. f)
    by_test true = let same = found_mirrored text p in (same.1, same.0)
