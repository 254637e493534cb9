-- The places that a pattern matches between: none before the first, and none beyond the end of the text.
use Rattle.std.proofs.Common.{ℕ, zero, suc, ◌≤◌, List, length, arith, inl, inr, refl, sym, subst}
use Rattle.std.proofs.lemmas.Option.{slice_get_within}
use Rattle.strkw_regex_core.specs.Meaning.{Rounds, Matches}
use Rattle.strkw_regex_core.specs.Tree.{Pattern, empty, class, look, cat, alt, repeat, lookbehind, lookahead}

-- rounds of what never ends before it begins do not either
pub rounds_forwards : (R : ℕ → ℕ → Type 0) → ((i j : ℕ) → R i j → i ≤ j) → (n i j : ℕ) → Rounds R n i j → i ≤ j
rounds_forwards R f zero i j e = omega (arith, e)
rounds_forwards R f (suc n) i j (l, r, rs) = omega (arith, f i l r, rounds_forwards R f n l j rs)

-- no match of a pattern ends before it begins
pub forwards : (text : List ℕ) (p : Pattern) (i j : ℕ) → Matches text p i j → i ≤ j
forwards text empty i j m = omega (arith, m)
forwards text (class n rs) i j w = omega (arith, w.3)
forwards text (look l) i j m = omega (arith, m.1)
forwards text (cat p q) i j (l, m, n) = omega (arith, forwards text p i l m, forwards text q l j n)
forwards text (alt p q) i j (inl m) = forwards text p i j m
forwards text (alt p q) i j (inr m) = forwards text q i j m
forwards text (repeat min max p) i j w = rounds_forwards (Matches text p) (forwards text p) w.0 i j w.3
forwards text (lookbehind n p) i j m = omega (arith, m.1)
forwards text (lookahead n p) i j m = omega (arith, m.1)

-- rounds of what stays within some places stay there
pub rounds_stay : (R : ℕ → ℕ → Type 0) (end : ℕ) → ((i j : ℕ) → i ≤ end → R i j → j ≤ end) → (n i j : ℕ) → i ≤ end → Rounds R n i j → j ≤ end
rounds_stay R end f zero i j h e = omega (arith, e, h)
rounds_stay R end f (suc n) i j h (l, r, rs) = rounds_stay R end f n l j (f i l h r) rs

-- no match of a pattern goes beyond the end of the text
pub stays : (text : List ℕ) (p : Pattern) (i j : ℕ) → i ≤ length text → Matches text p i j → j ≤ length text
stays text empty i j h m = omega (arith, m, h)
stays text (class n rs) i j h w = omega (arith, w.3, slice_get_within text i w.0 w.1)
stays text (look l) i j h m = omega (arith, m.1, h)
stays text (cat p q) i j h (l, m, n) = stays text q l j (stays text p i l h m) n
stays text (alt p q) i j h (inl m) = stays text p i j h m
stays text (alt p q) i j h (inr m) = stays text q i j h m
stays text (repeat min max p) i j h w = rounds_stay (Matches text p) (length text) (stays text p) w.0 i j h w.3
stays text (lookbehind n p) i j h m = omega (arith, m.1, h)
stays text (lookahead n p) i j h m = omega (arith, m.1, h)

-- one round more may stand behind others
pub one_more : (R : ℕ → ℕ → Type 0) (n i j k : ℕ) → Rounds R n i j → R j k → Rounds R (suc n) i k
one_more R zero i j k e r = (k, subst (λ (z : ℕ). R z k) (sym e) r, refl)
one_more R (suc n) i j k (l, s, rs) r = (l, s, one_more R n l j k rs r)

-- so rounds are as many rounds from their end on
pub rounds_back : (R S : ℕ → ℕ → Type 0) → ((i j : ℕ) → R i j → S j i) → (n i j : ℕ) → Rounds R n i j → Rounds S n j i
rounds_back R S f zero i j e = sym e
rounds_back R S f (suc n) i j (l, r, rs) = one_more S n j l i (rounds_back R S f n l j rs) (f i l r)
