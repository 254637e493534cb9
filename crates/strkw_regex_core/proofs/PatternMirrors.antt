-- A pattern is found in a text exactly where its mirror is found in the text turned round.
use Rattle.std.proofs.Common.{◌≡◌, ◌↔◌, ℕ, zero, suc, ◌+◌, ◌-◌, List, length, reverse, Option, slice_get, sym, ap, ◌∙◌, inl, inr, ⊎_elim}
use Rattle.std.proofs.Common.{arith}
use Rattle.std.proofs.lemmas.List.{length-reverse}
use Rattle.strkw_regex_core.specs.Meaning.{Rounds, holds, Matches, Found}
use Rattle.strkw_regex_core.specs.Mirror.{mirror_look, mirror}
use Rattle.strkw_regex_core.specs.Tree.{Look, Pattern, empty, class, look, cat, alt, repeat, lookbehind, lookahead}
use Rattle.strkw_regex_core.proofs.Mirrors.{Flips, IsForwards, StaysWithin, left_over, cat_flips, behind_flips, ahead_flips, behind_is, before_is}
use Rattle.strkw_regex_core.proofs.Mirrors.{look_turned, reversed_char}
use Rattle.strkw_regex_core.proofs.Places.{rounds_forwards, forwards, stays, one_more}

-- rounds are as many rounds between the same places, counted from the end
rounds_flip : (n : ℕ) (R S : ℕ → ℕ → Type 0) → IsForwards R → Flips n R S → (m : ℕ) → Flips n (Rounds R m) (Rounds S m)
rounds_flip n R S f u zero i j k l e g d = omega (arith, e, g, d)
rounds_flip n R S f u (suc m) i j k l e g (x, r, rs) =
    let d : x + (n - x) ≡ n = left_over n x (omega (arith, rounds_forwards R f m x j rs, g)) in
    one_more S m l (n - x) k (rounds_flip n R S f u m x j (n - x) l d g rs) (u i x k (n - x) e d r)

-- of two texts, each character of the one stands in the other as far from the end
module _ (text back : List ℕ) (as_long : length back ≡ length text)
    (same_char : (i k : ℕ) → i + suc k ≡ length text → slice_get text i ≡ slice_get back k) where
  -- no match in the other text goes beyond its end
  stays_back : (p : Pattern) → StaysWithin (length text) (Matches back p)
  stays_back p i j h m = omega (arith, as_long, stays back p i j (omega (arith, as_long, h)) m)

  -- an assertion between the same characters
  looks : (a : Look) (b c d f : Option ℕ) → b ≡ c → d ≡ f → holds a b d ≡ holds a c f
  looks a b c d f x y = ap (λ (z : Option ℕ). holds a z d) x ∙ ap (holds a c) y

  -- each pattern and its mirror match the same, turned round
  turned : (p : Pattern) → Flips (length text) (Matches text p) (Matches back (mirror p)) × Flips (length text) (Matches back (mirror p)) (Matches text p)
  turned empty = (λ i j k l e g m. omega (arith, e, g, m), λ i j k l e g m. omega (arith, e, g, m))
  turned (class n rs) = (
    λ i j k l e g m. (m.0, sym (same_char i l (omega (arith, g, m.3))) ∙ m.1, m.2, omega (arith, e, g, m.3)),
    λ i j k l e g m. (m.0, same_char l i (omega (arith, g, m.3)) ∙ m.1, m.2, omega (arith, e, g, m.3)),
  )
  turned (look a) = (
    λ i j k l e g m. (
      sym (look_turned a _ _ ∙ looks (mirror_look a) _ _ _ _ (behind_is text back as_long same_char i l (omega (arith, g, m.1)))
          (before_is text back as_long same_char i l (omega (arith, g, m.1)))) ∙ m.0,
      omega (arith, e, g, m.1),
    ),
    λ i j k l e g m. (
      look_turned a _ _ ∙ looks (mirror_look a) _ _ _ _ (behind_is text back as_long same_char l i (omega (arith, g, m.1)))
          (before_is text back as_long same_char l i (omega (arith, g, m.1))) ∙ m.0,
      omega (arith, e, g, m.1),
    ),
  )
  turned (cat p q) = (
    cat_flips (length text) _ _ _ _ (forwards text q) (turned p).0 (turned q).0,
    cat_flips (length text) _ _ _ _ (forwards back (mirror p)) (turned q).1 (turned p).1,
  )
  turned (alt p q) = (
    λ i j k l e g m. ⊎_elim (λ n. inl ((turned p).0 i j k l e g n)) (λ n. inr ((turned q).0 i j k l e g n)) m,
    λ i j k l e g m. ⊎_elim (λ n. inl ((turned p).1 i j k l e g n)) (λ n. inr ((turned q).1 i j k l e g n)) m,
  )
  turned (repeat min max p) = (
    λ i j k l e g m. (m.0, m.1, m.2, rounds_flip (length text) _ _ (forwards text p) (turned p).0 m.0 i j k l e g m.3),
    λ i j k l e g m. (m.0, m.1, m.2, rounds_flip (length text) _ _ (forwards back (mirror p)) (turned p).1 m.0 i j k l e g m.3),
  )
  turned (lookbehind n p) = (
    behind_flips (length text) n _ _ (forwards text p) (stays_back (mirror p)) (turned p).0 (turned p).1,
    ahead_flips (length text) n _ _ (forwards text p) (stays_back (mirror p)) (turned p).0 (turned p).1,
  )
  turned (lookahead n p) = (
    ahead_flips (length text) n _ _ (forwards back (mirror p)) (stays text p) (turned p).1 (turned p).0,
    behind_flips (length text) n _ _ (forwards back (mirror p)) (stays text p) (turned p).1 (turned p).0,
  )

-- so a pattern is found in a text exactly where its mirror is in the text turned round
pub found_mirrored : (p : Pattern) (text : List ℕ) → Found p text ↔ Found (mirror p) (reverse text)
found_mirrored p text =
    let both = turned text (reverse text) (length-reverse text) (reversed_char text) p in (
      λ f. let h = stays text p f.0 f.1 f.2 f.3 in (
        length text - f.1,
        length text - f.0,
        omega (arith, length-reverse text),
        both.0 f.0 f.1 (length text - f.0) (length text - f.1) (omega (arith, f.2)) (omega (arith, h)) f.3,
      ),
      λ f. let h = stays (reverse text) (mirror p) f.0 f.1 f.2 f.3 in (
        length text - f.1,
        length text - f.0,
        omega arith,
        both.1 f.0 f.1 (length text - f.0) (length text - f.1) (omega (arith, f.2, length-reverse text))
            (omega (arith, h, length-reverse text)) f.3,
      ),
    )
