-- A n(c A), taken apart at the first c.
use Rattle.std.proofs.Common.{◌≡◌, ◌↔◌, ℕ, suc, ◌≤◌, List, [], ◌∷◌, ◌++◌, length, refl, ap, ◌∙◌, arith}
use Rattle.std.specs.List.{concat, AllByRecursion}
use Rattle.strkw_text.specs.Abnf.{Form, ◌⨾◌, Literal, Empty, Exactly}
use Rattle.strkw_text.proofs.Equivalences.{iff_trans, iff_sym}
use Rattle.strkw_text.proofs.Laws.{then, assoc, front_cong, back_cong, empty_then, then_empty, times_none}

-- n+1 times S is S and then n times S
pub exactly_more : (n : ℕ) (S : Form) (text : List ℕ) → Exactly (suc n) S text ↔ (S ⨾ Exactly n S) text
exactly_more n S text = (
  λ t. cases t.parts t.each t.joined t.at_least t.at_most,
  λ h. record {
    parts = h.front ∷ h.second.parts;
    each = (h.first, h.second.each);
    joined = ap (λ s. h.front ++ s) h.second.joined ∙ h.joined;
    at_least = omega (arith, h.second.at_least);
    at_most = omega (arith, h.second.at_most);
  },
)
  where
    -- the same by the parts
    cases : (ps : List (List ℕ)) → AllByRecursion S ps → concat ps ≡ text → suc n ≤ length ps → length ps ≤ suc n → (S ⨾ Exactly n S) text
    cases [] a e l m = absurd (omega arith)
    cases (p ∷ ps) a e l m = then p (concat ps) text a.0 (record { parts = ps; each = a.1; joined = refl; at_least = omega arith; at_most = omega arith }) e

module _ (c : ℕ) (A : Form) where
  -- c A
  abbrev More : Form
  More = Literal (c ∷ []) ⨾ A

  -- A n+1(c A) is A c A n(c A)
  pub plain_more : (n : ℕ) (text : List ℕ) → (A ⨾ Exactly (suc n) More) text ↔ (A ⨾ Literal (c ∷ []) ⨾ (A ⨾ Exactly n More)) text
  plain_more n text = back_cong A (Exactly (suc n) More) (Literal (c ∷ []) ⨾ (A ⨾ Exactly n More)) text
      (λ x. iff_trans (exactly_more n More x) (assoc (Literal (c ∷ [])) A (Exactly n More) x))

  -- A 0(c A) is A
  pub plain_none : (text : List ℕ) → (A ⨾ Exactly 0 More) text ↔ A text
  plain_none text = iff_trans (back_cong A (Exactly 0 More) Empty text (times_none More)) (iff_sym (then_empty A text))

  -- A n+1(c A) B is A c A n(c A) B
  pub row_more : (n : ℕ) (B : Form) (text : List ℕ) → (A ⨾ Exactly (suc n) More ⨾ B) text ↔ (A ⨾ Literal (c ∷ []) ⨾ (A ⨾ Exactly n More ⨾ B)) text
  row_more n B text = back_cong A (Exactly (suc n) More ⨾ B) (Literal (c ∷ []) ⨾ (A ⨾ Exactly n More ⨾ B)) text
      (λ x. iff_trans (front_cong (Exactly (suc n) More) (More ⨾ Exactly n More) B x (exactly_more n More))
      (iff_trans (assoc More (Exactly n More) B x) (assoc (Literal (c ∷ [])) A (Exactly n More ⨾ B) x)))

  -- A 0(c A) B is A B
  pub row_none : (B : Form) (text : List ℕ) → (A ⨾ Exactly 0 More ⨾ B) text ↔ (A ⨾ B) text
  row_none B text = back_cong A (Exactly 0 More ⨾ B) B text
      (λ x. iff_trans (front_cong (Exactly 0 More) Empty B x (times_none More)) (empty_then B x))
