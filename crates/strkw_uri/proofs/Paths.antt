-- A path is one run of the class with the slash.
use Rattle.std.proofs.Common.{◌≡◌, ◌↔◌, ℕ, ◌==◌, Bool, true, false, ◌||◌, IsTrue, List, [], ◌∷◌, ◌++◌, inl, inr, refl, sym, ap, subst, ◌∙◌, append_assoc}
use Rattle.std.proofs.lemmas.Bool.{eqb-true, or_left, or_right}
use Rattle.std.specs.List.{concat, AllByRecursion}
use Rattle.strkw_text.specs.Abnf.{Form, ◌⨾◌, Literal, Repeat}
use Rattle.strkw_text.proofs.Equivalences.{iff_trans, iff_sym}
use Rattle.strkw_text.proofs.Laws.{then, one_of, assoc, front_cong, repeat_then, Repeat-nil, Repeat-cons, Repeat-append, Repeat-weaker}
use Rattle.strkw_text.proofs.Optionals.{repeat_then_at}
use Rattle.strkw_uri.specs.Uri.{Encoded}
use Rattle.strkw_uri.specs.Scan.{or_slash}
use Rattle.strkw_uri.proofs.Encodings.{Encoded-weaker}

-- *( "/" *p )
abbrev pub Slashes : (ℕ → Bool) → Form
Slashes p = Repeat (Literal (47 ∷ []) ⨾ Repeat (Encoded p))

-- where a or b holds and a does not, b does
pub or_other : (a b : Bool) → IsTrue (a || b) → a ≡ false → IsTrue b
or_other true b h e = cc
or_other false b h e = h

module _ (p : ℕ → Bool) where
  -- the class with the slash
  abbrev q : ℕ → Bool
  q = or_slash p

  -- a character of the class is of the class with the slash
  wider : (c : ℕ) → IsTrue (p c) → IsTrue (q c)
  wider c h = or_left (p c) (c == 47) h

  -- the slash is of the class with the slash
  slash : IsTrue (q 47)
  slash = or_right (p 47) true refl

  -- what is of it but not of the class is the slash
  only : (c : ℕ) → IsTrue (q c) → p c ≡ false → c ≡ 47
  only c h e = eqb-true c 47 (or_other (p c) (c == 47) h e)

  -- segments, each behind a slash, are a run of the class with the slash
  slashes_in : (ps : List (List ℕ)) → AllByRecursion (Literal (47 ∷ []) ⨾ Repeat (Encoded p)) ps → Repeat (Encoded q) (concat ps)
  slashes_in [] h = Repeat-nil (Encoded q)
  slashes_in (s ∷ ps) h =
      let segment : Repeat (Encoded q) h.0.back = Repeat-weaker (Encoded p) (Encoded q) (Encoded-weaker p q wider) h.0.back h.0.second in
      let whole : 47 ∷ h.0.back ≡ s = ap (λ t. t ++ h.0.back) (sym h.0.first) ∙ h.0.joined in
      Repeat-append (Encoded q) s (concat ps) (subst (Repeat (Encoded q)) whole (Repeat-cons (Encoded q) (47 ∷ []) h.0.back (inl (one_of q 47 slash)) segment))
      (slashes_in ps h.1)

  -- one more at the front of a segment and what follows it
  more : (s t : List ℕ) → Encoded q s → (Repeat (Encoded p) ⨾ Slashes p) t → (Repeat (Encoded p) ⨾ Slashes p) (s ++ t)
  more s t (inr e) h = then (s ++ h.front) h.back (s ++ t) (Repeat-cons (Encoded p) s h.front (inr e) h.first) h.second
      (append_assoc s h.front h.back ∙ ap (λ u. s ++ u) h.joined)
  more s t (inl o) h = by_class (p o.character) refl
    where
      by_class : (b : Bool) → p o.character ≡ b → (Repeat (Encoded p) ⨾ Slashes p) (s ++ t)
      by_class true e = then (s ++ h.front) h.back (s ++ t)
          (Repeat-cons (Encoded p) s h.front (inl (record { character = o.character; member = e; is = o.is })) h.first) h.second
          (append_assoc s h.front h.back ∙ ap (λ u. s ++ u) h.joined)
      by_class false e =
          let at : s ≡ 47 ∷ [] = o.is ∙ ap (λ c. c ∷ []) (only o.character o.member e) in
          let segment : (Literal (47 ∷ []) ⨾ Repeat (Encoded p)) (s ++ h.front) = then s h.front _ at h.first refl in
          let rest : (s ++ h.front) ++ h.back ≡ s ++ t = append_assoc s h.front h.back ∙ ap (λ u. s ++ u) h.joined in
          then [] (s ++ t) (s ++ t) (Repeat-nil (Encoded p))
          (subst (Slashes p) rest (Repeat-cons (Literal (47 ∷ []) ⨾ Repeat (Encoded p)) (s ++ h.front) h.back segment h.second)) refl

  -- a run of the class with the slash is a segment, and segments behind slashes
  slashes_out : (ps : List (List ℕ)) → AllByRecursion (Encoded q) ps → (Repeat (Encoded p) ⨾ Slashes p) (concat ps)
  slashes_out [] h = then [] [] [] (Repeat-nil (Encoded p)) (Repeat-nil (Literal (47 ∷ []) ⨾ Repeat (Encoded p))) refl
  slashes_out (s ∷ ps) h = more s (concat ps) h.0 (slashes_out ps h.1)

  -- a segment and what follows it is a run of the class with the slash
  pub segments : (text : List ℕ) → (Repeat (Encoded p) ⨾ Slashes p) text ↔ Repeat (Encoded q) text
  segments text = (
    λ h. subst (Repeat (Encoded q)) h.joined
        (Repeat-append (Encoded q) h.front h.back (Repeat-weaker (Encoded p) (Encoded q) (Encoded-weaker p q wider) h.front h.first)
        (subst (Repeat (Encoded q)) h.second.joined (slashes_in h.second.parts h.second.each))),
    λ r. subst (Repeat (Encoded p) ⨾ Slashes p) r.joined (slashes_out r.parts r.each),
  )

  -- a segment, *( "/" segment ) and B
  pub segments_then : (B : Form) (text : List ℕ) → (Repeat (Encoded p) ⨾ Slashes p ⨾ B) text ↔ (Repeat (Encoded q) ⨾ B) text
  segments_then B text = iff_trans (iff_sym (assoc (Repeat (Encoded p)) (Slashes p) B text))
      (front_cong (Repeat (Encoded p) ⨾ Slashes p) (Repeat (Encoded q)) B text segments)

  -- *( "/" segment ) and B, where the text begins with a slash
  pub slashes_at : (B : Form) (text after : List ℕ) → text ≡ 47 ∷ after → (B text → ⊥) → (Slashes p ⨾ B) text ↔ (Repeat (Encoded q) ⨾ B) after
  slashes_at B text after e n = iff_trans (repeat_then_at 47 (Repeat (Encoded p)) B text after e n) (segments_then B after)

  -- What holds of B and of what begins with a slash holds of *( "/" segment ) B.
  pub slashes_ind : (P : Form) (B : Form) → ((rest : List ℕ) → P (47 ∷ rest)) → ((x : List ℕ) → B x → P x) → (x : List ℕ) → (Slashes p ⨾ B) x → P x
  slashes_ind P B f b x h =
      let S = Repeat (Encoded p) in
      elim ((repeat_then (Literal (47 ∷ []) ⨾ S) B x).0 h) [
        | inl g ↦ b x g
        | inr g ↦ let k = (assoc (Literal (47 ∷ [])) S (Slashes p ⨾ B) x).0 g in subst P (ap (λ s. s ++ k.back) (sym k.first) ∙ k.joined) (f k.back)
      ]
