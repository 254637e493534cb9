-- Where a delimiter first stands, a text is cut.
use Rattle.std.proofs.Common.{◌≡◌, ◌≢◌, ◌↔◌, ℕ, ◌+◌, ◌<◌, Bool, true, false, eqb, IsTrue, List, [], ◌∷◌, ◌++◌, inl, inr, length, get_or, take, drop}
use Rattle.std.proofs.Common.{encode_utf8, encode_utf8_all, IsUtf8, refl, sym, ap, subst, ◌∙◌, arith}
use Rattle.std.specs.Str.{chars}
use Rattle.std.specs.List.{concat, AllByRecursion}
use Rattle.std.proofs.lemmas.Str.{encodes-chars, encode_ascii, chars-append, chars_past_char, IsUtf8-take, IsUtf8-drop, IsCharBoundary-before_ascii}
use Rattle.std.proofs.lemmas.List.{length-append, get_or-append-add, get_or_at, take_at, drop_at}
use Rattle.strkw_text.specs.Abnf.{Form, ◌⨾◌, ◌∣◌, Literal, Optional, Repeat, Times, OneOf, SeparatedBy}
use Rattle.strkw_text.specs.Delimiters.{Without}
use Rattle.strkw_text.proofs.Laws.{then, assoc, Repeat-cases, then_empty}
use Rattle.strkw_text.proofs.Runs.{differ}

module _ (w : ℕ) (low : w < 128) where
  -- no byte, so no character
  pub chars_without : (bs : List ℕ) → IsUtf8 bs → ((i : ℕ) → i < length bs → get_or bs i 0 ≢ w) → Without w (chars bs)
  chars_without bs u h = go (chars bs) (subst (λ s. (i : ℕ) → i < length s → get_or s i 0 ≢ w) (sym (encodes-chars bs u)) h)
    where
      -- the same of characters, by the bytes that they encode to
      go : (cs : List ℕ) → ((i : ℕ) → i < length (encode_utf8_all cs) → get_or (encode_utf8_all cs) i 0 ≢ w) → Without w cs
      go [] f = tt
      go (c ∷ cs) f = (
        λ e.
            let one : encode_utf8 c ≡ w ∷ [] = ap encode_utf8 e ∙ encode_ascii w (omega arith) in
            let at : w ∷ encode_utf8_all cs ≡ encode_utf8_all (c ∷ cs) = ap (λ s. s ++ encode_utf8_all cs) (sym one) in
            f 0 (omega (arith, ap length at)) (ap (λ s. get_or s 0 0) (sym at)),
        go cs (λ i l e. f (length (encode_utf8 c) + i) (omega (arith, length-append (encode_utf8 c) (encode_utf8_all cs)))
            (get_or-append-add (encode_utf8 c) (encode_utf8_all cs) i 0 ∙ e)),
      )

  -- the two parts of the bytes are those of the characters
  pub record Cut (bs xs ys : List ℕ) : Type 0 where
    pub utf8 : IsUtf8 xs
    pub is : chars bs ≡ chars xs ++ w ∷ chars ys

  -- where UTF-8 bytes are cut at the delimiter, the front is UTF-8 and the characters are cut there too
  pub chars_cut : (bs xs ys : List ℕ) → IsUtf8 bs → bs ≡ xs ++ w ∷ ys → Cut bs xs ys
  chars_cut bs xs ys u e =
      let inside : length xs < length bs = omega (arith, ap length e, length-append xs (w ∷ ys)) in
      let at : get_or bs (length xs) 0 ≡ w = ap (λ s. get_or s (length xs) 0) e ∙ get_or_at xs w ys 0 (length xs) refl in
      let below : get_or bs (length xs) 0 < 128 = omega arith in
      let front : take (length xs) bs ≡ xs = ap (take (length xs)) e ∙ take_at xs (w ∷ ys) (length xs) refl in
      let mid : drop (length xs) bs ≡ w ∷ ys = ap (drop (length xs)) e ∙ drop_at xs (w ∷ ys) (length xs) refl in
      let fx : IsUtf8 xs = subst IsUtf8 front (IsUtf8-take bs (length xs) u (IsCharBoundary-before_ascii bs (length xs) inside below)) in
      let fm : IsUtf8 (w ∷ ys) = subst IsUtf8 mid (IsUtf8-drop bs (length xs) u (IsCharBoundary-before_ascii bs (length xs) inside below)) in
      record {
        utf8 = fx;
        is = ap chars e ∙ chars-append xs (w ∷ ys) fx ∙ ap (λ s. chars xs ++ s)
            (chars_past_char (w ∷ ys) ys w fm (ap (λ s. s ++ ys) (sym (encode_ascii w (omega arith)))));
      }

  -- the first such character is settled by the text
  pub delimiter_once : (a b x y : List ℕ) → Without w a → Without w b → a ++ w ∷ x ≡ b ++ w ∷ y → (a ≡ b) × (x ≡ y)
  delimiter_once [] [] x y n m e = (refl, let t : w ∷ x ≡ w ∷ y = e in cc)
  delimiter_once [] (d ∷ b) x y n m e = absurd (let t : w ∷ x ≡ d ∷ (b ++ w ∷ y) = e in let u : d ≡ w = cc in m.0 u)
  delimiter_once (c ∷ a) [] x y n m e = absurd (let t : c ∷ (a ++ w ∷ x) ≡ w ∷ y = e in let u : c ≡ w = cc in n.0 u)
  delimiter_once (c ∷ a) (d ∷ b) x y n m e =
      let t : c ∷ (a ++ w ∷ x) ≡ d ∷ (b ++ w ∷ y) = e in
      let u : a ++ w ∷ x ≡ b ++ w ∷ y = cc in
      let v : c ≡ d = cc in
      let r = delimiter_once a b x y n.1 m.1 u in
      ((λ i. v i ∷ r.0 i), r.1)

  -- two texts without the delimiter have none when they are joined
  pub Without-append : (a b : List ℕ) → Without w a → Without w b → Without w (a ++ b)
  Without-append [] b n m = m
  Without-append (c ∷ a) b n m = (n.0, Without-append a b n.1 m)

  -- A B derives no text with the delimiter where neither A nor B does
  pub then_without : (A B : Form) → ((x : List ℕ) → A x → Without w x) → ((x : List ℕ) → B x → Without w x) → (x : List ℕ) → (A ⨾ B) x → Without w x
  then_without A B a b x h = subst (Without w) h.joined (Without-append h.front h.back (a h.front h.first) (b h.back h.second))

  -- parts of a form that derives no text with the delimiter have none when they are joined
  parts_without : (A : Form) → ((x : List ℕ) → A x → Without w x) → (ps : List (List ℕ)) → AllByRecursion A ps → Without w (concat ps)
  parts_without A a [] e = tt
  parts_without A a (p ∷ ps) e = Without-append p (concat ps) (a p e.0) (parts_without A a ps e.1)

  -- *A derives no text with the delimiter where A does not
  pub repeat_without : (A : Form) → ((x : List ℕ) → A x → Without w x) → (x : List ℕ) → Repeat A x → Without w x
  repeat_without A a x h = subst (Without w) h.joined (parts_without A a h.parts h.each)

  -- low*highA derives no text with the delimiter where A does not
  pub times_without : (low high : ℕ) (A : Form) → ((x : List ℕ) → A x → Without w x) → (x : List ℕ) → Times low high A x → Without w x
  times_without low high A a x h = subst (Without w) h.joined (parts_without A a h.parts h.each)

  -- a class that the delimiter is not of derives no text with it
  pub one_without : (class : ℕ → Bool) → class w ≡ false → (x : List ℕ) → OneOf class x → Without w x
  one_without class n x h = subst (Without w) (sym h.is) ((λ e. let m : class w ≡ true = subst (λ c. IsTrue (class c)) e h.member in cc), tt)

  -- A / B derives no text with the delimiter where neither A nor B does
  pub either_without : (A B : Form) → ((x : List ℕ) → A x → Without w x) → ((x : List ℕ) → B x → Without w x) → (x : List ℕ) → (A ∣ B) x → Without w x
  either_without A B a b x (inl h) = a x h
  either_without A B a b x (inr h) = b x h

  -- [A] derives no text with the delimiter where A does not
  pub optional_without : (A : Form) → ((x : List ℕ) → A x → Without w x) → (x : List ℕ) → Optional A x → Without w x
  optional_without A a x (inl e) = subst (Without w) (sym e) tt
  optional_without A a x (inr h) = a x h

  -- the literal of one other character is a text without the delimiter
  pub character_without : (c : ℕ) → eqb c w ≡ false → (x : List ℕ) → Literal (c ∷ []) x → Without w x
  character_without c n x e = subst (Without w) (sym e) (differ c w n, tt)

  -- A, the first such character and B
  -- are a text exactly where A, which derives none with it, derives what is before it and B what follows
  pub delimiter_then : (A B : Form) → ((x : List ℕ) → A x → Without w x) → (text front rest : List ℕ) → Without w front → text ≡ front ++ w ∷ rest
      → (A ⨾ Literal (w ∷ []) ⨾ B) text ↔ (A front × B rest)
  delimiter_then A B free text front rest n e = (
    λ h.
        let s = h.second in
        let t : h.front ++ w ∷ s.back ≡ front ++ w ∷ rest = ap (λ u. h.front ++ (u ++ s.back)) (sym s.first) ∙ ap (λ u. h.front ++ u) s.joined ∙ h.joined ∙ e in
        let r = delimiter_once h.front front s.back rest (free h.front h.first) n t in
        (subst A r.0 h.first, subst B r.1 s.second),
    λ p. then front (w ∷ rest) text p.0 (then (w ∷ []) rest _ refl p.1 refl) (sym e),
  )

  -- no text in which the delimiter stands is without it
  has_delimiter : (a b : List ℕ) → Without w (a ++ w ∷ b) → ⊥
  has_delimiter [] b m = m.0 refl
  has_delimiter (c ∷ a) b m = has_delimiter a b m.1

  -- no text without the delimiter is an A, the delimiter and a B
  pub no_delimiter_then : (A B : Form) (text : List ℕ) → Without w text → (A ⨾ Literal (w ∷ []) ⨾ B) text → ⊥
  no_delimiter_then A B text n h =
      let s = h.second in
      let t : h.front ++ w ∷ s.back ≡ text = ap (λ u. h.front ++ (u ++ s.back)) (sym s.first) ∙ ap (λ u. h.front ++ u) s.joined ∙ h.joined in
      has_delimiter h.front s.back (subst (Without w) (sym t) n)

  -- no text in which the delimiter stands is an A, where A derives none with it
  pub delimiter_there : (A : Form) → ((x : List ℕ) → A x → Without w x) → (text front rest : List ℕ) → text ≡ front ++ w ∷ rest → A text → ⊥
  delimiter_there A free text front rest e a = has_delimiter front rest (subst (Without w) e (free text a))

  -- As with the delimiter between them, by the first delimiter
  -- are one A, or an A, the delimiter and such As again
  separated_cases : (A : Form) (text : List ℕ) → SeparatedBy w A text ↔ (A ∣ A ⨾ Literal (w ∷ []) ⨾ SeparatedBy w A) text
  separated_cases A text = (
    λ h. elim ((Repeat-cases (Literal (w ∷ []) ⨾ A) h.back).0 h.second) [
      | inl e ↦ inl ((then_empty A text).1 (then h.front h.back text h.first e h.joined))
      | inr r ↦ inr (then h.front h.back text h.first ((assoc (Literal (w ∷ [])) A (Repeat (Literal (w ∷ []) ⨾ A)) h.back).0 r) h.joined)
    ],
    elim [
      | inl a ↦ let k = (then_empty A text).0 a in then k.front k.back text k.first ((Repeat-cases (Literal (w ∷ []) ⨾ A) k.back).1 (inl k.second)) k.joined
      | inr h ↦ then h.front h.back text h.first ((Repeat-cases (Literal (w ∷ []) ⨾ A) h.back).1
          (inr ((assoc (Literal (w ∷ [])) A (Repeat (Literal (w ∷ []) ⨾ A)) h.back).1 h.second))) h.joined
    ],
  )

  -- with a first delimiter, a text is such As exactly where an A is before it and such As behind it,
  -- where A derives no text with the delimiter
  pub separated_step : (A : Form) → ((x : List ℕ) → A x → Without w x) → (text front rest : List ℕ) → Without w front → text ≡ front ++ w ∷ rest
      → SeparatedBy w A text ↔ (A front × SeparatedBy w A rest)
  separated_step A free text front rest n e =
      let i = delimiter_then A (SeparatedBy w A) free text front rest n e in (
        λ h. elim ((separated_cases A text).0 h) [ inl a ↦ absurd (delimiter_there A free text front rest e a) | inr r ↦ i.0 r ],
        λ h. (separated_cases A text).1 (inr (i.1 h)),
      )

  -- a text without the delimiter is such As exactly where it is an A
  pub separated_end : (A : Form) (text : List ℕ) → Without w text → SeparatedBy w A text ↔ A text
  separated_end A text n = (
    λ h. elim ((separated_cases A text).0 h) [ inl a ↦ a | inr r ↦ absurd (no_delimiter_then A (SeparatedBy w A) text n r) ],
    λ a. (separated_cases A text).1 (inl a),
  )
