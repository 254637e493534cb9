-- What stands between brackets, by its tag.
use Rattle.std.proofs.Common.{◌≡◌, ◌↔◌, ℕ, suc, ◌-◌, ◌≤◌, Bool, IsTrue, map, List, []}
use Rattle.std.proofs.Common.{◌∷◌, ◌++◌, length, get_or, take, drop, inl, inr, refl, sym, ap, subst, ◌∙◌, arith}
use Rattle.std.specs.Prelude.{codes}
use Rattle.std.specs.Char.{is_ascii_alphanumeric, to_ascii_lowercase}
use Rattle.std.proofs.Math.Seq.{drop-cons}
use Rattle.std.proofs.lemmas.List.{take-append-drop, drop_all}
use Rattle.strkw_text.specs.Abnf.{Form, ◌⨾◌, Literal, Repeat, Repeat1, OneOf}
use Rattle.strkw_text.specs.Delimiters.{Without}
use Rattle.strkw_text.specs.Fronts.{StartsWith, RunThen}
use Rattle.strkw_text.proofs.Delimiters.{then_without, repeat_without, one_without, delimiter_then, no_delimiter_then}
use Rattle.strkw_text.proofs.Equivalences.{iff_trans}
use Rattle.strkw_text.proofs.Laws.{then, one_of}
use Rattle.strkw_text.proofs.Runs.{OneOf-free, free_then, run_whole, one_stops_nil, differ}
use Rattle.strkw_net.specs.HostName.{is_letter_digit_hyphen}
use Rattle.strkw_net.specs.Spellings.{LetDig}
use Rattle.strkw_mail.specs.Characters.{is_dcontent}
use Rattle.strkw_mail.specs.AddressLiteral.{LdhStr, Ipv4AddressLiteral, Ipv6Addr, Ipv6Tag, StandardizedTag, Bracketed}
use Rattle.strkw_mail.proofs.Colons.{colon_low, no_ipv4}

-- ---- the last character

-- a text that is not empty is what stands before its last character, and this one
pub front_and_last : (bs : List ℕ) → 1 ≤ length bs → bs ≡ take (length bs - 1) bs ++ get_or bs (length bs - 1) 0 ∷ []
front_and_last bs h =
    let last : drop (length bs - 1) bs ≡ get_or bs (length bs - 1) 0 ∷ [] = drop-cons bs (length bs - 1) 0 (omega arith)
    ∙ ap (λ (x : List ℕ). get_or bs (length bs - 1) 0 ∷ x) (drop_all (suc (length bs - 1)) bs (omega arith)) in
    sym (take-append-drop (length bs - 1) bs) ∙ ap (λ (x : List ℕ). take (length bs - 1) bs ++ x) last

-- no text with a last character is empty
not_nil : (xs : List ℕ) (a : ℕ) → xs ++ a ∷ [] ≡ [] → ⊥
not_nil [] a e = let t : a ∷ [] ≡ [] = e in cc
not_nil (x ∷ xs) a e = let t : x ∷ (xs ++ a ∷ []) ≡ [] = e in cc

-- the last character, and what stands before it, are settled by the text
last_once : (xs ys : List ℕ) (a b : ℕ) → xs ++ a ∷ [] ≡ ys ++ b ∷ [] → (xs ≡ ys) × (a ≡ b)
last_once [] [] a b e = (refl, let t : a ∷ [] ≡ b ∷ [] = e in cc)
last_once [] (y ∷ ys) a b e = absurd (not_nil ys b (let t : a ∷ [] ≡ y ∷ (ys ++ b ∷ []) = e in let u : ys ++ b ∷ [] ≡ [] = cc in u))
last_once (x ∷ xs) [] a b e = absurd (not_nil xs a (let t : x ∷ (xs ++ a ∷ []) ≡ b ∷ [] = e in let u : xs ++ a ∷ [] ≡ [] = cc in u))
last_once (x ∷ xs) (y ∷ ys) a b e =
    let t : x ∷ (xs ++ a ∷ []) ≡ y ∷ (ys ++ b ∷ []) = e in
    let u : xs ++ a ∷ [] ≡ ys ++ b ∷ [] = cc in
    let v : x ≡ y = cc in
    let r = last_once xs ys a b u in
    ((λ i. v i ∷ r.0 i), r.1)

module _ (A : Form) (c : ℕ) where
  -- the character c ends an A c, and A derives what stands before it
  pub last_then : (text inside : List ℕ) → text ≡ inside ++ c ∷ [] → (A ⨾ Literal (c ∷ [])) text ↔ A inside
  last_then text inside e = (
    λ h. subst A (last_once h.front inside c c (ap (λ s. h.front ++ s) (sym h.second) ∙ h.joined ∙ e)).0 h.first,
    λ a. then inside (c ∷ []) text a refl (sym e),
  )

  -- no other character does
  pub other_last : (text inside : List ℕ) (d : ℕ) → text ≡ inside ++ d ∷ [] → (d ≡ c → ⊥) → (A ⨾ Literal (c ∷ [])) text → ⊥
  other_last text inside d e n h = n (sym (last_once h.front inside c d (ap (λ s. h.front ++ s) (sym h.second) ∙ h.joined ∙ e)).1)

  -- and no empty text is one
  pub nothing_last : (text : List ℕ) → text ≡ [] → (A ⨾ Literal (c ∷ [])) text → ⊥
  nothing_last text e h = not_nil h.front c (ap (λ s. h.front ++ s) (sym h.second) ∙ h.joined ∙ e)

-- a text is an Ldh-str exactly where its last character is a letter or a digit, behind letters, digits and hyphens
pub ldh_by_last : (text front : List ℕ) (last : ℕ) → text ≡ front ++ last ∷ []
    → LdhStr text ↔ (IsTrue (is_ascii_alphanumeric last) × Repeat (OneOf is_letter_digit_hyphen) front)
ldh_by_last text front last e = (
  λ h.
      let o = last_once h.front front h.second.character last (ap (λ s. h.front ++ s) (sym h.second.is) ∙ h.joined ∙ e) in
      (subst (λ c. IsTrue (is_ascii_alphanumeric c)) o.1 h.second.member, subst (Repeat (OneOf is_letter_digit_hyphen)) o.0 h.first),
  λ p. then front (last ∷ []) text p.1 (one_of is_ascii_alphanumeric last p.0) (sym e),
)

-- an empty text is none
pub no_empty_ldh : (text : List ℕ) → text ≡ [] → LdhStr text → ⊥
no_empty_ldh text e h = not_nil h.front h.second.character (ap (λ s. h.front ++ s) (sym h.second.is) ∙ h.joined ∙ e)

-- characters of a class that have been skipped
-- are the whole text exactly where nothing is left
pub run_all : (class : ℕ → Bool) (text rest : List ℕ) → RunThen (OneOf class) text rest → Repeat (OneOf class) text ↔ (rest ≡ [])
run_all class text rest r = run_whole (OneOf class) text rest (OneOf-free class) (one_stops_nil class [] refl) r

-- one at least, and others
pub run1_all : (class : ℕ → Bool) (text mid rest : List ℕ) → StartsWith (OneOf class) text mid → RunThen (OneOf class) mid rest
    → Repeat1 (OneOf class) text ↔ (rest ≡ [])
run1_all class text mid rest f r = iff_trans (free_then (OneOf class) (Repeat (OneOf class)) text mid (OneOf-free class) f) (run_all class mid rest r)

-- ---- the tag

-- a text whose lower case holds no colon holds none
lower_without : (x : List ℕ) → Without 58 (map to_ascii_lowercase x) → Without 58 x
lower_without [] h = tt
lower_without (c ∷ x) h = (λ e. h.0 (ap to_ascii_lowercase e), lower_without x h.1)

-- "ipv6" holds none
letters_no_colon : Without 58 (codes "ipv6")
letters_no_colon = (differ 105 58 refl, (differ 112 58 refl, (differ 118 58 refl, (differ 54 58 refl, tt))))

-- nor does the tag of IPv6
ipv6_tag_no_colon : (x : List ℕ) → Ipv6Tag x → Without 58 x
ipv6_tag_no_colon x h = lower_without x (subst (Without 58) (sym h) letters_no_colon)

-- nor any other
tag_no_colon : (x : List ℕ) → StandardizedTag x → Without 58 x
tag_no_colon x s = then_without 58 colon_low (Repeat (OneOf is_letter_digit_hyphen)) LetDig
    (repeat_without 58 colon_low (OneOf is_letter_digit_hyphen) (one_without 58 colon_low is_letter_digit_hyphen refl))
    (one_without 58 colon_low is_ascii_alphanumeric refl) x s.rule

-- what may stand behind another tag
abbrev pub Content : Form
Content = Repeat1 (OneOf is_dcontent)

module _ (text tag address : List ℕ) (n : Without 58 tag) (e : text ≡ tag ++ 58 ∷ address) where
  -- a tag of IPv6 and an address
  six : (Ipv6Tag ⨾ Literal (58 ∷ []) ⨾ Ipv6Addr) text ↔ (Ipv6Tag tag × Ipv6Addr address)
  six = delimiter_then 58 colon_low Ipv6Tag Ipv6Addr ipv6_tag_no_colon text tag address n e

  -- another tag and what stands behind it
  general : (StandardizedTag ⨾ Literal (58 ∷ []) ⨾ Content) text ↔ (StandardizedTag tag × Content address)
  general = delimiter_then 58 colon_low StandardizedTag Content tag_no_colon text tag address n e

  -- behind the tag of IPv6 an IPv6-addr stands
  pub tagged_ipv6 : Ipv6Tag tag → Bracketed text ↔ Ipv6Addr address
  tagged_ipv6 t = (
    λ b. elim b [
      | inl v ↦ absurd (no_ipv4 text tag address n e v)
      | inr r ↦ elim r [ inl h ↦ (six.0 h).1 | inr g ↦ absurd ((general.0 g).0.other t) ]
    ],
    λ a. inr (inl (six.1 (t, a))),
  )

  -- behind another tag, any content
  pub tagged_other : (Ipv6Tag tag → ⊥) → Bracketed text ↔ (LdhStr tag × Content address)
  tagged_other o = (
    λ b. elim b [
      | inl v ↦ absurd (no_ipv4 text tag address n e v)
      | inr r ↦ elim r [ inl h ↦ absurd (o (six.0 h).0) | inr g ↦ ((general.0 g).0.rule, (general.0 g).1) ]
    ],
    λ p. inr (inr (general.1 (record { rule = p.0; other = o }, p.1))),
  )

-- without a colon, an IPv4 address stands between the brackets
pub untagged : (text : List ℕ) → Without 58 text → Bracketed text ↔ Ipv4AddressLiteral text
untagged text n = (
  λ b. elim b [
    | inl v ↦ v
    | inr r ↦ elim r [
      | inl h ↦ absurd (no_delimiter_then 58 colon_low Ipv6Tag Ipv6Addr text n h)
      | inr g ↦ absurd (no_delimiter_then 58 colon_low StandardizedTag Content text n g)
    ]
  ],
  inl,
)
