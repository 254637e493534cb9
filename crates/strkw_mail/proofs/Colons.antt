-- Addresses read at their colons and dots.
use Rattle.std.proofs.Common.{◌≡◌, ◌↔◌, ℕ, zero, suc, ◌-◌, ◌<◌, ◌≤◌, ◌⊎◌, false, List, [], ◌∷◌, ◌++◌, inl, inr, refl, sym, subst, arith}
use Rattle.std.specs.Char.{is_ascii_digit, is_ascii_hexdigit}
use Rattle.strkw_text.specs.Abnf.{Form, ◌⨾◌, ◌∣◌, Literal, Exactly}
use Rattle.strkw_text.specs.Characters.{Digit, HexDigit}
use Rattle.strkw_text.specs.Delimiters.{Without}
use Rattle.strkw_text.specs.Fronts.{NotFirst}
use Rattle.strkw_text.proofs.Classes.{times_class}
use Rattle.strkw_text.proofs.Delimiters.{then_without, times_without, one_without, character_without, delimiter_then, no_delimiter_then, delimiter_there}
use Rattle.strkw_text.proofs.Equivalences.{iff_trans}
use Rattle.strkw_text.proofs.Laws.{literal_at, literal_not}
use Rattle.strkw_mail.specs.AddressLiteral.{Snum, Ipv4AddressLiteral, Ipv6Hex, Ipv6Addr}
use Rattle.strkw_mail.specs.Scan.{SomeGroups, GroupsBehind, FromGroup}
use Rattle.strkw_mail.proofs.Groups.{Colon, two_colons, ipv6_by_front}
use Rattle.strkw_mail.proofs.Rows.{plain_more, plain_none}

-- the colon is an ASCII character
pub colon_low : 58 < 128
colon_low = omega arith

-- and so is the dot
dot_low : 46 < 128
dot_low = omega arith

-- a number of an IPv4 address holds no character but digits
snum_without : (w : ℕ) → (low : w < 128) → is_ascii_digit w ≡ false → (x : List ℕ) → Snum x → Without w x
snum_without w low n x s = times_without w low 1 3 Digit (one_without w low is_ascii_digit n) x s.digits

-- a dot and a number
abbrev DotSnum : Form
DotSnum = Literal (46 ∷ []) ⨾ Snum

-- numbers with dots between them hold no colon
pub ipv4_no_colon : (x : List ℕ) → Ipv4AddressLiteral x → Without 58 x
ipv4_no_colon = then_without 58 colon_low Snum (Exactly 3 DotSnum) (snum_without 58 colon_low refl)
    (times_without 58 colon_low 3 3 DotSnum (then_without 58 colon_low (Literal (46 ∷ [])) Snum (character_without 58 colon_low 46 refl)
    (snum_without 58 colon_low refl)))

-- a group holds no colon
hex_no_colon : (x : List ℕ) → Ipv6Hex x → Without 58 x
hex_no_colon = times_without 58 colon_low 1 4 HexDigit (one_without 58 colon_low is_ascii_hexdigit refl)

-- ---- numbers with dots between them

-- a number and so many further ones
abbrev pub Snums : ℕ → Form
Snums further = Snum ⨾ Exactly further DotSnum

-- up to the first dot a number stands, and one fewer behind it
pub snums_step : (k : ℕ) → 0 < k → (text front rest : List ℕ) → Without 46 front → text ≡ front ++ 46 ∷ rest
    → Snums k text ↔ (Snum front × Snums (k - 1) rest)
snums_step zero l text front rest n e = absurd (omega arith)
snums_step (suc m) l text front rest n e =
    let same : m ≡ suc m - 1 = omega arith in
    let i = iff_trans (plain_more 46 Snum m text) (delimiter_then 46 dot_low Snum (Snums m) (snum_without 46 dot_low refl) text front rest n e) in
    (λ h. ((i.0 h).0, subst (λ k. Snums k rest) same (i.0 h).1), λ h. i.1 (h.0, subst (λ k. Snums k rest) (sym same) h.1))

-- without a dot there are no further ones
pub snums_stop : (k : ℕ) → 0 < k → (text : List ℕ) → Without 46 text → Snums k text → ⊥
snums_stop zero l text n h = absurd (omega arith)
snums_stop (suc m) l text n h = no_delimiter_then 46 dot_low Snum (Snums m) text n ((plain_more 46 Snum m text).0 h)

-- none further: a number
pub snums_end : (k : ℕ) → k ≡ 0 → (text : List ℕ) → Snums k text ↔ Snum text
snums_end zero e text = plain_none 46 Snum text
snums_end (suc m) e text = absurd (omega arith)

-- ---- groups

-- no group is empty
no_empty_group : Ipv6Hex [] → ⊥
no_empty_group h = let a = (times_class is_ascii_hexdigit 1 4 []).0 h in omega (arith, a.1)

module _ (text front rest : List ℕ) (n : Without 58 front) (e : text ≡ front ++ 58 ∷ rest) where
  -- at a colon: a group is before it, and B behind
  at_colon : (B : Form) → (Ipv6Hex ⨾ Colon ⨾ B) text ↔ (Ipv6Hex front × B rest)
  at_colon B = delimiter_then 58 colon_low Ipv6Hex B hex_no_colon text front rest n e

  -- such a text is no group
  no_hex : Ipv6Hex text → ⊥
  no_hex = delimiter_there 58 colon_low Ipv6Hex hex_no_colon text front rest e

  -- and no IPv4 address
  pub no_ipv4 : Ipv4AddressLiteral text → ⊥
  no_ipv4 = delimiter_there 58 colon_low Ipv4AddressLiteral ipv4_no_colon text front rest e

  -- where it is some groups, there are two at least, and a group is before the colon
  pub some_group : (k : ℕ) → SomeGroups k text → (2 ≤ k) × Ipv6Hex front
  some_group zero h = absurd h
  some_group (suc zero) h = absurd (no_hex h)
  some_group (suc (suc m)) (inl h) = absurd (no_hex h)
  some_group (suc (suc m)) (inr (inl h)) = absurd (no_ipv4 h)
  some_group (suc (suc m)) (inr (inr h)) = (omega arith, ((at_colon (SomeGroups (suc m))).0 h).0)

  -- then it is some groups exactly where one fewer is behind
  pub some_step : (k : ℕ) → 2 ≤ k → Ipv6Hex front → SomeGroups k text ↔ SomeGroups (k - 1) rest
  some_step zero l g = absurd (omega arith)
  some_step (suc zero) l g = absurd (omega arith)
  some_step (suc (suc m)) l g =
      let same : suc m ≡ suc (suc m) - 1 = omega arith in
      let i = at_colon (SomeGroups (suc m)) in (
        λ h. subst (λ k. SomeGroups k rest) same (elim h [
          | inl a ↦ absurd (no_hex a)
          | inr b ↦ elim b [ inl v ↦ absurd (no_ipv4 v) | inr r ↦ (i.0 r).1 ]
        ]),
        λ r. inr (inr (i.1 (g, subst (λ k. SomeGroups k rest) (sym same) r))),
      )

  -- from a group on: one at least is still to come, and a group is before the colon
  pub from_group : (k : ℕ) → FromGroup k text → (1 ≤ k) × Ipv6Hex front
  from_group zero h = absurd (no_hex h)
  from_group (suc zero) (inl h) = absurd (no_ipv4 h)
  from_group (suc zero) (inr h) = (omega arith, ((at_colon Ipv6Hex).0 h).0)
  from_group (suc (suc m)) h = (omega arith, ((at_colon (Colon ⨾ GroupsBehind m ∣ FromGroup (suc m))).0 h).0)

-- a text from a group on does not begin with a colon
pub no_colon_first : (k : ℕ) (text rest : List ℕ) → text ≡ 58 ∷ rest → FromGroup k text → ⊥
no_colon_first k text rest e h = no_empty_group (from_group text [] rest tt e k h).1

module _ (text front rest : List ℕ) (n : Without 58 front) (e : text ≡ front ++ 58 ∷ rest) (g : Ipv6Hex front) where
  -- where no second colon follows, it goes on from the next group
  pub from_single : (k : ℕ) → 1 ≤ k → NotFirst 58 rest → FromGroup k text ↔ FromGroup (k - 1) rest
  from_single zero l o = absurd (omega arith)
  from_single (suc zero) l o =
      let same : 0 ≡ suc zero - 1 = omega arith in
      let i = at_colon text front rest n e Ipv6Hex in (
        λ h. subst (λ k. FromGroup k rest) same (elim h [ inl v ↦ absurd (no_ipv4 text front rest n e v) | inr r ↦ (i.0 r).1 ]),
        λ r. inr (i.1 (g, subst (λ k. FromGroup k rest) (sym same) r)),
      )
  from_single (suc (suc m)) l o =
      let same : suc m ≡ suc (suc m) - 1 = omega arith in
      let i = at_colon text front rest n e (Colon ⨾ GroupsBehind m ∣ FromGroup (suc m)) in (
        λ h. subst (λ k. FromGroup k rest) same (elim (i.0 h).1 [ inl c ↦ absurd (literal_not (GroupsBehind m) 58 rest o c) | inr f ↦ f ]),
        λ r. i.1 (g, inr (subst (λ k. FromGroup k rest) (sym same) r)),
      )

  -- where one follows, two groups at least are left out, and the others stand behind it
  pub from_double : (k : ℕ) → 1 ≤ k → (behind : List ℕ) → rest ≡ 58 ∷ behind → FromGroup k text ↔ ((1 < k) × GroupsBehind (k - 2) behind)
  from_double zero l behind f = absurd (omega arith)
  from_double (suc zero) l behind f =
      let i = at_colon text front rest n e Ipv6Hex in
      let none = delimiter_there 58 colon_low Ipv6Hex hex_no_colon rest [] behind f in
      (λ h. elim h [ inl v ↦ absurd (no_ipv4 text front rest n e v) | inr r ↦ absurd (none (i.0 r).1) ], λ p. absurd (omega (arith, p.0)))
  from_double (suc (suc m)) l behind f =
      let same : m ≡ suc (suc m) - 2 = omega arith in
      let i = at_colon text front rest n e (Colon ⨾ GroupsBehind m ∣ FromGroup (suc m)) in
      let j = literal_at (GroupsBehind m) 58 rest behind f in (
        λ h. elim (i.0 h).1 [
          | inl c ↦ (omega arith, subst (λ k. GroupsBehind k behind) same (j.0 c))
          | inr r ↦ absurd (no_colon_first (suc m) rest behind f r)
        ],
        λ p. i.1 (g, inl (j.1 (subst (λ k. GroupsBehind k behind) (sym same) p.1))),
      )

module _ (text : List ℕ) (n : Without 58 text) where
  -- without a colon there is nothing behind one
  none_behind : (B : Form) → (Ipv6Hex ⨾ Colon ⨾ B) text → ⊥
  none_behind B = no_delimiter_then 58 colon_low Ipv6Hex B text n

  -- some groups without a colon are one, or an IPv4 address
  pub some_last : (k : ℕ) → SomeGroups k text ↔ (((0 < k) × Ipv6Hex text) ⊎ ((1 < k) × Ipv4AddressLiteral text))
  some_last zero = (λ h. absurd h, elim [ inl p ↦ absurd (omega (arith, p.0)) | inr p ↦ absurd (omega (arith, p.0)) ])
  some_last (suc zero) = (λ h. inl (omega arith, h), elim [ inl p ↦ p.1 | inr p ↦ absurd (omega (arith, p.0)) ])
  some_last (suc (suc m)) = (
    λ h. elim h [
      | inl a ↦ inl (omega arith, a)
      | inr b ↦ elim b [ inl v ↦ inr (omega arith, v) | inr r ↦ absurd (none_behind (SomeGroups (suc m)) r) ]
    ],
    elim [ inl p ↦ inl p.1 | inr p ↦ inr (inl p.1) ],
  )

  -- from a group on, without a colon, the last group stands, or an IPv4 address in the place of the last two
  pub from_last : (k : ℕ) → FromGroup k text ↔ (((k ≡ 0) × Ipv6Hex text) ⊎ ((k ≡ 1) × Ipv4AddressLiteral text))
  from_last zero = (λ h. inl (refl, h), elim [ inl p ↦ p.1 | inr p ↦ absurd (omega (arith, p.0)) ])
  from_last (suc zero) = (
    λ h. elim h [ inl v ↦ inr (refl, v) | inr r ↦ absurd (none_behind Ipv6Hex r) ],
    elim [ inl p ↦ absurd (omega (arith, p.0)) | inr p ↦ inl p.1 ],
  )
  from_last (suc (suc m)) = (
    λ h. absurd (none_behind (Colon ⨾ GroupsBehind m ∣ FromGroup (suc m)) h),
    elim [ inl p ↦ absurd (omega (arith, p.0)) | inr p ↦ absurd (omega (arith, p.0)) ],
  )

-- ---- by the front

-- behind two colons
pub address_at_two : (text rest behind : List ℕ) → text ≡ 58 ∷ rest → rest ≡ 58 ∷ behind → Ipv6Addr text ↔ GroupsBehind 6 behind
address_at_two text rest behind e f =
    let i = ipv6_by_front text in
    let j = iff_trans (two_colons (GroupsBehind 6) text)
    (iff_trans (literal_at (Colon ⨾ GroupsBehind 6) 58 text rest e) (literal_at (GroupsBehind 6) 58 rest behind f)) in
    (λ h. elim (i.0 h) [ inl c ↦ j.0 c | inr g ↦ absurd (no_colon_first 7 text rest e g) ], λ b. i.1 (inl (j.1 b)))

-- no address begins with one colon alone
pub address_at_one : (text rest : List ℕ) → text ≡ 58 ∷ rest → NotFirst 58 rest → Ipv6Addr text → ⊥
address_at_one text rest e n h = elim ((ipv6_by_front text).0 h) [
  | inl c ↦ literal_not (GroupsBehind 6) 58 rest n ((literal_at (Colon ⨾ GroupsBehind 6) 58 text rest e).0 ((two_colons (GroupsBehind 6) text).0 c))
  | inr g ↦ no_colon_first 7 text rest e g
]

-- without a colon in front, it begins with a group
pub address_at_group : (text : List ℕ) → NotFirst 58 text → Ipv6Addr text ↔ FromGroup 7 text
address_at_group text n =
    let i = ipv6_by_front text in (
      λ h. elim (i.0 h) [ inl c ↦ absurd (literal_not (Colon ⨾ GroupsBehind 6) 58 text n ((two_colons (GroupsBehind 6) text).0 c)) | inr g ↦ g ],
      λ g. i.1 (inr g),
    )
