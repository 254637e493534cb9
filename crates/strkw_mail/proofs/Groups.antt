-- The four kinds of IPv6-addr, group by group.
use Rattle.std.proofs.Common.{◌≡◌, ◌↔◌, ℕ, zero, suc, ◌+◌, ◌-◌, ◌<◌, ◌≤◌, ◌⊎◌, List, [], ◌∷◌, ◌++◌, inl, inr, refl, sym, ap, subst, ◌∙◌, arith}
use Rattle.strkw_text.specs.Abnf.{Form, ◌⨾◌, ◌∣◌, Literal, Empty, Exactly}
use Rattle.strkw_text.proofs.Equivalences.{iff_trans}
use Rattle.strkw_text.proofs.Laws.{then, assoc, assoc3, back_cong, front_cong, empty_then, then_empty}
use Rattle.strkw_text.proofs.Weaker.{Then-weaker}
use Rattle.strkw_mail.specs.AddressLiteral.{Ipv4AddressLiteral, Ipv6Hex, ColonHex, Groups, GroupsColon, Ipv6Addr}
use Rattle.strkw_mail.specs.Scan.{SomeGroups, GroupsBehind, FromGroup}
use Rattle.strkw_mail.proofs.Rows.{plain_more, plain_none, row_more, row_none}

-- one colon, two, and an IPv4 address
abbrev pub Colon : Form
Colon = Literal (58 ∷ [])

-- two colons
abbrev pub TwoColons : Form
TwoColons = Literal (58 ∷ 58 ∷ [])

-- an IPv4 address
abbrev V4 : Form
V4 = Ipv4AddressLiteral

-- a group and so many further ones
abbrev Row : ℕ → Form
Row further = Ipv6Hex ⨾ Exactly further ColonHex

-- a group, a colon and more
abbrev Step : Form → Form
Step B = Ipv6Hex ⨾ Colon ⨾ B

-- what follows the colon may be weakened
step_weaker : (B B' : Form) → ((x : List ℕ) → B x → B' x) → (text : List ℕ) → Step B text → Step B' text
step_weaker B B' f text h = Then-weaker Ipv6Hex Ipv6Hex (Colon ⨾ B) (Colon ⨾ B') (λ x a. a) (λ x. Then-weaker Colon Colon B B' (λ y a. a) f x) text h

-- two colons are one and another
pub two_colons : (B : Form) (text : List ℕ) → (TwoColons ⨾ B) text ↔ (Colon ⨾ Colon ⨾ B) text
two_colons B text = (
  λ h. then (58 ∷ []) (58 ∷ h.back) text refl (then (58 ∷ []) h.back (58 ∷ h.back) refl h.second refl) (ap (λ s. s ++ h.back) (sym h.first) ∙ h.joined),
  λ h. then (58 ∷ 58 ∷ []) h.second.back text refl h.second.second
      (ap (λ s. 58 ∷ s) (ap (λ s. s ++ h.second.back) (sym h.second.first) ∙ h.second.joined) ∙ ap (λ s. s ++ h.back) (sym h.first) ∙ h.joined),
)

-- so many groups with colons behind them, and one more
colon_more : (k : ℕ) (text : List ℕ) → GroupsColon (suc k) text ↔ Step (GroupsColon k) text
colon_more zero text = iff_trans (row_none 58 Ipv6Hex Colon text) (back_cong Ipv6Hex Colon (Colon ⨾ Empty) text (then_empty Colon))
colon_more (suc k) text = row_more 58 Ipv6Hex k Colon text

-- and an IPv4 address behind them
ipv4_more : (k : ℕ) (text : List ℕ) → (GroupsColon (suc k) ⨾ V4) text ↔ Step (GroupsColon k ⨾ V4) text
ipv4_more k text = iff_trans (front_cong (GroupsColon (suc k)) (Step (GroupsColon k)) V4 text (colon_more k)) (assoc3 Ipv6Hex Colon (GroupsColon k) V4 text)

-- ---- behind two colons

-- fewer groups than n are some groups
some_from_row : (k n : ℕ) → k < n → (text : List ℕ) → Row k text → SomeGroups n text
some_from_row k zero l text h = absurd (omega arith)
some_from_row zero (suc zero) l text h = (plain_none 58 Ipv6Hex text).0 h
some_from_row (suc k) (suc zero) l text h = absurd (omega arith)
some_from_row zero (suc (suc m)) l text h = inl ((plain_none 58 Ipv6Hex text).0 h)
some_from_row (suc k) (suc (suc m)) l text h =
    inr (inr (step_weaker (Row k) (SomeGroups (suc m)) (some_from_row k (suc m) (omega arith)) text ((plain_more 58 Ipv6Hex k text).0 h)))

-- and so are groups and an IPv4 address, which counts two
some_from_ipv4 : (k n : ℕ) → k + 2 ≤ n → (text : List ℕ) → (GroupsColon k ⨾ V4) text → SomeGroups n text
some_from_ipv4 k zero l text h = absurd (omega arith)
some_from_ipv4 k (suc zero) l text h = absurd (omega arith)
some_from_ipv4 zero (suc (suc m)) l text h = inr (inl ((empty_then V4 text).0 h))
some_from_ipv4 (suc k) (suc (suc m)) l text h =
    inr (inr (step_weaker (GroupsColon k ⨾ V4) (SomeGroups (suc m)) (some_from_ipv4 k (suc m) (omega arith)) text ((ipv4_more k text).0 h)))

-- which of the two, and how many
abbrev Counted : ℕ → List ℕ → Type 0
Counted n text = ((k : ℕ) × (k < n) × Row k text) ⊎ ((k : ℕ) × (k + 2 ≤ n) × (GroupsColon k ⨾ V4) text)

-- some groups are one of the two
some_counted : (n : ℕ) (text : List ℕ) → SomeGroups n text → Counted n text
some_counted zero text h = absurd h
some_counted (suc zero) text h = inl (0, omega arith, (plain_none 58 Ipv6Hex text).1 h)
some_counted (suc (suc m)) text (inl h) = inl (0, omega arith, (plain_none 58 Ipv6Hex text).1 h)
some_counted (suc (suc m)) text (inr (inl h)) = inr (0, omega arith, (empty_then V4 text).1 h)
some_counted (suc (suc m)) text (inr (inr h)) = elim (some_counted (suc m) h.second.back h.second.second) [
  | inl r ↦ inl (suc r.0, omega (arith, r.1), (plain_more 58 Ipv6Hex r.0 text).1 (again (Row r.0) r.2))
  | inr r ↦ inr (suc r.0, omega (arith, r.1), (ipv4_more r.0 text).1 (again (GroupsColon r.0 ⨾ V4) r.2))
]
  where
    again : (B : Form) → B h.second.back → Step B text
    again B b = then h.front h.back text h.first (then h.second.front h.second.back h.back h.second.first b h.second.joined) h.joined

-- at most n groups, or none, may stand behind two colons
behind_from_groups : (a n : ℕ) → a ≤ n → (text : List ℕ) → Groups a text → GroupsBehind n text
behind_from_groups zero n l text h = inl h
behind_from_groups (suc a) n l text h = inr (some_from_row a n (omega arith) text h)

-- what stands there: groups, or groups and an IPv4 address
abbrev Behind : ℕ → List ℕ → Type 0
Behind n text = ((a : ℕ) × (a ≤ n) × Groups a text) ⊎ ((a : ℕ) × (a + 2 ≤ n) × (GroupsColon a ⨾ V4) text)

-- what may stand behind two colons is so many groups, or groups and an IPv4 address
behind_counted : (n : ℕ) (text : List ℕ) → GroupsBehind n text → Behind n text
behind_counted n text (inl e) = inl (0, omega arith, e)
behind_counted n text (inr h) = elim (some_counted n text h) [
  | inl r ↦ inl (suc r.0, omega (arith, r.1), r.2)
  | inr r ↦ inr (r.0, r.1, r.2)
]

-- ---- from a group on

-- as many groups as may stand before the last, and the last
from_row : (m : ℕ) (text : List ℕ) → Row m text → FromGroup m text
from_row zero text h = (plain_none 58 Ipv6Hex text).0 h
from_row (suc zero) text h = inr (step_weaker (Row 0) Ipv6Hex (λ x r. (plain_none 58 Ipv6Hex x).0 r) text ((plain_more 58 Ipv6Hex 0 text).0 h))
from_row (suc (suc m)) text h =
    step_weaker (Row (suc m)) (Colon ⨾ GroupsBehind m ∣ FromGroup (suc m)) (λ x r. inr (from_row (suc m) x r)) text ((plain_more 58 Ipv6Hex (suc m) text).0 h)

-- one fewer, and an IPv4 address
from_ipv4 : (k : ℕ) (text : List ℕ) → (GroupsColon k ⨾ V4) text → FromGroup (suc k) text
from_ipv4 zero text h = inl ((empty_then V4 text).0 h)
from_ipv4 (suc k) text h =
    step_weaker (GroupsColon k ⨾ V4) (Colon ⨾ GroupsBehind k ∣ FromGroup (suc k)) (λ x r. inr (from_ipv4 k x r)) text ((ipv4_more k text).0 h)

-- groups, two colons and what may stand behind these
from_compressed : (b m n : ℕ) → m ≡ b + n + 2 → (text : List ℕ) → (Ipv6Hex ⨾ Exactly b ColonHex ⨾ TwoColons ⨾ GroupsBehind n) text → FromGroup m text
from_compressed b zero n e text h = absurd (omega arith)
from_compressed b (suc zero) n e text h = absurd (omega arith)
from_compressed zero (suc (suc m)) n e text h =
    let same : n ≡ m = omega arith in
    let r = (back_cong Ipv6Hex (TwoColons ⨾ GroupsBehind n) (Colon ⨾ Colon ⨾ GroupsBehind n) text (two_colons (GroupsBehind n))).0
    ((row_none 58 Ipv6Hex (TwoColons ⨾ GroupsBehind n) text).0 h) in
    step_weaker (Colon ⨾ GroupsBehind n) (Colon ⨾ GroupsBehind m ∣ FromGroup (suc m)) (λ x r. inl (subst (λ k. (Colon ⨾ GroupsBehind k) x) same r)) text r
from_compressed (suc b) (suc (suc m)) n e text h =
    step_weaker (Ipv6Hex ⨾ Exactly b ColonHex ⨾ TwoColons ⨾ GroupsBehind n) (Colon ⨾ GroupsBehind m ∣ FromGroup (suc m))
    (λ x r. inr (from_compressed b (suc m) n (omega arith) x r)) text ((row_more 58 Ipv6Hex b (TwoColons ⨾ GroupsBehind n) text).0 h)

-- which of the three
abbrev FromCases : ℕ → List ℕ → Type 0
FromCases m text = Row m text ⊎ ((k : ℕ) × (m ≡ suc k) × (GroupsColon k ⨾ V4) text)
    ⊎ ((b : ℕ) × (n : ℕ) × (m ≡ b + n + 2) × (Ipv6Hex ⨾ Exactly b ColonHex ⨾ TwoColons ⨾ GroupsBehind n) text)

-- a text from a group on is one of them
from_cases : (m : ℕ) (text : List ℕ) → FromGroup m text → FromCases m text
from_cases zero text h = inl ((plain_none 58 Ipv6Hex text).1 h)
from_cases (suc zero) text (inl h) = inr (inl (0, refl, (empty_then V4 text).1 h))
from_cases (suc zero) text (inr h) = inl ((plain_more 58 Ipv6Hex 0 text).1 (step_weaker Ipv6Hex (Row 0) (λ x r. (plain_none 58 Ipv6Hex x).1 r) text h))
from_cases (suc (suc m)) text h = elim h.second.second [
  | inl c ↦ inr (inr (
    0,
    m,
    omega arith,
    (row_none 58 Ipv6Hex (TwoColons ⨾ GroupsBehind m) text).1
        ((back_cong Ipv6Hex (TwoColons ⨾ GroupsBehind m) (Colon ⨾ Colon ⨾ GroupsBehind m) text (two_colons (GroupsBehind m))).1
        (again (Colon ⨾ GroupsBehind m) c)),
  ))
  | inr f ↦ elim (from_cases (suc m) h.second.back f) [
    | inl r ↦ inl ((plain_more 58 Ipv6Hex (suc m) text).1 (again (Row (suc m)) r))
    | inr s ↦ elim s [
      | inl r ↦ inr (inl (suc r.0, omega (arith, r.1), (ipv4_more r.0 text).1 (again (GroupsColon r.0 ⨾ V4) r.2)))
      | inr r ↦ inr (inr (
        suc r.0,
        r.1,
        omega (arith, r.2),
        (row_more 58 Ipv6Hex r.0 (TwoColons ⨾ GroupsBehind r.1) text).1
            (again (Ipv6Hex ⨾ Exactly r.0 ColonHex ⨾ TwoColons ⨾ GroupsBehind r.1) r.3),
      ))
    ]
  ]
]
  where
    again : (B : Form) → B h.second.back → Step B text
    again B b = then h.front h.back text h.first (then h.second.front h.second.back h.back h.second.first b h.second.joined) h.joined

-- ---- the whole

-- two colons in front, or a group
abbrev pub TwoColonsOrGroup : Form
TwoColonsOrGroup = TwoColons ⨾ GroupsBehind 6 ∣ FromGroup 7

-- what stands behind two colons may be weakened
colons_weaker : (B B' : Form) → ((x : List ℕ) → B x → B' x) → (text : List ℕ) → (TwoColons ⨾ B) text → (TwoColons ⨾ B') text
colons_weaker B B' f text h = Then-weaker TwoColons TwoColons B B' (λ x a. a) f text h

-- groups before two colons, or none
compressed : (B : Form) (before : ℕ) → before ≤ 6 → ((x : List ℕ) → B x → GroupsBehind (6 - before) x) → (text : List ℕ) → (Groups before ⨾ TwoColons ⨾ B) text
    → TwoColonsOrGroup text
compressed B zero l f text h = inl (colons_weaker B (GroupsBehind 6) f text ((empty_then (TwoColons ⨾ B) text).0 h))
compressed B (suc b) l f text h =
    inr (from_compressed b 7 (6 - suc b) (omega arith) text
    (Then-weaker Ipv6Hex Ipv6Hex _ _ (λ x a. a) (λ x. Then-weaker (Exactly b ColonHex) (Exactly b ColonHex) (TwoColons ⨾ B)
    (TwoColons ⨾ GroupsBehind (6 - suc b))
    (λ y a. a) (colons_weaker B (GroupsBehind (6 - suc b)) f) x) text ((assoc Ipv6Hex (Exactly b ColonHex) (TwoColons ⨾ B) text).0 h)))

-- each of the four kinds is one of these
from_kinds : (text : List ℕ) → Ipv6Addr text → TwoColonsOrGroup text
from_kinds text (inl h) = inr (from_row 7 text h)
from_kinds text (inr (inl w)) = compressed (Groups w.after) w.before (omega (arith, w.at_most_six))
    (behind_from_groups w.after (6 - w.before) (omega (arith, w.at_most_six))) text w.spelled
from_kinds text (inr (inr (inl h))) = inr (from_ipv4 6 text ((assoc3 Ipv6Hex (Exactly 5 ColonHex) Colon V4 text).1 h))
from_kinds text (inr (inr (inr w))) = compressed (GroupsColon w.after ⨾ V4) w.before (omega (arith, w.at_most_four))
    (λ x r. inr (some_from_ipv4 w.after (6 - w.before) (omega (arith, w.at_most_four)) x r)) text w.spelled

-- and back: what stands behind two colons tells which of two it is
kind_of_compressed : (before n : ℕ) → before + n ≤ 6 → (text : List ℕ) → (Groups before ⨾ TwoColons ⨾ GroupsBehind n) text → Ipv6Addr text
kind_of_compressed before n l text h = elim (behind_counted n h.second.back h.second.second) [
  | inl r ↦ inr (inl (record { before = before; after = r.0; at_most_six = omega (arith, r.1); spelled = again (Groups r.0) r.2 }))
  | inr r ↦ inr (inr (inr (record { before = before; after = r.0; at_most_four = omega (arith, r.1); spelled = again (GroupsColon r.0 ⨾ V4) r.2 })))
]
  where
    again : (B : Form) → B h.second.back → (Groups before ⨾ TwoColons ⨾ B) text
    again B b = then h.front h.back text h.first (then h.second.front h.second.back h.back h.second.first b h.second.joined) h.joined

-- each of these is one of the four kinds
to_kinds : (text : List ℕ) → TwoColonsOrGroup text → Ipv6Addr text
to_kinds text (inl h) = kind_of_compressed 0 6 (omega arith) text ((empty_then (TwoColons ⨾ GroupsBehind 6) text).1 h)
to_kinds text (inr f) = elim (from_cases 7 text f) [
  | inl r ↦ inl r
  | inr s ↦ elim s [
    | inl r ↦
        let six : r.0 ≡ 6 = omega (arith, r.1) in
        inr (inr (inl ((assoc3 Ipv6Hex (Exactly 5 ColonHex) Colon V4 text).0 (subst (λ k. (GroupsColon k ⨾ V4) text) six r.2))))
    | inr r ↦ kind_of_compressed (suc r.0) r.1 (omega (arith, r.2)) text
        ((assoc Ipv6Hex (Exactly r.0 ColonHex) (TwoColons ⨾ GroupsBehind r.1) text).1 r.3)
  ]
]

-- an IPv6-addr begins with two colons or with a group
pub ipv6_by_front : (text : List ℕ) → Ipv6Addr text ↔ TwoColonsOrGroup text
ipv6_by_front text = (from_kinds text, to_kinds text)
