-- How long addresses are.
use Rattle.std.proofs.Common.{◌≡◌, ℕ, ◌+◌, ◌*◌, ◌<◌, ◌≤◌, List, [], ◌∷◌, ◌++◌, length, arith, ap, ◌∙◌, inl, inr}
use Rattle.std.specs.Prelude.{codes, decimal}
use Rattle.std.specs.List.{join_with_byte, AllByRecursion}
use Rattle.std.proofs.lemmas.List.{length-append}
use Rattle.std.proofs.lemmas.Fmt.{decimal_nonempty, length-decimal-le}
use Rattle.strkw_net.specs.Addresses.{IsIpv4, Groups, LastGroups, IsIpv6}
use Rattle.strkw_net.specs.HostName.{IsAsciiHostName}
use Rattle.strkw_net.proofs.AddressLemmas.{IsGroupOfDigits, group_digits, compressed_text}
use Rattle.strkw_text.specs.Bounds.{DerivesAtLeast, DerivesAtMost}
use Rattle.std.specs.Str.{byte}
use Rattle.strkw_net.specs.Uuid.{IsUuid}
use Rattle.strkw_net.proofs.UuidLemmas.{uuid_at}

-- a number below 256 has one to three digits in decimal
octet_len : (n : ℕ) → n < 256 → (1 ≤ length (decimal n)) × (length (decimal n) ≤ 3)
octet_len n h = (decimal_nonempty n (omega arith), length-decimal-le 3 n (omega arith) (omega arith) (omega arith))

-- parts joined: one character more for each part after the first
joined_len_more : (c : ℕ) (x y : List ℕ) (parts : List (List ℕ))
    → length (join_with_byte c (x ∷ y ∷ parts)) ≡ length x + 1 + length (join_with_byte c (y ∷ parts))
joined_len_more c x y parts = length-append x (c ∷ join_with_byte c (y ∷ parts)) ∙ omega arith

-- an IPv4 address has 7 to 15 characters
pub ipv4_window : (text : List ℕ) → IsIpv4 text → (7 ≤ length text) × (length text ≤ 15)
ipv4_window text w =
    let a = octet_len w.a w.fit.0 in
    let b = octet_len w.b w.fit.1 in
    let c = octet_len w.c w.fit.2 in
    let d = octet_len w.d w.fit.3 in
    let e = ap (λ (x : List ℕ). length x) w.spelled in
    let f = joined_len_more 46 (decimal w.a) (decimal w.b) (decimal w.c ∷ decimal w.d ∷ []) in
    let g = joined_len_more 46 (decimal w.b) (decimal w.c) (decimal w.d ∷ []) in
    let h = joined_len_more 46 (decimal w.c) (decimal w.d) [] in
    (omega arith, omega arith)

-- groups alone, and before an IPv4 address
-- parts of an address with colons between them
abbrev colon_joined : List (List ℕ) → List ℕ
colon_joined parts = join_with_byte (byte ":") parts

-- one group or more, with colons between and one behind them, have 2 to 5 characters each
groups_len : (groups : List (List ℕ)) → AllByRecursion IsGroupOfDigits groups → 1 ≤ length groups → (2 * length groups ≤ length (colon_joined groups) + 1)
    × (length (colon_joined groups) + 1 ≤ 5 * length groups)
groups_len [] a n = absurd (omega arith)
groups_len (x ∷ []) a n = (omega (arith, a.0.1, a.0.2), omega (arith, a.0.1, a.0.2))
groups_len (x ∷ y ∷ groups) a n =
    let r = groups_len (y ∷ groups) a.1 (omega arith) in
    let e = joined_len_more 58 x y groups in
    (omega (arith, a.0.1, a.0.2), omega (arith, a.0.1, a.0.2))

-- groups and a last part of 7 to 15 have 7 characters at least, at most 5 a group and 15
ending_len : (groups : List (List ℕ)) (last : List ℕ) → AllByRecursion IsGroupOfDigits groups → length last ≤ 15 → 7 ≤ length last
    → (7 ≤ length (colon_joined (groups ++ last ∷ []))) × (length (colon_joined (groups ++ last ∷ [])) ≤ 5 * length groups + 15)
ending_len [] last a h k = (omega arith, omega arith)
ending_len (x ∷ []) last a h k = let e = joined_len_more 58 x last [] in (omega (arith, a.0.1, a.0.2), omega (arith, a.0.1, a.0.2))
ending_len (x ∷ y ∷ groups) last a h k =
    let r = ending_len (y ∷ groups) last a.1 h k in
    let e = joined_len_more 58 x y (groups ++ last ∷ []) in
    (omega (arith, a.0.1, a.0.2), omega (arith, a.0.1, a.0.2))

-- groups with colons between them have at most 5 characters a group
some_groups : (groups : List (List ℕ)) → AllByRecursion IsGroupOfDigits groups → length (colon_joined groups) ≤ 5 * length groups
some_groups [] a = omega arith
some_groups (x ∷ groups) a = omega (arith, groups_len (x ∷ groups) a (omega arith))

-- the same of groups of which the count is known
first_at_most : (count : ℕ) → DerivesAtMost (5 * count) (Groups count)
first_at_most count text g = omega (arith, some_groups g.groups (group_digits g.groups g.each), ap (λ (x : List ℕ). length x) g.spelled, g.counted)

-- what may end an address has at most 5 characters for each that it counts, and 5 more
last_at_most : (count : ℕ) → DerivesAtMost (5 * count + 5) (LastGroups count)
last_at_most count text (inl g) = omega (arith, first_at_most count text g)
last_at_most count text (inr g) =
    let v = ipv4_window g.address g.address_is in
    omega (arith, ending_len g.groups g.address (group_digits g.groups g.each) v.1 v.0, ap (λ (x : List ℕ). length x) g.spelled, g.counted)

-- an address that counts eight groups has at least 2 characters
full_at_least : DerivesAtLeast 2 (LastGroups 8)
full_at_least text (inl g) = omega (
  arith,
  groups_len g.groups (group_digits g.groups g.each) (omega (arith, g.counted)),
  ap (λ (x : List ℕ). length x)
      g.spelled,
  g.counted,
)
full_at_least text (inr g) =
    let v = ipv4_window g.address g.address_is in
    omega (arith, ending_len g.groups g.address (group_digits g.groups g.each) v.1 v.0, ap (λ (x : List ℕ). length x) g.spelled)

-- an IPv6 address has 2 to 45 characters
pub ipv6_window : (text : List ℕ) → IsIpv6 text → (2 ≤ length text) × (length text ≤ 45)
ipv6_window text (inl g) = (full_at_least text g, omega (arith, last_at_most 8 text g))
ipv6_window text (inr w) =
    let s = w.spelled in
    let e = ap (λ (x : List ℕ). length x) (compressed_text text w) in
    let f = length-append s.front (codes "::" ++ s.second.back) in
    let a = first_at_most w.before s.front s.first in
    let b = last_at_most w.after s.second.back s.second.second in
    (omega arith, omega (arith, w.at_most_seven))

-- a text that is a UUID has 36 characters
pub uuid_window : (text : List ℕ) → IsUuid text → length text ≡ 36
uuid_window text w = ((uuid_at text).0 w).size

-- a host name has 1 to 253 characters
pub host_name_window : (text : List ℕ) → IsAsciiHostName text → (1 ≤ length text) × (length text ≤ 253)
host_name_window text w =
    let s = w.labels in
    (omega (arith, s.first.size.0, ap (λ (x : List ℕ). length x) s.joined, length-append s.front s.back), w.size)
