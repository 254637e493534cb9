-- No address holds "]".
use Rattle.std.proofs.Common.{◌≢◌, ℕ, ◌<◌, ◌≤◌, List, [], ◌∷◌, ◌++◌, inl, inr, sym, subst, arith, codes}
use Rattle.std.specs.Prelude.{decimal}
use Rattle.std.specs.List.{AllByRecursion, join_with_byte}
use Rattle.std.specs.Char.{digit_value}
use Rattle.std.specs.Str.Parse.{AllDigits}
use Rattle.std.proofs.lemmas.Fmt.{decimal_is_IsNumeral}
use Rattle.strkw_text.proofs.Laws.{each_push}
use Rattle.strkw_text.proofs.Delimiters.{Without-append}
use Rattle.strkw_net.specs.Addresses.{IsIpv4, Groups, LastGroups, IsIpv6, HasNoBracket}
use Rattle.strkw_net.proofs.AddressLemmas.{IsGroupOfDigits, group_digits, compressed_text}

-- digits in a radix of at most 36 hold no "]"
digits_no_bracket : (radix : ℕ) (cs : List ℕ) → radix ≤ 36 → AllDigits radix cs → HasNoBracket cs
digits_no_bracket radix [] r d = tt
digits_no_bracket radix (c ∷ cs) r d = (
  λ e. let f : digit_value 93 < radix = subst (λ x. digit_value x < radix) e d.0 in omega arith,
  digits_no_bracket radix cs r d.1,
)

-- parts that hold no "]", joined by a character other than it, hold none
joined_no_bracket : (c : ℕ) (parts : List (List ℕ)) → c ≢ 93 → AllByRecursion HasNoBracket parts → HasNoBracket (join_with_byte c parts)
joined_no_bracket c [] h a = tt
joined_no_bracket c (part ∷ []) h a = a.0
joined_no_bracket c (part ∷ next ∷ parts) h a = Without-append 93 (omega arith) part (c ∷ join_with_byte c (next ∷ parts)) a.0
    (h, joined_no_bracket c (next ∷ parts) h a.1)

-- a character below 60 is not "]"
no_bracket_is : (c : ℕ) → c < 60 → c ≢ 93
no_bracket_is c h e = omega arith

-- a number below 256 in decimal holds no "]"
octet_no_bracket : (n : ℕ) → n < 256 → HasNoBracket (decimal n)
octet_no_bracket n h = digits_no_bracket 10 (decimal n) (omega arith) (decimal_is_IsNumeral n (omega arith)).0.1

-- an IPv4 address holds no "]"
ipv4_no_bracket : (text : List ℕ) → IsIpv4 text → HasNoBracket text
ipv4_no_bracket text w = subst HasNoBracket (sym w.spelled)
    (joined_no_bracket 46 (decimal w.a ∷ decimal w.b ∷ decimal w.c ∷ decimal w.d ∷ []) (no_bracket_is 46 (omega arith))
    (octet_no_bracket w.a w.fit.0, (octet_no_bracket w.b w.fit.1, (octet_no_bracket w.c w.fit.2, (octet_no_bracket w.d w.fit.3, tt)))))

-- none of several groups holds "]"
h16s_no_bracket : (groups : List (List ℕ)) → AllByRecursion IsGroupOfDigits groups → AllByRecursion HasNoBracket groups
h16s_no_bracket [] a = tt
h16s_no_bracket (group ∷ groups) a = (digits_no_bracket 16 group (omega arith) a.0.0, h16s_no_bracket groups a.1)

-- groups with colons between them hold no "]"
groups_no_bracket : (count : ℕ) (text : List ℕ) → Groups count text → HasNoBracket text
groups_no_bracket count text g = subst HasNoBracket (sym g.spelled)
    (joined_no_bracket 58 g.groups (no_bracket_is 58 (omega arith)) (h16s_no_bracket g.groups (group_digits g.groups g.each)))

-- what may stand at the end of an address holds no "]"
last_no_bracket : (count : ℕ) (text : List ℕ) → LastGroups count text → HasNoBracket text
last_no_bracket count text (inl g) = groups_no_bracket count text g
last_no_bracket count text (inr g) = subst HasNoBracket (sym g.spelled)
    (joined_no_bracket 58 (g.groups ++ g.address ∷ []) (no_bracket_is 58 (omega arith))
    (each_push HasNoBracket g.groups g.address (h16s_no_bracket g.groups (group_digits g.groups g.each)) (ipv4_no_bracket g.address g.address_is)))

-- an IPv6 address holds no "]"
pub ipv6_no_bracket : (text : List ℕ) → IsIpv6 text → HasNoBracket text
ipv6_no_bracket text (inl g) = last_no_bracket 8 text g
ipv6_no_bracket text (inr w) = subst HasNoBracket (sym (compressed_text text w))
    (Without-append 93 (omega arith) w.spelled.front (codes "::" ++ w.spelled.second.back) (groups_no_bracket w.before w.spelled.front w.spelled.first)
    (Without-append 93 (omega arith) (codes "::") w.spelled.second.back (no_bracket_is 58 (omega arith), (no_bracket_is 58 (omega arith), tt))
    (last_no_bracket w.after w.spelled.second.back w.spelled.second.second)))
