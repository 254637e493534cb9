-- Mail addresses are ASCII texts, form by form.
use Rattle.std.proofs.Common.{ℕ, zero, suc, ◌<◌, IsTrue, map, List, [], ◌∷◌, inl, inr, sym, subst, arith}
use Rattle.std.specs.Char.{is_ascii_alphanumeric, to_ascii_lowercase}
use Rattle.std.specs.List.{AllByRecursion}
use Rattle.std.proofs.lemmas.Bool.Decides.{nat_tests}
use Rattle.strkw_text.specs.Abnf.{Form, ◌⨾◌, ◌∣◌, Literal, Optional, Repeat, Exactly, OneOf}
use Rattle.strkw_text.specs.Characters.{Digit, HexDigit}
use Rattle.strkw_text.proofs.AsciiForms.{DerivesAscii, IsAscii-from_each, Literal-ascii, Character-ascii, Empty-ascii, Then-ascii, Either-ascii, Optional-ascii}
use Rattle.strkw_text.proofs.AsciiForms.{Repeat-ascii, Times-ascii, OneOf-ascii, Digit-ascii, HexDigit-ascii}
use Rattle.strkw_net.specs.HostName.{is_letter_digit_hyphen}
use Rattle.strkw_net.specs.Spellings.{LetDig}
use Rattle.strkw_mail.specs.Characters.{is_atext, is_escaped, is_qtext_smtp, is_dcontent}
use Rattle.strkw_mail.specs.AddressLiteral.{LdhStr, Snum, Ipv4AddressLiteral, Ipv6Hex, ColonHex}
use Rattle.strkw_mail.specs.AddressLiteral.{Groups, GroupsColon}
use Rattle.strkw_mail.specs.AddressLiteral.{Ipv6Addr, Ipv6Tag, Ipv6AddressLiteral, StandardizedTag, GeneralAddressLiteral, Bracketed, AddressLiteral}
use Rattle.strkw_mail.specs.Mailbox.{Atom, DotString, QuotedPairSmtp, QcontentSmtp, QuotedString}
use Rattle.strkw_mail.specs.Mailbox.{IsLocalPart, IsSubDomain, Domain, IsDomain}
use Rattle.strkw_mail.specs.Mailbox.{IsMailbox}

-- ---- the classes

-- a character of an atom is ASCII
atext_small : (c : ℕ) → IsTrue (is_atext c) → c < 128
atext_small c h = grind (arith, nat_tests)

-- so is one that may stand behind a backslash
escaped_small : (c : ℕ) → IsTrue (is_escaped c) → c < 128
escaped_small c h = grind (arith, nat_tests)

-- one that may stand between quotes
qtext_small : (c : ℕ) → IsTrue (is_qtext_smtp c) → c < 128
qtext_small c h = grind (arith, nat_tests)

-- one that may stand behind a tag
dcontent_small : (c : ℕ) → IsTrue (is_dcontent c) → c < 128
dcontent_small c h = grind (arith, nat_tests)

-- a letter or a digit
let_dig_small : (c : ℕ) → IsTrue (is_ascii_alphanumeric c) → c < 128
let_dig_small c h = grind (arith, nat_tests)

-- and a letter, a digit or a hyphen
ldh_small : (c : ℕ) → IsTrue (is_letter_digit_hyphen c) → c < 128
ldh_small c h = grind (arith, nat_tests)

-- ---- the local part

-- so are an atom
Atom-ascii : DerivesAscii Atom
Atom-ascii = let a = OneOf-ascii is_atext atext_small in Then-ascii (OneOf is_atext) (Repeat (OneOf is_atext)) a (Repeat-ascii (OneOf is_atext) a)

-- atoms with dots between them
DotString-ascii : DerivesAscii DotString
DotString-ascii =
    let more = Then-ascii (Literal (46 ∷ [])) Atom (Character-ascii 46 (omega arith)) Atom-ascii in
    Then-ascii Atom (Repeat (Literal (46 ∷ []) ⨾ Atom)) Atom-ascii (Repeat-ascii (Literal (46 ∷ []) ⨾ Atom) more)

-- what stands between quotes
QcontentSmtp-ascii : DerivesAscii QcontentSmtp
QcontentSmtp-ascii =
    let pair = Then-ascii (Literal (92 ∷ [])) (OneOf is_escaped) (Character-ascii 92 (omega arith)) (OneOf-ascii is_escaped escaped_small) in
    Either-ascii (OneOf is_qtext_smtp) QuotedPairSmtp (OneOf-ascii is_qtext_smtp qtext_small) pair

-- with the quotes
QuotedString-ascii : DerivesAscii QuotedString
QuotedString-ascii =
    let quote = Character-ascii 34 (omega arith) in
    Then-ascii (Literal (34 ∷ [])) (Repeat QcontentSmtp ⨾ Literal (34 ∷ [])) quote
    (Then-ascii (Repeat QcontentSmtp) (Literal (34 ∷ [])) (Repeat-ascii QcontentSmtp QcontentSmtp-ascii) quote)

-- and a local part
pub IsLocalPart-ascii : DerivesAscii IsLocalPart
IsLocalPart-ascii text s = Either-ascii DotString QuotedString DotString-ascii QuotedString-ascii text s.rule

-- ---- the domain name

-- a letter or a digit
LetDig-ascii : DerivesAscii LetDig
LetDig-ascii = OneOf-ascii is_ascii_alphanumeric let_dig_small

-- letters, digits and hyphens
LdhStr-ascii : DerivesAscii LdhStr
LdhStr-ascii = Then-ascii (Repeat (OneOf is_letter_digit_hyphen)) LetDig
    (Repeat-ascii (OneOf is_letter_digit_hyphen) (OneOf-ascii is_letter_digit_hyphen ldh_small)) LetDig-ascii

-- a label
pub IsSubDomain-ascii : DerivesAscii IsSubDomain
IsSubDomain-ascii text s = Then-ascii LetDig (Optional LdhStr) LetDig-ascii (Optional-ascii LdhStr LdhStr-ascii) text s.rule

-- and a domain name
Domain-ascii : DerivesAscii Domain
Domain-ascii =
    let more = Then-ascii (Literal (46 ∷ [])) IsSubDomain (Character-ascii 46 (omega arith)) IsSubDomain-ascii in
    Then-ascii IsSubDomain (Repeat (Literal (46 ∷ []) ⨾ IsSubDomain)) IsSubDomain-ascii (Repeat-ascii (Literal (46 ∷ []) ⨾ IsSubDomain) more)

-- ---- the address literal

-- a number
Snum-ascii : DerivesAscii Snum
Snum-ascii text s = Times-ascii 1 3 Digit Digit-ascii text s.digits

-- an IPv4 address
Ipv4-ascii : DerivesAscii Ipv4AddressLiteral
Ipv4-ascii =
    let S = Literal (46 ∷ []) ⨾ Snum in
    Then-ascii Snum (Exactly 3 S) Snum-ascii (Times-ascii 3 3 S (Then-ascii (Literal (46 ∷ [])) Snum (Character-ascii 46 (omega arith)) Snum-ascii))

-- one colon
colon_ascii : DerivesAscii (Literal (58 ∷ []))
colon_ascii = Character-ascii 58 (omega arith)

-- two
two_colons_ascii : DerivesAscii (Literal (58 ∷ 58 ∷ []))
two_colons_ascii = Literal-ascii (58 ∷ 58 ∷ []) (IsAscii-from_each (58 ∷ 58 ∷ []) (omega arith, (omega arith, tt)))

-- a group
Hex-ascii : DerivesAscii Ipv6Hex
Hex-ascii = Times-ascii 1 4 HexDigit HexDigit-ascii

-- further groups
further_ascii : (k : ℕ) → DerivesAscii (Exactly k ColonHex)
further_ascii k = Times-ascii k k ColonHex (Then-ascii (Literal (58 ∷ [])) Ipv6Hex colon_ascii Hex-ascii)

-- so many groups
Groups-ascii : (k : ℕ) → DerivesAscii (Groups k)
Groups-ascii zero = Empty-ascii
Groups-ascii (suc k) = Then-ascii Ipv6Hex (Exactly k ColonHex) Hex-ascii (further_ascii k)

-- with a colon behind them
GroupsColon-ascii : (k : ℕ) → DerivesAscii (GroupsColon k)
GroupsColon-ascii zero = Empty-ascii
GroupsColon-ascii (suc k) = Then-ascii Ipv6Hex (Exactly k ColonHex ⨾ Literal (58 ∷ [])) Hex-ascii
    (Then-ascii (Exactly k ColonHex) (Literal (58 ∷ [])) (further_ascii k) colon_ascii)

-- groups, two colons and more
compressed_ascii : (k : ℕ) (B : Form) → DerivesAscii B → DerivesAscii (Groups k ⨾ Literal (58 ∷ 58 ∷ []) ⨾ B)
compressed_ascii k B b = Then-ascii (Groups k) (Literal (58 ∷ 58 ∷ []) ⨾ B) (Groups-ascii k) (Then-ascii (Literal (58 ∷ 58 ∷ [])) B two_colons_ascii b)

-- an IPv6 address
Ipv6Addr-ascii : DerivesAscii Ipv6Addr
Ipv6Addr-ascii text (inl h) = Groups-ascii 8 text h
Ipv6Addr-ascii text (inr (inl w)) = compressed_ascii w.before (Groups w.after) (Groups-ascii w.after) text w.spelled
Ipv6Addr-ascii text (inr (inr (inl h))) =
    Then-ascii Ipv6Hex (Exactly 5 ColonHex ⨾ Literal (58 ∷ []) ⨾ Ipv4AddressLiteral) Hex-ascii
    (Then-ascii (Exactly 5 ColonHex) (Literal (58 ∷ []) ⨾ Ipv4AddressLiteral) (further_ascii 5)
    (Then-ascii (Literal (58 ∷ [])) Ipv4AddressLiteral colon_ascii Ipv4-ascii)) text h
Ipv6Addr-ascii text (inr (inr (inr w))) = compressed_ascii w.before (GroupsColon w.after ⨾ Ipv4AddressLiteral)
    (Then-ascii (GroupsColon w.after) Ipv4AddressLiteral (GroupsColon-ascii w.after) Ipv4-ascii) text w.spelled

-- a character whose lower case is ASCII
lower_small : (c : ℕ) → to_ascii_lowercase c < 128 → c < 128
lower_small c h = grind (arith, nat_tests)

-- characters whose lower case is ASCII
lower_each : (x : List ℕ) → AllByRecursion (λ c. c < 128) (map to_ascii_lowercase x) → AllByRecursion (λ c. c < 128) x
lower_each [] h = tt
lower_each (c ∷ x) h = (lower_small c h.0, lower_each x h.1)

-- the tag of IPv6
Ipv6Tag-ascii : DerivesAscii Ipv6Tag
Ipv6Tag-ascii text h = IsAscii-from_each text (lower_each text (subst (AllByRecursion (λ c. c < 128)) (sym h)
    (omega arith, (omega arith, (omega arith, (omega arith, tt))))))

-- a tag, a colon and more
tagged_ascii : (T B : Form) → DerivesAscii T → DerivesAscii B → DerivesAscii (T ⨾ Literal (58 ∷ []) ⨾ B)
tagged_ascii T B t b = Then-ascii T (Literal (58 ∷ []) ⨾ B) t (Then-ascii (Literal (58 ∷ [])) B colon_ascii b)

-- what stands between brackets
Bracketed-ascii : DerivesAscii Bracketed
Bracketed-ascii =
    let content = OneOf-ascii is_dcontent dcontent_small in
    let C = OneOf is_dcontent in
    Either-ascii Ipv4AddressLiteral (Ipv6AddressLiteral ∣ GeneralAddressLiteral) Ipv4-ascii
    (Either-ascii Ipv6AddressLiteral GeneralAddressLiteral (tagged_ascii Ipv6Tag Ipv6Addr Ipv6Tag-ascii Ipv6Addr-ascii)
    (tagged_ascii StandardizedTag (C ⨾ Repeat C) (λ x s. LdhStr-ascii x s.rule) (Then-ascii C (Repeat C) content (Repeat-ascii C content))))

-- with the brackets
pub AddressLiteral-ascii : DerivesAscii AddressLiteral
AddressLiteral-ascii = Then-ascii (Literal (91 ∷ [])) (Bracketed ⨾ Literal (93 ∷ [])) (Character-ascii 91 (omega arith))
    (Then-ascii Bracketed (Literal (93 ∷ [])) Bracketed-ascii (Character-ascii 93 (omega arith)))

-- what follows the "@"
pub IsDomain-ascii : DerivesAscii IsDomain
IsDomain-ascii text s = Either-ascii Domain AddressLiteral Domain-ascii AddressLiteral-ascii text s.rule

-- and the whole
pub IsMailbox-ascii : DerivesAscii IsMailbox
IsMailbox-ascii = Then-ascii IsLocalPart (Literal (64 ∷ []) ⨾ IsDomain) IsLocalPart-ascii
    (Then-ascii (Literal (64 ∷ [])) IsDomain (Character-ascii 64 (omega arith)) IsDomain-ascii)
