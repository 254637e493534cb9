-- Each text is a mail address, or it is not: the decision follows the grammar, rule by rule.
use Rattle.std.proofs.Common.{◌≡◌, ◌≤◌, ◌<◌, ◌+◌, ℕ, zero, suc, List, [], ◌∷◌, codes, length, map}
use Rattle.std.proofs.Common.{arith, ◌⊎◌, Bool}
use Rattle.std.specs.Char.{to_ascii_lowercase, is_ascii_alphanumeric, is_ascii_digit}
use Rattle.std.specs.Char.{is_ascii_hexdigit}
use Rattle.std.specs.Str.{byte}
use Rattle.std.specs.Str.Parse.{digits_value}
use Rattle.strkw_text.specs.Abnf.{Form, ◌⨾◌, ◌∣◌, Literal, Repeat, Exactly, OneOf, Repeat1}
use Rattle.strkw_text.specs.Characters.{Digit, HexDigit}
use Rattle.strkw_net.specs.HostName.{is_letter_digit_hyphen}
use Rattle.strkw_net.specs.Spellings.{LetDig}
use Rattle.strkw_mail.specs.Characters.{is_atext, is_escaped, is_qtext_smtp, is_dcontent}
use Rattle.strkw_mail.specs.AddressLiteral as literal
use Rattle.strkw_mail.specs.AddressLiteral.{LdhStr, Snum, Ipv4AddressLiteral, Ipv6Hex, ColonHex}
use Rattle.strkw_mail.specs.AddressLiteral.{Groups, GroupsColon, Ipv6Full, Ipv6Comp, Ipv6v4Full}
use Rattle.strkw_mail.specs.AddressLiteral.{Ipv6v4Comp, Ipv6Addr, Ipv6Tag, Ipv6AddressLiteral}
use Rattle.strkw_mail.specs.AddressLiteral.{StandardizedTag, GeneralAddressLiteral, Bracketed}
use Rattle.strkw_mail.specs.AddressLiteral.{AddressLiteral}
use Rattle.strkw_mail.specs.Mailbox.{AtomOf, DotStringOf, QuotedPairSmtp, QcontentOf}
use Rattle.strkw_mail.specs.Mailbox.{QuotedStringOf, LocalPartOf, IsLocalPart, SubDomain}
use Rattle.strkw_mail.specs.Mailbox.{IsSubDomain, Domain, IsDomain, IsMailbox}
use Rattle.strkw_companions.specs.Decisions.{Decision, by_other, decide_both, decide_negation}
use Rattle.strkw_companions.specs.Decisions.{same_text, at_most}
use Rattle.strkw_companions.specs.Decisions.{some_below}
use Rattle.strkw_companions.specs.FormDecisions as form
use Rattle.strkw_companions.specs.FormDecisions.{Decided, sequence, alternative, repeat}
use Rattle.strkw_companions.specs.FormDecisions.{exact_repeat}

-- A, and then a literal, and then B
pub literal_between : (A B : Form) (cs : List ℕ) → Decided A → Decided B
    → Decided (A ⨾ Literal cs ⨾ B)
literal_between A B cs a b = sequence A (Literal cs ⨾ B) a
    (sequence (Literal cs) B (form.literal cs) b)

-- ---- address literals

ldh_str : Decided LdhStr
ldh_str = sequence (Repeat (OneOf is_letter_digit_hyphen)) LetDig
    (repeat (OneOf is_letter_digit_hyphen) (form.one_of is_letter_digit_hyphen))
    (form.one_of is_ascii_alphanumeric)

snum : Decided Snum
snum text = by_other (
  (λ h. record { digits = h.0; fits = h.1 }),
  (λ s. (s.digits, s.fits)),
) (
    decide_both (form.times 1 3 Digit (form.one_of is_ascii_digit) text)
    (at_most (digits_value 10 text) 255))

ipv4 : Decided Ipv4AddressLiteral
ipv4 = sequence Snum (Exactly 3 (Literal (codes ".") ⨾ Snum)) snum
    (exact_repeat 3 (Literal (codes ".") ⨾ Snum)
    (sequence (Literal (codes ".")) Snum (form.literal (codes ".")) snum))

hex : Decided Ipv6Hex
hex = form.times 1 4 HexDigit (form.one_of is_ascii_hexdigit)

colon_hex : (n : ℕ) → Decided (Exactly n ColonHex)
colon_hex n = exact_repeat n ColonHex (sequence (Literal (codes ":")) Ipv6Hex
    (form.literal (codes ":")) hex)

groups : (n : ℕ) → Decided (Groups n)
groups zero text = same_text text []
groups (suc n) text = sequence Ipv6Hex (Exactly n ColonHex) hex (colon_hex n) text

groups_colon : (n : ℕ) → Decided (GroupsColon n)
groups_colon zero text = same_text text []
groups_colon (suc n) text =
    sequence Ipv6Hex (Exactly n ColonHex ⨾ Literal (codes ":")) hex
    (sequence (Exactly n ColonHex) (Literal (codes ":")) (colon_hex n) (form.literal (codes ":")))
    text

-- two numbers, together at most so many
abbrev Few : ℕ → (ℕ → ℕ → Type 0) → Type 0
Few most P = (k : ℕ) × (k < suc most)
    × ((m : ℕ) × (m < suc most) × ((k + m ≤ most) × P k m))

decide_few : (most : ℕ) (P : ℕ → ℕ → Type 0) → ((k m : ℕ) → Decision (P k m))
    → Decision (Few most P)
decide_few most P each =
    some_below (λ k. (m : ℕ) × (m < suc most) × ((k + m ≤ most) × P k m))
    (λ k. some_below (λ m. (k + m ≤ most) × P k m)
    (λ m. decide_both (at_most (k + m) most) (each k m)) (suc most)) (suc most)

abbrev Comp : List ℕ → ℕ → ℕ → Type 0
Comp text k m = (Groups k ⨾ Literal (codes "::") ⨾ Groups m) text

comp : Decided Ipv6Comp
comp text = by_other (
  (λ h. let rest = h.2 in let q = rest.2 in
      record { before = h.0; after = rest.0; at_most_six = q.0; spelled = q.1 }),
  (λ c. let six = c.at_most_six in
      (c.before, omega (arith, six), (c.after, omega (arith, six), (six, c.spelled)))),
) (decide_few 6 (Comp text) (λ k m. literal_between (Groups k) (Groups m) (codes "::") (groups k)
    (groups m) text))

abbrev Comp4 : List ℕ → ℕ → ℕ → Type 0
Comp4 text k m =
    (Groups k ⨾ Literal (codes "::") ⨾ GroupsColon m ⨾ Ipv4AddressLiteral) text

comp4 : Decided Ipv6v4Comp
comp4 text = by_other (
  (λ h. let rest = h.2 in let q = rest.2 in
      record { before = h.0; after = rest.0; at_most_four = q.0; spelled = q.1 }),
  (λ c. let four = c.at_most_four in
      (c.before, omega (arith, four), (c.after, omega (arith, four), (four, c.spelled)))),
) (
    decide_few 4 (Comp4 text) (λ k m.
    literal_between (Groups k) (GroupsColon m ⨾ Ipv4AddressLiteral) (codes "::") (groups k)
    (sequence (GroupsColon m) Ipv4AddressLiteral (groups_colon m) ipv4) text))

ipv6_full : Decided Ipv6Full
ipv6_full = sequence Ipv6Hex (Exactly 7 ColonHex) hex (colon_hex 7)

ipv6v4_full : Decided Ipv6v4Full
ipv6v4_full = sequence Ipv6Hex (Exactly 5 ColonHex ⨾ Literal (codes ":") ⨾ Ipv4AddressLiteral) hex
    (literal_between (Exactly 5 ColonHex) Ipv4AddressLiteral (codes ":") (colon_hex 5) ipv4)

ipv6 : Decided Ipv6Addr
ipv6 = alternative Ipv6Full (Ipv6Comp ∣ Ipv6v4Full ∣ Ipv6v4Comp) ipv6_full
    (alternative Ipv6Comp (Ipv6v4Full ∣ Ipv6v4Comp) comp
    (alternative Ipv6v4Full Ipv6v4Comp ipv6v4_full comp4))

ipv6_tag : Decided Ipv6Tag
ipv6_tag tag = same_text (map to_ascii_lowercase tag) (codes "ipv6")

tag : Decided StandardizedTag
tag text = by_other (
  (λ h. record { rule = h.0; other = h.1 }),
  (λ t. (t.rule, t.other)),
) (decide_both (ldh_str text) (decide_negation (ipv6_tag text)))

bracketed_literal : Decided Bracketed
bracketed_literal = alternative Ipv4AddressLiteral (Ipv6AddressLiteral ∣ GeneralAddressLiteral) ipv4
    (alternative Ipv6AddressLiteral GeneralAddressLiteral
    (literal_between Ipv6Tag Ipv6Addr (codes ":") ipv6_tag ipv6)
    (literal_between StandardizedTag (Repeat1 (OneOf is_dcontent)) (codes ":") tag
    (form.repeat1 (OneOf is_dcontent) (form.one_of is_dcontent))))

pub address : Decided AddressLiteral
address = sequence (Literal (codes "[")) (Bracketed ⨾ Literal (codes "]"))
    (form.literal (codes "["))
    (sequence Bracketed (Literal (codes "]")) bracketed_literal (form.literal (codes "]")))

-- ---- the two parts

atom : (atext : ℕ → Bool) → Decided (AtomOf atext)
atom atext = form.repeat1 (OneOf atext) (form.one_of atext)

content : (qtext : ℕ → Bool) → Decided (QcontentOf qtext)
content qtext = alternative (OneOf qtext) QuotedPairSmtp (form.one_of qtext)
    (sequence (Literal (codes "\\")) (OneOf is_escaped) (form.literal (codes "\\"))
    (form.one_of is_escaped))

quoted_string : (qtext : ℕ → Bool) → Decided (QuotedStringOf qtext)
quoted_string qtext = sequence (Literal (codes "\""))
    (Repeat (QcontentOf qtext) ⨾ Literal (codes "\""))
    (form.literal (codes "\""))
    (sequence (Repeat (QcontentOf qtext)) (Literal (codes "\""))
    (repeat (QcontentOf qtext) (content qtext)) (form.literal (codes "\"")))

-- with these characters for atext and for qtextSMTP
pub local_part_of : (atext qtext : ℕ → Bool) → Decided (LocalPartOf atext qtext)
local_part_of atext qtext = alternative (DotStringOf atext) (QuotedStringOf qtext)
    (form.separated_list (byte ".") (AtomOf atext) (atom atext)) (quoted_string qtext)

local_part : Decided IsLocalPart
local_part text = by_other (
  (λ h. record { rule = h.0; size = h.1 }),
  (λ p. (p.rule, p.size)),
) (
    decide_both (local_part_of is_atext is_qtext_smtp text) (at_most (length text) 64))

pub sub_domain : Decided IsSubDomain
sub_domain text = by_other (
  (λ h. record { rule = h.0; size = h.1 }),
  (λ p. (p.rule, p.size)),
) (
    decide_both (sequence LetDig (λ t. (t ≡ []) ⊎ LdhStr t) (form.one_of is_ascii_alphanumeric)
    (form.optional_form LdhStr ldh_str) text)
    (at_most (length text) 63))

domain : Decided IsDomain
domain text = by_other (
  (λ h. record { rule = h.0; size = h.1 }),
  (λ p. (p.rule, p.size)),
) (
    decide_both (
    alternative Domain AddressLiteral (form.separated_list (byte ".") IsSubDomain sub_domain)
    address
    text) (at_most (length text) 255))

-- each text is a mail address, or it is not
pub mailbox : Decided IsMailbox
mailbox = literal_between IsLocalPart IsDomain (codes "@") local_part domain
