-- What the private functions speak of: the classes that are read, and the grammars from a part on.
use Rattle.std.specs.Prelude.{◌≡◌, ◌↔◌, ℕ, zero, suc, Bool, List, codes}
use Rattle.strkw_text.specs.Abnf.{Form, ◌⨾◌, ◌∣◌, Literal, Empty, Repeat}
use Rattle.strkw_text.specs.Fronts.{StartsWith}
use Rattle.strkw_net.specs.HostName.{is_letter_digit_hyphen}
use Rattle.strkw_mail.specs.Characters.{is_atext, is_escaped, is_qtext_smtp, is_dcontent}
use Rattle.strkw_mail.specs.AddressLiteral.{Ipv4AddressLiteral, Ipv6Hex}
use Rattle.strkw_mail.specs.Mailbox.{DotStringOf, QcontentOf, LocalPartOf}
use Rattle.strkw_mail.specs.IdnMailbox.{is_utf8_atext, is_utf8_qtext_smtp}
use Rattle.strkw_mail.specs.declared.scan.Charset.{Charset}
use Rattle.strkw_mail.specs.declared.scan.Charset.TheVariants.{Ascii, Utf8}
use Rattle.strkw_mail.specs.declared.scan.Class.{Class}
use Rattle.strkw_mail.specs.declared.scan.Class.TheVariants.{Atext, QtextSmtp, Escaped, Dcontent}
use Rattle.strkw_mail.specs.declared.scan.Class.TheVariants.{LetterDigitHyphen}

-- atext, of RFC 5321 or with the characters past ASCII of RFC 6531
abbrev pub atext : Charset → ℕ → Bool
atext Ascii = is_atext
atext Utf8 = is_utf8_atext

-- and qtextSMTP
abbrev pub qtext : Charset → ℕ → Bool
qtext Ascii = is_qtext_smtp
qtext Utf8 = is_utf8_qtext_smtp

-- the classes that are read
abbrev pub is_class_char : Class → ℕ → Bool
is_class_char (Atext charset) = atext charset
is_class_char (QtextSmtp charset) = qtext charset
is_class_char Escaped = is_escaped
is_class_char Dcontent = is_dcontent
is_class_char LetterDigitHyphen = is_letter_digit_hyphen

-- a local part and its "@"
abbrev pub LocalPartAt : Charset → Form
LocalPartAt charset = LocalPartOf (atext charset) (qtext charset) ⨾ Literal (codes "@")

-- a Dot-string and its "@"
abbrev pub DotStringAt : Charset → Form
DotStringAt charset = DotStringOf (atext charset) ⨾ Literal (codes "@")

-- an A at the front, in one way alone, and then rest
abbrev pub StartsOnly : Form → List ℕ → Form
StartsOnly A text rest = (other : List ℕ) → StartsWith A text other ↔ (rest ≡ other)

-- a Quoted-string behind the quote that opens it
abbrev pub InQuotes : Charset → Form
InQuotes charset = Repeat (QcontentOf (qtext charset)) ⨾ Literal (codes "\"")

-- groups behind "::", one at least and so many at most, of which an IPv4 address counts two
abbrev pub SomeGroups : ℕ → Form
SomeGroups zero = λ text. ⊥
SomeGroups (suc zero) = Ipv6Hex
SomeGroups (suc (suc more)) = Ipv6Hex ∣ Ipv4AddressLiteral
    ∣ Ipv6Hex ⨾ Literal (codes ":") ⨾ SomeGroups (suc more)

-- what may stand behind "::"
abbrev pub GroupsBehind : ℕ → Form
GroupsBehind most = Empty ∣ SomeGroups most

-- an IPv6-addr from a group on, where so many may stand before the last of eight
abbrev pub FromGroup : ℕ → Form
FromGroup zero = Ipv6Hex
FromGroup (suc zero) = Ipv4AddressLiteral ∣ Ipv6Hex ⨾ Literal (codes ":") ⨾ Ipv6Hex
FromGroup (suc (suc more)) = Ipv6Hex ⨾ Literal (codes ":")
    ⨾ (Literal (codes ":") ⨾ GroupsBehind more ∣ FromGroup (suc more))
