-- Mail addresses, RFC 5321 section 4.1.2, with the limits of its section 4.5.3.1. Above each form
-- stands its rule. The characters are ASCII, so that each is one octet.
use Rattle.std.specs.Prelude.{ℕ, ◌≤◌, Bool, List, ◌∷◌, ◌++◌, codes, length}
use Rattle.std.specs.Str.{byte}
use Rattle.strkw_text.specs.Abnf.{Form, ◌⨾◌, ◌∣◌, Literal, Optional, Repeat, Repeat1, OneOf}
use Rattle.strkw_text.specs.Abnf.{SeparatedBy}
use Rattle.strkw_mail.specs.Characters.{is_atext, is_escaped, is_qtext_smtp}
use Rattle.strkw_net.specs.HostName.{letters}
use Rattle.strkw_net.specs.Spellings.{LetDig}
use Rattle.strkw_mail.specs.AddressLiteral.{LdhStr, AddressLiteral}

-- Atom = 1*atext, with these characters for atext
abbrev pub AtomOf : (ℕ → Bool) → Form
AtomOf atext = Repeat1 (OneOf atext)

-- Dot-string = Atom *("." Atom)
abbrev pub DotStringOf : (ℕ → Bool) → Form
DotStringOf atext = SeparatedBy (byte ".") (AtomOf atext)

-- quoted-pairSMTP = %d92 %d32-126
abbrev pub QuotedPairSmtp : Form
QuotedPairSmtp = Literal (codes "\\") ⨾ OneOf is_escaped

-- QcontentSMTP = qtextSMTP / quoted-pairSMTP, with these characters for qtextSMTP
abbrev pub QcontentOf : (ℕ → Bool) → Form
QcontentOf qtext = OneOf qtext ∣ QuotedPairSmtp

-- Quoted-string = DQUOTE *QcontentSMTP DQUOTE
abbrev pub QuotedStringOf : (ℕ → Bool) → Form
QuotedStringOf qtext = Literal (codes "\"") ⨾ Repeat (QcontentOf qtext) ⨾ Literal (codes "\"")

-- Local-part = Dot-string / Quoted-string
abbrev pub LocalPartOf : (ℕ → Bool) → (ℕ → Bool) → Form
LocalPartOf atext qtext = DotStringOf atext ∣ QuotedStringOf qtext

-- the same with the characters of RFC 5321
abbrev pub Atom : Form
Atom = AtomOf is_atext

abbrev pub DotString : Form
DotString = DotStringOf is_atext

abbrev pub QcontentSmtp : Form
QcontentSmtp = QcontentOf is_qtext_smtp

abbrev pub QuotedString : Form
QuotedString = QuotedStringOf is_qtext_smtp

abbrev pub LocalPart : Form
LocalPart = LocalPartOf is_atext is_qtext_smtp

-- a local part has at most 64 octets (section 4.5.3.1.1)
pub record IsLocalPart (text : List ℕ) : Type 0 where
  pub rule : LocalPart text
  pub size : length text ≤ 64

-- sub-domain = Let-dig [Ldh-str]
abbrev pub SubDomain : Form
SubDomain = LetDig ⨾ Optional LdhStr

-- a label has at most 63 octets (RFC 1035 section 2.3.4)
pub record IsSubDomain (text : List ℕ) : Type 0 where
  pub rule : SubDomain text
  pub size : length text ≤ 63

-- Domain = sub-domain *("." sub-domain)
abbrev pub Domain : Form
Domain = SeparatedBy (byte ".") IsSubDomain

-- Domain / address-literal, of at most 255 octets, "domain name or number" (section 4.5.3.1.2)
pub record IsDomain (text : List ℕ) : Type 0 where
  pub rule : (Domain ∣ AddressLiteral) text
  pub size : length text ≤ 255

-- Mailbox = Local-part "@" ( Domain / address-literal )
abbrev pub IsMailbox : Form
IsMailbox = IsLocalPart ⨾ Literal (codes "@") ⨾ IsDomain

-- An example: 64 letters before "@", and behind it labels of 63, 63, 63 and 63, a mail address of
-- greatest length.
abbrev pub longest_mailbox : List ℕ
longest_mailbox = letters 64 ++ byte "@" ∷ (letters 63 ++ byte "."
    ∷ (letters 63 ++ byte "." ∷ (letters 63 ++ byte "." ∷ letters 63)))
