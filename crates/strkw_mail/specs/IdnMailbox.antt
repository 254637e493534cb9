-- Internationalised mail addresses: RFC 6531 section 3.3 adds to three rules of RFC 5321 section
-- 4.1.2. Above each form stands its rule. A text is its characters, and the limits of RFC 5321
-- section 4.5.3.1 count octets, which are those of UTF-8.
use Rattle.std.specs.Prelude.{ℕ, ◌≤◌, Bool, ◌||◌, nat_le, List, codes, length}
use Rattle.std.specs.Str.{byte, encode_utf8_all}
use Rattle.strkw_text.specs.Abnf.{Form, ◌⨾◌, ◌∣◌, Literal, SeparatedBy}
use Rattle.strkw_label.specs.IdnHostName.{IsULabel}
use Rattle.strkw_mail.specs.AddressLiteral.{AddressLiteral}
use Rattle.strkw_mail.specs.Characters.{is_atext, is_qtext_smtp}
use Rattle.strkw_mail.specs.Mailbox.{LocalPartOf, IsSubDomain}

-- UTF8-non-ascii = UTF8-2 / UTF8-3 / UTF8-4 (RFC 6532 section 3.1): a character past ASCII
abbrev pub is_utf8_non_ascii : ℕ → Bool
is_utf8_non_ascii c = nat_le 128 c

-- atext =/ UTF8-non-ascii
abbrev pub is_utf8_atext : ℕ → Bool
is_utf8_atext c = is_atext c || is_utf8_non_ascii c

-- qtextSMTP =/ UTF8-non-ascii
abbrev pub is_utf8_qtext_smtp : ℕ → Bool
is_utf8_qtext_smtp c = is_qtext_smtp c || is_utf8_non_ascii c

-- how many octets a text has
abbrev pub octets : List ℕ → ℕ
octets text = length (encode_utf8_all text)

-- a local part has at most 64 octets (RFC 5321 section 4.5.3.1.1)
pub record IsIdnLocalPart (text : List ℕ) : Type 0 where
  pub rule : LocalPartOf is_utf8_atext is_utf8_qtext_smtp text
  pub size : octets text ≤ 64

-- sub-domain =/ U-label
abbrev pub IsIdnSubDomain : Form
IsIdnSubDomain = IsSubDomain ∣ IsULabel

-- Domain = sub-domain *("." sub-domain)
abbrev pub IdnDomain : Form
IdnDomain = SeparatedBy (byte ".") IsIdnSubDomain

-- Domain / address-literal, of at most 255 octets (RFC 5321 section 4.5.3.1.2)
pub record IsIdnDomain (text : List ℕ) : Type 0 where
  pub rule : (IdnDomain ∣ AddressLiteral) text
  pub size : octets text ≤ 255

-- Mailbox = Local-part "@" ( Domain / address-literal )
abbrev pub IsIdnMailbox : Form
IsIdnMailbox = IsIdnLocalPart ⨾ Literal (codes "@")
    ⨾ IsIdnDomain
