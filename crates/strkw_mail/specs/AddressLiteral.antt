-- Address literals, RFC 5321 section 4.1.3. Above each form stands its rule.
use Rattle.std.specs.Prelude.{◌≡◌, ℕ, zero, suc, ◌+◌, ◌≤◌, List, codes, map}
use Rattle.std.specs.Char.{to_ascii_lowercase}
use Rattle.std.specs.Str.Parse.{digits_value}
use Rattle.strkw_text.specs.Abnf.{Form, ◌⨾◌, ◌∣◌, Literal, Empty, Repeat, Repeat1, Times, Exactly}
use Rattle.strkw_text.specs.Abnf.{OneOf}
use Rattle.strkw_text.specs.Characters.{Digit, HexDigit}
use Rattle.strkw_net.specs.HostName.{is_letter_digit_hyphen}
use Rattle.strkw_net.specs.Spellings.{LetDig}
use Rattle.strkw_mail.specs.Characters.{is_dcontent}

-- Ldh-str = *( ALPHA / DIGIT / "-" ) Let-dig (section 4.1.2), Let-dig being that of RFC 1034
abbrev pub LdhStr : Form
LdhStr = Repeat (OneOf is_letter_digit_hyphen) ⨾ LetDig

-- Snum = 1*3DIGIT, "representing a decimal integer value in the range 0 through 255": zeros may
-- lead
pub record Snum (text : List ℕ) : Type 0 where
  pub digits : Times 1 3 Digit text
  pub fits : digits_value 10 text ≤ 255

-- IPv4-address-literal = Snum 3("." Snum)
abbrev pub Ipv4AddressLiteral : Form
Ipv4AddressLiteral = Snum ⨾ Exactly 3 (Literal (codes ".") ⨾ Snum)

-- IPv6-hex = 1*4HEXDIG
abbrev pub Ipv6Hex : Form
Ipv6Hex = Times 1 4 HexDigit

-- ":" IPv6-hex
abbrev pub ColonHex : Form
ColonHex = Literal (codes ":") ⨾ Ipv6Hex

-- so many groups: IPv6-hex and further ones behind ":", or none
abbrev pub Groups : ℕ → Form
Groups zero = Empty
Groups (suc further) = Ipv6Hex ⨾ Exactly further ColonHex

-- so many groups and ":" behind them, or nothing
abbrev pub GroupsColon : ℕ → Form
GroupsColon zero = Empty
GroupsColon (suc further) = Ipv6Hex ⨾ Exactly further ColonHex ⨾ Literal (codes ":")

-- IPv6-full = IPv6-hex 7(":" IPv6-hex)
abbrev pub Ipv6Full : Form
Ipv6Full = Ipv6Hex ⨾ Exactly 7 ColonHex

-- IPv6-comp = [IPv6-hex *5(":" IPv6-hex)] "::" [IPv6-hex *5(":" IPv6-hex)], where "No more than 6
-- groups in addition to the "::" may be present"
pub record Ipv6Comp (text : List ℕ) : Type 0 where
  pub before : ℕ
  pub after : ℕ
  pub at_most_six : before + after ≤ 6
  pub spelled : (Groups before ⨾ Literal (codes "::") ⨾ Groups after) text

-- IPv6v4-full = IPv6-hex 5(":" IPv6-hex) ":" IPv4-address-literal
abbrev pub Ipv6v4Full : Form
Ipv6v4Full = Ipv6Hex ⨾ Exactly 5 ColonHex ⨾ Literal (codes ":") ⨾ Ipv4AddressLiteral

-- IPv6v4-comp = [IPv6-hex *3(":" IPv6-hex)] "::" [IPv6-hex *3(":" IPv6-hex) ":"]
-- IPv4-address-literal, where "No more than 4 groups in addition to the "::" and
-- IPv4-address-literal may be present"
pub record Ipv6v4Comp (text : List ℕ) : Type 0 where
  pub before : ℕ
  pub after : ℕ
  pub at_most_four : before + after ≤ 4
  pub spelled : (Groups before ⨾ Literal (codes "::") ⨾ GroupsColon after ⨾ Ipv4AddressLiteral)
      text

-- IPv6-addr = IPv6-full / IPv6-comp / IPv6v4-full / IPv6v4-comp
abbrev pub Ipv6Addr : Form
Ipv6Addr = Ipv6Full ∣ Ipv6Comp ∣ Ipv6v4Full ∣ Ipv6v4Comp

-- "IPv6" of IPv6-address-literal, in either case of its letters (RFC 5234 section 2.3)
abbrev pub Ipv6Tag : Form
Ipv6Tag tag = map to_ascii_lowercase tag ≡ codes "ipv6"

-- IPv6-address-literal = "IPv6:" IPv6-addr
abbrev pub Ipv6AddressLiteral : Form
Ipv6AddressLiteral = Ipv6Tag ⨾ Literal (codes ":") ⨾ Ipv6Addr

-- Standardized-tag = Ldh-str. The tag "identifies the address syntax", and that of "IPv6" is
-- IPv6-addr; so this is another tag.
pub record StandardizedTag (tag : List ℕ) : Type 0 where
  pub rule : LdhStr tag
  pub other : Ipv6Tag tag → ⊥

-- General-address-literal = Standardized-tag ":" 1*dcontent
abbrev pub GeneralAddressLiteral : Form
GeneralAddressLiteral = StandardizedTag ⨾ Literal (codes ":") ⨾ Repeat1 (OneOf is_dcontent)

-- IPv4-address-literal / IPv6-address-literal / General-address-literal
abbrev pub Bracketed : Form
Bracketed = Ipv4AddressLiteral ∣ Ipv6AddressLiteral ∣ GeneralAddressLiteral

-- address-literal = "[" ( IPv4-address-literal / IPv6-address-literal / General-address-literal )
-- "]"
abbrev pub AddressLiteral : Form
AddressLiteral = Literal (codes "[") ⨾ Bracketed ⨾ Literal (codes "]")
