-- Rules as their standards write them, where a definition of this crate says the same in another
-- way. Laws hold the two together.
use Rattle.std.specs.Prelude.{codes}
use Rattle.std.specs.Char.{is_ascii_alphanumeric}
use Rattle.strkw_text.specs.Abnf.{Form, ◌⨾◌, ◌∣◌, Literal, Optional, Repeat1, Exactly, OneOf}
use Rattle.strkw_text.specs.Characters.{is_from_to, Digit, HexDigit}
use Rattle.strkw_net.specs.HostName.{is_letter_digit_hyphen}

-- RFC 3986 section 3.2.2: dec-octet = DIGIT / %x31-39 DIGIT / "1" 2DIGIT / "2" %x30-34 DIGIT / "25"
-- %x30-35
abbrev pub DecOctet : Form
DecOctet =
    Digit
    ∣ OneOf (is_from_to 49 57) ⨾ Digit
    ∣ Literal (codes "1") ⨾ Exactly 2 Digit
    ∣ Literal (codes "2") ⨾ OneOf (is_from_to 48 52) ⨾ Digit
    ∣ Literal (codes "25") ⨾ OneOf (is_from_to 48 53)

-- IPv4address = dec-octet "." dec-octet "." dec-octet "." dec-octet
abbrev pub Ipv4Address : Form
Ipv4Address = DecOctet ⨾ Literal (codes ".") ⨾ DecOctet ⨾ Literal (codes ".") ⨾ DecOctet
    ⨾ Literal (codes ".") ⨾ DecOctet

-- RFC 1034 section 3.5: <let-dig> ::= <letter> | <digit>
abbrev pub LetDig : Form
LetDig = OneOf is_ascii_alphanumeric

-- <ldh-str> ::= <let-dig-hyp> | <let-dig-hyp> <ldh-str>
abbrev pub LdhStr : Form
LdhStr = Repeat1 (OneOf is_letter_digit_hyphen)

-- <label> ::= <letter> [ [ <ldh-str> ] <let-dig> ], in which RFC 1123 section 2.1 puts <let-dig> in
-- the place of <letter>
abbrev pub Label : Form
Label = LetDig ⨾ Optional (Optional LdhStr ⨾ LetDig)

-- RFC 9562 section 4: hexOctet = HEXDIG HEXDIG
abbrev pub HexOctet : Form
HexOctet = HexDigit ⨾ HexDigit

-- UUID = 4hexOctet "-" 2hexOctet "-" 2hexOctet "-" 2hexOctet "-" 6hexOctet
abbrev pub Uuid : Form
Uuid =
    Exactly 4 HexOctet ⨾ Literal (codes "-") ⨾ Exactly 2 HexOctet ⨾ Literal (codes "-")
    ⨾ Exactly 2 HexOctet ⨾ Literal (codes "-")
    ⨾ Exactly 2 HexOctet ⨾ Literal (codes "-") ⨾ Exactly 6 HexOctet
