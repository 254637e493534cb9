-- The syntax of URIs and IRIs: RFC 3986 appendix A, RFC 3987 section 2.2. Above each form stands
-- its rule. Over the characters of RFC 3986 the forms are those of URIs, over those of RFC 3987
-- those of IRIs (there each rule's name begins with "i"; scheme, port and IP-literal are the same).
use Rattle.std.specs.Prelude.{ℕ, Bool, codes}
use Rattle.strkw_text.specs.Abnf.{Form, ◌⨾◌, ◌∣◌, Literal, Empty, Optional, Repeat, Repeat1, OneOf}
use Rattle.strkw_text.specs.Characters.{is_one_of, Alpha, Digit, HexDigit}
use Rattle.strkw_net.specs.Addresses.{IsIpv4, IsIpv6}
use Rattle.strkw_uri.specs.Characters.{Alphabet, uri, iri, is_scheme_char, is_reg_name_char}
use Rattle.strkw_uri.specs.Characters.{is_userinfo_char, is_pchar, is_nc_char, is_fragment_char}
use Rattle.strkw_uri.specs.Characters.{is_query_char}

-- pct-encoded = "%" HEXDIG HEXDIG
abbrev pub PctEncoded : Form
PctEncoded = Literal (codes "%") ⨾ HexDigit ⨾ HexDigit

-- a character of the class / pct-encoded
abbrev pub Encoded : (ℕ → Bool) → Form
Encoded class = OneOf class ∣ PctEncoded

-- scheme = ALPHA *( ALPHA / DIGIT / "+" / "-" / "." )
abbrev pub Scheme : Form
Scheme = Alpha ⨾ Repeat (OneOf is_scheme_char)

-- port = *DIGIT
abbrev pub Port : Form
Port = Repeat Digit

-- IPvFuture = "v" 1*HEXDIG "." 1*( unreserved / sub-delims / ":" ); a letter in quotes stands for
-- either case
abbrev pub IpvFuture : Form
IpvFuture = OneOf (is_one_of (codes "vV")) ⨾ Repeat1 HexDigit ⨾ Literal (codes ".")
    ⨾ Repeat1 (OneOf (is_userinfo_char uri))

-- IPv6address / IPvFuture
abbrev pub BracketedAddress : Form
BracketedAddress = IsIpv6 ∣ IpvFuture

-- IP-literal = "[" ( IPv6address / IPvFuture ) "]"
abbrev pub IpLiteral : Form
IpLiteral = Literal (codes "[") ⨾ BracketedAddress ⨾ Literal (codes "]")

module _ (K : Alphabet) where
  -- userinfo = *( unreserved / pct-encoded / sub-delims / ":" )
  abbrev pub Userinfo : Form
  Userinfo = Repeat (Encoded (is_userinfo_char K))

  -- reg-name = *( unreserved / pct-encoded / sub-delims )
  abbrev pub RegName : Form
  RegName = Repeat (Encoded (is_reg_name_char K))

  -- host = IP-literal / IPv4address / reg-name
  abbrev pub Host : Form
  Host = IpLiteral ∣ IsIpv4 ∣ RegName

  -- authority = [ userinfo "@" ] host [ ":" port ]
  abbrev pub Authority : Form
  Authority = Optional (Userinfo ⨾ Literal (codes "@")) ⨾ Host
      ⨾ Optional (Literal (codes ":") ⨾ Port)

  -- segment = *pchar
  abbrev pub Segment : Form
  Segment = Repeat (Encoded (is_pchar K))

  -- segment-nz = 1*pchar
  abbrev pub SegmentNz : Form
  SegmentNz = Repeat1 (Encoded (is_pchar K))

  -- segment-nz-nc = 1*( unreserved / pct-encoded / sub-delims / "@" )
  abbrev pub SegmentNzNc : Form
  SegmentNzNc = Repeat1 (Encoded (is_nc_char K))

  -- path-abempty = *( "/" segment )
  abbrev pub PathAbempty : Form
  PathAbempty = Repeat (Literal (codes "/") ⨾ Segment)

  -- path-absolute = "/" [ segment-nz *( "/" segment ) ]
  abbrev pub PathAbsolute : Form
  PathAbsolute = Literal (codes "/") ⨾ Optional (SegmentNz ⨾ Repeat (Literal (codes "/") ⨾ Segment))

  -- path-rootless = segment-nz *( "/" segment )
  abbrev pub PathRootless : Form
  PathRootless = SegmentNz ⨾ Repeat (Literal (codes "/") ⨾ Segment)

  -- path-noscheme = segment-nz-nc *( "/" segment )
  abbrev pub PathNoscheme : Form
  PathNoscheme = SegmentNzNc ⨾ Repeat (Literal (codes "/") ⨾ Segment)

  -- hier-part = "//" authority path-abempty / path-absolute / path-rootless / path-empty
  abbrev pub HierPart : Form
  HierPart = Literal (codes "//") ⨾ Authority ⨾ PathAbempty ∣ PathAbsolute ∣ PathRootless ∣ Empty

  -- relative-part = "//" authority path-abempty / path-absolute / path-noscheme / path-empty
  abbrev pub RelativePart : Form
  RelativePart = Literal (codes "//") ⨾ Authority ⨾ PathAbempty ∣ PathAbsolute ∣ PathNoscheme
      ∣ Empty

  -- query = *( pchar / "/" / "?" ), iquery = *( ipchar / iprivate / "/" / "?" )
  abbrev pub Query : Form
  Query = Repeat (Encoded (is_query_char K))

  -- fragment = *( pchar / "/" / "?" )
  abbrev pub Fragment : Form
  Fragment = Repeat (Encoded (is_fragment_char K))

  -- [ "?" query ] [ "#" fragment ]
  abbrev pub QueryAndFragment : Form
  QueryAndFragment = Optional (Literal (codes "?") ⨾ Query)
      ⨾ Optional (Literal (codes "#") ⨾ Fragment)

  -- URI = scheme ":" hier-part [ "?" query ] [ "#" fragment ]
  abbrev pub Uri : Form
  Uri = Scheme ⨾ Literal (codes ":") ⨾ HierPart ⨾ QueryAndFragment

  -- relative-ref = relative-part [ "?" query ] [ "#" fragment ]
  abbrev pub RelativeRef : Form
  RelativeRef = RelativePart ⨾ QueryAndFragment

  -- URI-reference = URI / relative-ref
  abbrev pub UriReference : Form
  UriReference = Uri ∣ RelativeRef

abbrev pub IsUri : Form
IsUri = Uri uri

abbrev pub IsUriReference : Form
IsUriReference = UriReference uri

abbrev pub IsIri : Form
IsIri = Uri iri

abbrev pub IsIriReference : Form
IsIriReference = UriReference iri
