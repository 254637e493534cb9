-- The classes of characters of URIs and IRIs: RFC 3986 appendix A, RFC 3987 section 2.2. Above each
-- class stands its rule.
use Rattle.std.specs.Prelude.{ℕ, Bool, false, ◌||◌, ◌==◌, codes}
use Rattle.std.specs.Str.{byte}
use Rattle.std.specs.Char.{is_ascii_alphanumeric}
use Rattle.strkw_text.specs.Characters.{is_one_of, is_from_to}

-- unreserved = ALPHA / DIGIT / "-" / "." / "_" / "~"
abbrev pub is_unreserved : ℕ → Bool
is_unreserved c = is_ascii_alphanumeric c || is_one_of (codes "-._~") c

-- sub-delims = "!" / "$" / "&" / "'" / "(" / ")" / "*" / "+" / "," / ";" / "="
abbrev pub is_sub_delim : ℕ → Bool
is_sub_delim c = is_one_of (codes "!$&'()*+,;=") c

-- a further character of a scheme: ALPHA / DIGIT / "+" / "-" / "."
abbrev pub is_scheme_char : ℕ → Bool
is_scheme_char c = is_ascii_alphanumeric c || is_one_of (codes "+-.") c

-- ucschar = %xA0-D7FF / %xF900-FDCF / %xFDF0-FFEF / %xn0000-nFFFD for n from 1 to D / %xE1000-EFFFD
abbrev pub is_ucschar : ℕ → Bool
is_ucschar c =
    is_from_to 0xA0 0xD7FF c || is_from_to 0xF900 0xFDCF c || is_from_to 0xFDF0 0xFFEF c
    || is_from_to 0x10000 0x1FFFD c || is_from_to 0x20000 0x2FFFD c || is_from_to 0x30000 0x3FFFD c
    || is_from_to 0x40000 0x4FFFD c
    || is_from_to 0x50000 0x5FFFD c || is_from_to 0x60000 0x6FFFD c || is_from_to 0x70000 0x7FFFD c
    || is_from_to 0x80000 0x8FFFD c
    || is_from_to 0x90000 0x9FFFD c || is_from_to 0xA0000 0xAFFFD c || is_from_to 0xB0000 0xBFFFD c
    || is_from_to 0xC0000 0xCFFFD c
    || is_from_to 0xD0000 0xDFFFD c || is_from_to 0xE1000 0xEFFFD c

-- iprivate = %xE000-F8FF / %xF0000-FFFFD / %x100000-10FFFD
abbrev pub is_iprivate : ℕ → Bool
is_iprivate c = is_from_to 0xE000 0xF8FF c || is_from_to 0xF0000 0xFFFFD c
    || is_from_to 0x100000 0x10FFFD c

-- What URIs and IRIs differ in: the unreserved characters, and what a query may hold beside the
-- others.
pub record Alphabet : Type 0 where
  pub unreserved : ℕ → Bool
  pub private : ℕ → Bool

-- RFC 3986
abbrev pub uri : Alphabet
uri = record { unreserved = is_unreserved; private = λ c. false }

-- RFC 3987: iunreserved = ALPHA / DIGIT / "-" / "." / "_" / "~" / ucschar
abbrev pub iri : Alphabet
iri = record { unreserved = λ c. is_unreserved c || is_ucschar c; private = is_iprivate }

-- Each class is the RFC's rule without its case pct-encoded, which the forms add.
module _ (K : Alphabet) where
  -- reg-name = *( unreserved / pct-encoded / sub-delims )
  abbrev pub is_reg_name_char : ℕ → Bool
  is_reg_name_char c = K.unreserved c || is_sub_delim c

  -- userinfo = *( unreserved / pct-encoded / sub-delims / ":" )
  abbrev pub is_userinfo_char : ℕ → Bool
  is_userinfo_char c = is_reg_name_char c || c == byte ":"

  -- pchar = unreserved / pct-encoded / sub-delims / ":" / "@"
  abbrev pub is_pchar : ℕ → Bool
  is_pchar c = is_reg_name_char c || is_one_of (codes ":@") c

  -- segment-nz-nc = 1*( unreserved / pct-encoded / sub-delims / "@" )
  abbrev pub is_nc_char : ℕ → Bool
  is_nc_char c = is_reg_name_char c || c == byte "@"

  -- fragment = *( pchar / "/" / "?" )
  abbrev pub is_fragment_char : ℕ → Bool
  is_fragment_char c = is_pchar c || is_one_of (codes "/?") c

  -- query = *( pchar / "/" / "?" ), iquery = *( ipchar / iprivate / "/" / "?" )
  abbrev pub is_query_char : ℕ → Bool
  is_query_char c = is_fragment_char c || K.private c
