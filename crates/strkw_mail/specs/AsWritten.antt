-- The characters of the rules as the standards write them, alternative by alternative and range by
-- range. The laws say that the classes of `Characters`, which gather them, are the same.
use Rattle.std.specs.Prelude.{ℕ, Bool, ◌||◌, ◌==◌}
use Rattle.std.specs.Str.{byte}
use Rattle.strkw_text.specs.Characters.{is_from_to}

-- RFC 5234 appendix B.1: ALPHA = %x41-5A / %x61-7A
abbrev pub alpha_as_written : ℕ → Bool
alpha_as_written c = is_from_to 0x41 0x5A c || is_from_to 0x61 0x7A c

-- RFC 5234 appendix B.1: DIGIT = %x30-39
abbrev pub digit_as_written : ℕ → Bool
digit_as_written c = is_from_to 0x30 0x39 c

-- RFC 5321 section 4.1.2: Let-dig = ALPHA / DIGIT
abbrev pub let_dig_as_written : ℕ → Bool
let_dig_as_written c = alpha_as_written c || digit_as_written c

-- RFC 5321 section 4.1.2, in Ldh-str: ALPHA / DIGIT / "-"
abbrev pub ldh_as_written : ℕ → Bool
ldh_as_written c = alpha_as_written c || digit_as_written c || c == byte "-"

-- RFC 5322 section 3.2.3: atext = ALPHA / DIGIT / "!" / "#" / "$" / "%" / "&" / "'" / "*" / "+" /
-- "-" / "/" / "=" / "?" / "^" / "_" / "`" / "{" / "|" / "}" / "~"
abbrev pub atext_as_written : ℕ → Bool
atext_as_written c =
    alpha_as_written c || digit_as_written c
    || c == byte "!" || c == byte "#" || c == byte "$" || c == byte "%" || c == byte "&"
    || c == byte "'" || c == byte "*" || c == byte "+" || c == byte "-" || c == byte "/"
    || c == byte "=" || c == byte "?" || c == byte "^" || c == byte "_" || c == byte "`"
    || c == byte "{" || c == byte "|" || c == byte "}" || c == byte "~"

-- RFC 5321 section 4.1.2: quoted-pairSMTP = %d92 %d32-126, of which this is the second
abbrev pub escaped_as_written : ℕ → Bool
escaped_as_written c = is_from_to 32 126 c

-- RFC 5321 section 4.1.2: qtextSMTP = %d32-33 / %d35-91 / %d93-126
abbrev pub qtext_smtp_as_written : ℕ → Bool
qtext_smtp_as_written c = is_from_to 32 33 c || is_from_to 35 91 c || is_from_to 93 126 c

-- RFC 5321 section 4.1.3: dcontent = %d33-90 / %d94-126
abbrev pub dcontent_as_written : ℕ → Bool
dcontent_as_written c = is_from_to 33 90 c || is_from_to 94 126 c
