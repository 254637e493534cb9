-- The classes of characters of mail addresses: RFC 5321 sections 4.1.2 and 4.1.3, and RFC 5322
-- section 3.2.3. Above each class stands its rule.
use Rattle.std.specs.Prelude.{ℕ, Bool, ◌||◌, ◌&&◌, not, codes}
use Rattle.std.specs.Char.{is_ascii_alphanumeric}
use Rattle.strkw_text.specs.Characters.{is_one_of, is_from_to}

-- atext = ALPHA / DIGIT / "!" / "#" / "$" / "%" / "&" / "'" / "*" / "+" / "-" / "/" / "=" / "?" /
-- "^" / "_" / "`" / "{" / "|" / "}" / "~"
abbrev pub is_atext : ℕ → Bool
is_atext c = is_ascii_alphanumeric c || is_one_of (codes "!#$%&'*+-/=?^_`{|}~") c

-- what may stand behind a backslash, %d32-126: a space or a graphic character of ASCII
abbrev pub is_escaped : ℕ → Bool
is_escaped c = is_from_to 32 126 c

-- qtextSMTP = %d32-33 / %d35-91 / %d93-126: such a character, but neither the quote nor the
-- backslash
abbrev pub is_qtext_smtp : ℕ → Bool
is_qtext_smtp c = is_escaped c && not (is_one_of (codes "\"\\") c)

-- dcontent = %d33-90 / %d94-126: a graphic character, but neither a bracket nor the backslash
abbrev pub is_dcontent : ℕ → Bool
is_dcontent c = is_from_to 33 126 c && not (is_one_of (codes "[\\]") c)
