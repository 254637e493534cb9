-- Which characters stand in which class.
use Rattle.std.proofs.Common.{◌≡◌, ℕ, Bool, true, false, ◌==◌, IsTrue, ◌||◌, refl, rules}
use Rattle.std.specs.Char.{is_ascii_digit, is_ascii_alphabetic}
use Rattle.std.proofs.lemmas.Bool.{or_left}
use Rattle.strkw_uri.specs.Scan.{or_slash, alphabet, is_part_char}
use Rattle.strkw_uri.specs.Characters.{is_query_char, is_pchar, is_userinfo_char, is_reg_name_char, is_unreserved, is_sub_delim, is_ucschar, uri, iri}
use Rattle.strkw_uri.specs.Characters.{is_nc_char, is_scheme_char, Alphabet}
use Rattle.strkw_uri.specs.declared.part.Syntax.{Syntax}
use Rattle.strkw_uri.specs.declared.part.Syntax.TheVariants.{Rfc3986, Rfc3987}
use Rattle.strkw_uri.specs.declared.part.Part.{Part}
use Rattle.strkw_uri.specs.declared.part.Part.TheVariants.{RegNameChar, UserinfoChar, PathChar, SegmentNcChar, QueryChar, FragmentChar}

-- a percent sign is of no part's class
pub no_percent : (s : Syntax) (p : Part) → is_part_char s p 37 ≡ false
no_percent Rfc3986 RegNameChar = refl
no_percent Rfc3986 UserinfoChar = refl
no_percent Rfc3986 PathChar = refl
no_percent Rfc3986 SegmentNcChar = refl
no_percent Rfc3986 QueryChar = refl
no_percent Rfc3986 FragmentChar = refl
no_percent Rfc3987 RegNameChar = refl
no_percent Rfc3987 UserinfoChar = refl
no_percent Rfc3987 PathChar = refl
no_percent Rfc3987 SegmentNcChar = refl
no_percent Rfc3987 QueryChar = refl
no_percent Rfc3987 FragmentChar = refl

-- a character that is of a class in neither alphabet
lacks : (class : Alphabet → ℕ → Bool) (c : ℕ) → class uri c ≡ false → class iri c ≡ false → (s : Syntax) → class (alphabet s) c ≡ false
lacks class c none no_wide Rfc3986 = none
lacks class c none no_wide Rfc3987 = no_wide

-- "#" is no character of a query
pub no_hash_in_query : (s : Syntax) → is_query_char (alphabet s) 35 ≡ false
no_hash_in_query = lacks is_query_char 35 refl refl

-- "?" is no character of a path
pub no_question_in_path : (s : Syntax) → or_slash (is_pchar (alphabet s)) 63 ≡ false
no_question_in_path = lacks (λ k. or_slash (is_pchar k)) 63 refl refl

-- "#" is no character of a path
pub no_hash_in_path : (s : Syntax) → or_slash (is_pchar (alphabet s)) 35 ≡ false
no_hash_in_path = lacks (λ k. or_slash (is_pchar k)) 35 refl refl

-- "@" is no character of a userinfo
pub no_at_in_userinfo : (s : Syntax) → is_userinfo_char (alphabet s) 64 ≡ false
no_at_in_userinfo = lacks is_userinfo_char 64 refl refl

-- "[" is no character of a userinfo
pub no_bracket_in_userinfo : (s : Syntax) → is_userinfo_char (alphabet s) 91 ≡ false
no_bracket_in_userinfo = lacks is_userinfo_char 91 refl refl

-- a slash is no character of a userinfo
pub no_slash_in_userinfo : (s : Syntax) → is_userinfo_char (alphabet s) 47 ≡ false
no_slash_in_userinfo = lacks is_userinfo_char 47 refl refl

-- "?" is no character of a userinfo
pub no_question_in_userinfo : (s : Syntax) → is_userinfo_char (alphabet s) 63 ≡ false
no_question_in_userinfo = lacks is_userinfo_char 63 refl refl

-- "#" is no character of a userinfo
pub no_hash_in_userinfo : (s : Syntax) → is_userinfo_char (alphabet s) 35 ≡ false
no_hash_in_userinfo = lacks is_userinfo_char 35 refl refl

-- a colon is no character of a registered name
pub no_colon_in_name : (s : Syntax) → is_reg_name_char (alphabet s) 58 ≡ false
no_colon_in_name = lacks is_reg_name_char 58 refl refl

-- a slash is no character of a registered name
pub no_slash_in_name : (s : Syntax) → is_reg_name_char (alphabet s) 47 ≡ false
no_slash_in_name = lacks is_reg_name_char 47 refl refl

-- "?" is no character of a registered name
pub no_question_in_name : (s : Syntax) → is_reg_name_char (alphabet s) 63 ≡ false
no_question_in_name = lacks is_reg_name_char 63 refl refl

-- "#" is no character of a registered name
pub no_hash_in_name : (s : Syntax) → is_reg_name_char (alphabet s) 35 ≡ false
no_hash_in_name = lacks is_reg_name_char 35 refl refl

-- "[" is no character of a registered name
pub no_bracket_in_name : (s : Syntax) → is_reg_name_char (alphabet s) 91 ≡ false
no_bracket_in_name = lacks is_reg_name_char 91 refl refl

-- a slash is no character of a segment
pub no_slash_in_segment : (s : Syntax) → is_pchar (alphabet s) 47 ≡ false
no_slash_in_segment = lacks is_pchar 47 refl refl

-- a slash is no character of a segment without colons
pub no_slash_in_nc : (s : Syntax) → is_nc_char (alphabet s) 47 ≡ false
no_slash_in_nc = lacks is_nc_char 47 refl refl

-- a colon is no character of a segment without colons
pub no_colon_in_nc : (s : Syntax) → is_nc_char (alphabet s) 58 ≡ false
no_colon_in_nc = lacks is_nc_char 58 refl refl

-- "?" is no character of a segment without colons
pub no_question_in_nc : (s : Syntax) → is_nc_char (alphabet s) 63 ≡ false
no_question_in_nc = lacks is_nc_char 63 refl refl

-- "#" is no character of a segment without colons
pub no_hash_in_nc : (s : Syntax) → is_nc_char (alphabet s) 35 ≡ false
no_hash_in_nc = lacks is_nc_char 35 refl refl

-- a dot is a character of a registered name
pub dot_in_name : (s : Syntax) → IsTrue (is_reg_name_char (alphabet s) 46)
dot_in_name Rfc3986 = refl
dot_in_name Rfc3987 = refl

-- a decimal digit is an unreserved character
digit_unreserved : (c : ℕ) → IsTrue (is_ascii_digit c) → IsTrue (is_unreserved c)
digit_unreserved c h = search (rules, or_left)

-- a decimal digit is a character of a registered name
pub digit_in_name : (s : Syntax) (c : ℕ) → IsTrue (is_ascii_digit c) → IsTrue (is_reg_name_char (alphabet s) c)
digit_in_name Rfc3986 c h = or_left (is_unreserved c) (is_sub_delim c) (digit_unreserved c h)
digit_in_name Rfc3987 c h = or_left (iri.unreserved c) (is_sub_delim c) (or_left (is_unreserved c) (is_ucschar c) (digit_unreserved c h))

-- a decimal digit is a character of a userinfo
pub digit_in_userinfo : (s : Syntax) (c : ℕ) → IsTrue (is_ascii_digit c) → IsTrue (is_userinfo_char (alphabet s) c)
digit_in_userinfo s c h = or_left (is_reg_name_char (alphabet s) c) (c == 58) (digit_in_name s c h)

-- a character of a scheme is unreserved or a sub-delim
scheme_unreserved : (c : ℕ) → IsTrue (is_scheme_char c) → IsTrue (is_unreserved c || is_sub_delim c)
scheme_unreserved c h = search (rules, or_left)

-- an ASCII letter is a character of a scheme
letter_in_scheme : (c : ℕ) → IsTrue (is_ascii_alphabetic c) → IsTrue (is_scheme_char c)
letter_in_scheme c h = search (rules, or_left)

-- where a or b holds, so does a or x or b
or_between : (a x b : Bool) → IsTrue (a || b) → IsTrue ((a || x) || b)
or_between true x b h = refl
or_between false true b h = refl
or_between false false b h = h

-- a character of a scheme is one of a segment without colons
pub scheme_in_nc : (s : Syntax) (c : ℕ) → IsTrue (is_scheme_char c) → IsTrue (is_nc_char (alphabet s) c)
scheme_in_nc Rfc3986 c h = or_left (is_reg_name_char uri c) (c == 64) (scheme_unreserved c h)
scheme_in_nc Rfc3987 c h = or_left (is_reg_name_char iri c) (c == 64) (or_between (is_unreserved c) (is_ucschar c) (is_sub_delim c) (scheme_unreserved c h))

-- an ASCII letter is a character of a segment without colons
pub letter_in_nc : (s : Syntax) (c : ℕ) → IsTrue (is_ascii_alphabetic c) → IsTrue (is_nc_char (alphabet s) c)
letter_in_nc s c h = scheme_in_nc s c (letter_in_scheme c h)
