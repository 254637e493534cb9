-- The request that a text is, by its tokens.
use Rattle.std.proofs.Common.{◌≡◌, ℕ, ◌-◌, ◌<◌, nat_lt, List, [], ◌∷◌, length, false, Option, Some}
use Rattle.std.proofs.Common.{None, option_and_then, refl, ap, ◌∙◌, true≢false, arith}
use Rattle.std.specs.Str.{IsUtf8}
use Rattle.json.specs.Token.{Token}
use Rattle.json.specs.Lex.{Lexeme, token, comma, colon, Class, quote, backslash, operator, space, other, class, between, lex, lex_byte}
use Rattle.json.specs.Lex.{fresh, punctuate, tokens}
use Rattle.json.specs.Json.{parse_map, value}
use Rattle.serde_json.specs.Data.{Data, array, object, Members, no_members}
use Rattle.serde_json.specs.Find.{as_object}
use Rattle.serde_json.specs.Read.{number_of, read as read_text}
use Rattle.strkw_json.specs.Passing.{items_read, members_read}
use Rattle.strkw_json.proofs.FirstTokens.{seen, none_seen, none_seen_if, none_in_number}
use Rattle.strkw_json.proofs.Reading.{first_read, at_end, no_key, read_by_tokens}
use Rattle.strkw_json.specs.Json.{IsReading}
use Rattle.strkw_cli.specs.Request.{request_in, request_of_members}
use Rattle.strkw_cli.specs.Parts.{request_left}
use Rattle.strkw_cli.specs.Tokens.{begins_object}

-- ---- whether it begins with an object

-- of tokens that do not begin an object, no object is read first
no_object_first : (depth : ℕ) (ts : List Token) → begins_object ts ≡ false → seen as_object (first_read depth ts) ≡ None
no_object_first depth [] none = refl
no_object_first depth (Token.begin_object ∷ ts) none = absurd (true≢false none)
no_object_first depth (Token.end_object ∷ ts) none = refl
no_object_first depth (Token.begin_array ∷ ts) none = none_seen_if as_object (nat_lt 0 depth) _
    (none_seen as_object array (λ is. refl) (items_read (depth - 1) ts))
no_object_first depth (Token.end_array ∷ ts) none = refl
no_object_first depth (Token.key s ∷ ts) none = refl
no_object_first depth (Token.string s ∷ ts) none = refl
no_object_first depth (Token.number s ∷ ts) none = none_in_number as_object (λ n. refl) ts (number_of s)
no_object_first depth (Token.boolean b ∷ ts) none = refl
no_object_first depth (Token.null ∷ ts) none = refl
no_object_first depth (Token.bad ∷ ts) none = refl

-- what was read of an object is a request if nothing is left
by_what_is_left : (read : Option (Members × List Token)) → option_and_then request_in (at_end (parse_map object read)) ≡ request_left read
by_what_is_left None = refl
by_what_is_left (Some (ms, [])) = refl
by_what_is_left (Some (ms, t ∷ ts)) = refl

-- ---- the request, by the members of the object

module _ (text : List ℕ) where
  -- the request of a text that begins an object is that of the members read behind it
  by_object : (ts : List Token) → tokens text ≡ Token.begin_object ∷ ts
      → option_and_then request_in (read_text text) ≡ option_and_then request_in (at_end (parse_map object (members_read 126 ts)))
  by_object ts first = ap (option_and_then request_in) (read_by_tokens text ∙ ap (λ x. at_end (first_read 127 x)) first)

  -- so it is that of what was read, if nothing is left
  pub by_members : (ts : List Token) → tokens text ≡ Token.begin_object ∷ ts → option_and_then request_in (read_text text) ≡ request_left (members_read 126 ts)
  by_members ts first = by_object ts first ∙ by_what_is_left (members_read 126 ts)

  -- where the members are read and nothing is left, the request is that of the members
  pub asked : (ts : List Token) (ms : Members) → tokens text ≡ Token.begin_object ∷ ts → members_read 126 ts ≡ Some (ms, [])
      → option_and_then request_in (read_text text) ≡ request_of_members ms
  asked ts ms first read = by_object ts first ∙ ap (λ r. option_and_then request_in (at_end (parse_map object r))) read

  -- where no members are read, there is no request
  pub no_members_read : (ts : List Token) → tokens text ≡ Token.begin_object ∷ ts → members_read 126 ts ≡ None
      → option_and_then request_in (read_text text) ≡ None
  no_members_read ts first none = by_object ts first ∙ ap (λ r. option_and_then request_in (at_end (parse_map object r))) none

  -- what was read is no request where it is no object
  no_object : (r : Option (Data × List Token)) → seen as_object r ≡ None → option_and_then request_in (at_end r) ≡ None
  no_object None none = refl
  no_object (Some (d, [])) none = ap (option_and_then request_of_members) none
  no_object (Some (d, t ∷ ts)) none = refl

  -- a text that does not begin an object is no request
  pub no_object_read : begins_object (tokens text) ≡ false → option_and_then request_in (read_text text) ≡ None
  no_object_read none = ap (option_and_then request_in) (read_by_tokens text)
      ∙ no_object (first_read 127 (tokens text)) (no_object_first 127 (tokens text) none)

-- ---- a text of one byte

-- one lexeme at most is no request
one_lexeme : (text : List ℕ) (ls : List Lexeme) → tokens text ≡ punctuate fresh ls → length ls < 2
    → option_and_then request_in (read_text text) ≡ None
unfolding punctuate
one_lexeme text [] is short = no_object_read text (ap begins_object is)
one_lexeme text (token Token.begin_object ∷ []) is short = no_members_read text [] is (no_key (value 126) no_members 0 [] refl)
one_lexeme text (token Token.end_object ∷ []) is short = no_object_read text (ap begins_object is)
one_lexeme text (token Token.begin_array ∷ []) is short = no_object_read text (ap begins_object is)
one_lexeme text (token Token.end_array ∷ []) is short = no_object_read text (ap begins_object is)
one_lexeme text (token (Token.key s) ∷ []) is short = no_object_read text (ap begins_object is)
one_lexeme text (token (Token.string s) ∷ []) is short = no_object_read text (ap begins_object is)
one_lexeme text (token (Token.number s) ∷ []) is short = no_object_read text (ap begins_object is)
one_lexeme text (token (Token.boolean b) ∷ []) is short = no_object_read text (ap begins_object is)
one_lexeme text (token Token.null ∷ []) is short = no_object_read text (ap begins_object is)
one_lexeme text (token Token.bad ∷ []) is short = no_object_read text (ap begins_object is)
one_lexeme text (comma ∷ []) is short = no_object_read text (ap begins_object is)
one_lexeme text (colon ∷ []) is short = no_object_read text (ap begins_object is)
one_lexeme text (l ∷ m ∷ ls) is short = absurd (omega (arith, short))

-- a byte is one lexeme at most
lexemes_of_byte : (b : ℕ) (c : Class) → length (lex_byte between c b [] (λ next. lex next [])) < 2
unfolding lex
lexemes_of_byte b quote = omega arith
lexemes_of_byte b backslash = omega arith
lexemes_of_byte b operator = omega arith
lexemes_of_byte b space = omega arith
lexemes_of_byte b other = omega arith

-- a text of fewer than two bytes is no request
pub no_short_request : (text : List ℕ) → length text < 2 → option_and_then request_in (read_text text) ≡ None
unfolding lex
no_short_request [] short = one_lexeme [] [] refl (omega arith)
no_short_request (b ∷ []) short = one_lexeme (b ∷ []) (lex between (b ∷ [])) refl (lexemes_of_byte b (class b))
no_short_request (b ∷ c ∷ more) short = absurd (omega (arith, short))

-- of no bytes nothing is read
pub nothing_read : read_text [] ≡ None
unfolding lex punctuate
nothing_read = read_by_tokens []

-- ---- the reading of a line

-- of a line that is UTF-8 its reading is what is read of it
pub reading_of : (text : List ℕ) (o : Option Data) → IsUtf8 text → read_text text ≡ o → IsReading text o
reading_of text None utf8 read = λ u. read
reading_of text (Some d) utf8 read = (utf8, read)
