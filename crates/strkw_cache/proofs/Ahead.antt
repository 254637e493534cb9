-- What stands in front is read apart from what stands behind it, where its last token is a bracket or a key.
use Rattle.std.proofs.Common.{◌≡◌, ◌⊎◌, inl, inr, ℕ, zero, suc, ◌+◌, ◌-◌, ◌<◌, ◌≤◌, Bool, true, false, cond, ◌&&◌, ◌||◌, ◌==◌, List, [], ◌∷◌, ◌++◌, length}
use Rattle.std.proofs.Common.{length-append, drop, take, fold, Option, Some, None, refl, sym, ap, ap₂, ◌∙◌, subst, append_assoc, arith}
use Rattle.std.proofs.lemmas.Bool.{true≢false, false≢true, eqb-true, ne_eqb, and_parts}
use Rattle.std.specs.Prelude.{⊤, is_some, option_and_then, nat_eq, nat_lt}
use Rattle.std.specs.List.{prefix_len, starts_with}
use Rattle.std.specs.Char.{encode_utf8, is_ascii_digit, is_digit}
use Rattle.std.proofs.lemmas.List.{drop-drop, length-drop}
use Rattle.json.specs.Align.{is_good}
use Rattle.json.specs.Token.{Token, begin_object, end_object, begin_array, end_array, key, string, number, boolean, null, bad}
use Rattle.json.specs.Text.{content, plain, prepend, short_escape, code_unit, is_high_surrogate, is_low_surrogate, surrogate_pair, Within, after_backslash}
use Rattle.json.specs.Text.{after_u, after_high}
use Rattle.json.specs.Word.{is_operator, is_space, head, ends_word, after_digits, after_minus, after_sign, after_whole, after_fraction, after_exponent}
use Rattle.json.specs.Word.{after_number, number_before, literal, word}
use Rattle.json.specs.Lex.{Class, quote, backslash, operator, space, other, class, Lexeme, token, comma, colon, Mode, between, in_word, in_string, in_escape}
use Rattle.json.specs.Lex.{lex, lex_byte, operator_lexeme, string_token, Place, fresh, after_value, after_comma, after_key, begins_colon, if_allowed, may_begin}
use Rattle.json.specs.Lex.{may_close, place_token, punctuate, tokens}
use Rattle.json.specs.Ascii.{true_text, false_text, null_text}
use Rattle.json.specs.Print.{ends, escape, IsNumber}
use Rattle.json.proofs.Printed.Strings.{content-escape, lex-escape}
use Rattle.json.proofs.Printed.Numbers.{in_word-ended, lex-number, number_alone}
use Rattle.strkw_cache.specs.Fronts.{AreGood}

-- ---- tokens

abbrev IsGood : Token → Type 0
IsGood t = is_good t ≡ true

-- a value has been read where one stands, or a comma behind one
abbrev pub is_after_value : Place → Bool
is_after_value fresh = false
is_after_value after_value = true
is_after_value after_comma = true
is_after_value after_key = false

-- the place behind a value, and that where one may begin
abbrev pub behind : Bool → Place
behind true = after_value
behind false = fresh

-- the place behind tokens that are read from one on
abbrev pub left_at : Place → List Token → Place
left_at p ts = behind (fold (λ _ t. ends t) (is_after_value p) ts)

-- A bracket and a key are read alike whatever stands behind them.
abbrev pub stands_alone : Token → Bool
stands_alone begin_object = true
stands_alone end_object = true
stands_alone begin_array = true
stands_alone end_array = true
stands_alone (key s) = true
stands_alone (string s) = false
stands_alone (number s) = false
stands_alone (boolean b) = false
stands_alone null = false
stands_alone bad = false

-- the last of some tokens does, or what was there before them did
abbrev pub LastAlone : Bool → List Token → Type 0
LastAlone before ts = fold (λ _ t. stands_alone t) before ts ≡ true

-- the token is a string
abbrev is_string : Token → Bool
is_string begin_object = false
is_string end_object = false
is_string begin_array = false
is_string end_array = false
is_string (key s) = false
is_string (string s) = true
is_string (number s) = false
is_string (boolean b) = false
is_string null = false
is_string bad = false

-- What is read of the lexemes from a place on, and then what is read of the rest from the place behind them, is what is
-- read of other lexemes.
abbrev Goes : List Lexeme → List Lexeme → List Lexeme → Place → Type 0
Goes ls more rest p = (before : Bool) → AreGood (punctuate p ls) → LastAlone before (punctuate p ls)
    → punctuate p more ≡ punctuate p ls ++ punctuate (left_at p (punctuate p ls)) rest

module _ (ls more rest : List Lexeme) (goes : (p : Place) → Goes ls more rest p) where
  -- a token that is allowed
  allowed : (a : Bool) (t : Token) (p q : Place) (before : Bool) → ends t ≡ is_after_value q → AreGood (if_allowed a t (λ n. punctuate n ls) q)
      → LastAlone before (if_allowed a t (λ n. punctuate n ls) q)
      → if_allowed a t (λ n. punctuate n more) q ≡ if_allowed a t (λ n. punctuate n ls) q ++ punctuate (left_at p (if_allowed a t (λ n. punctuate n ls) q)) rest
  allowed true t p q before e good alone =
      ap (λ l. t ∷ l) (goes q (stands_alone t) good.1 alone
      ∙ ap (λ c. punctuate q ls ++ punctuate (behind (fold (λ _ u. ends u) c (punctuate q ls))) rest) (sym e))
  allowed false t p q before e good alone = absurd (false≢true good.0)

  -- a token, where a colon stands behind both or behind none if it is a string
  placed : (p : Place) (t : Token) (b c before : Bool) → (is_string t ≡ true → c ≡ b) → AreGood (place_token p t b (λ n. punctuate n ls))
      → LastAlone before (place_token p t b (λ n. punctuate n ls))
      → place_token p t c (λ n. punctuate n more)
      ≡ place_token p t b (λ n. punctuate n ls) ++ punctuate (left_at p (place_token p t b (λ n. punctuate n ls))) rest
  placed p begin_object b c before same good alone = allowed (may_begin p) begin_object p fresh before refl good alone
  placed p end_object b c before same good alone = allowed (may_close p) end_object p after_value before refl good alone
  placed p begin_array b c before same good alone = allowed (may_begin p) begin_array p fresh before refl good alone
  placed p end_array b c before same good alone = allowed (may_close p) end_array p after_value before refl good alone
  placed p (key s) b c before same good alone = absurd (false≢true good.0)
  placed p (string s) true true before same good alone = allowed (may_begin p) (key s) p after_key before refl good alone
  placed p (string s) false false before same good alone = allowed (may_begin p) (string s) p after_value before refl good alone
  placed p (string s) true false before same good alone = absurd (false≢true (same refl))
  placed p (string s) false true before same good alone = absurd (true≢false (same refl))
  placed p (number s) b c before same good alone = allowed (may_begin p) (number s) p after_value before refl good alone
  placed p (boolean x) b c before same good alone = allowed (may_begin p) (boolean x) p after_value before refl good alone
  placed p null b c before same good alone = allowed (may_begin p) null p after_value before refl good alone
  placed p bad b c before same good alone = absurd (false≢true good.0)

  -- so it is of a lexeme that is a token
  token_placed : (t : Token) → (is_string t ≡ true → begins_colon more ≡ begins_colon ls) → (p : Place) → Goes (token t ∷ ls) (token t ∷ more) rest p
  unfolding punctuate
  token_placed t same fresh before good alone = placed fresh t (begins_colon ls) (begins_colon more) before same good alone
  token_placed t same after_value before good alone = placed after_value t (begins_colon ls) (begins_colon more) before same good alone
  token_placed t same after_comma before good alone = placed after_comma t (begins_colon ls) (begins_colon more) before same good alone
  token_placed t same after_key before good alone = placed after_key t (begins_colon ls) (begins_colon more) before same good alone

  -- a comma or a colon
  comma_placed : (p : Place) → Goes (comma ∷ ls) (comma ∷ more) rest p
  unfolding punctuate
  comma_placed fresh before good alone = absurd (false≢true good.0)
  comma_placed after_value before good alone = goes after_comma before good alone
  comma_placed after_comma before good alone = absurd (false≢true good.0)
  comma_placed after_key before good alone = absurd (false≢true good.0)

  -- and a colon
  colon_placed : (p : Place) → Goes (colon ∷ ls) (colon ∷ more) rest p
  unfolding punctuate
  colon_placed fresh before good alone = absurd (false≢true good.0)
  colon_placed after_value before good alone = absurd (false≢true good.0)
  colon_placed after_comma before good alone = absurd (false≢true good.0)
  colon_placed after_key before good alone = goes fresh before good alone

  -- a lexeme of an operator
  operator_placed : (a b c d e : Bool) (p : Place)
      → let l = cond a (token begin_object) (cond b (token end_object) (cond c (token begin_array) (cond d (token end_array) (cond e comma colon)))) in
      Goes (l ∷ ls) (l ∷ more) rest p
  operator_placed true b c d e = token_placed begin_object (λ h. absurd (false≢true h))
  operator_placed false true c d e = token_placed end_object (λ h. absurd (false≢true h))
  operator_placed false false true d e = token_placed begin_array (λ h. absurd (false≢true h))
  operator_placed false false false true e = token_placed end_array (λ h. absurd (false≢true h))
  operator_placed false false false false true = comma_placed
  operator_placed false false false false false = colon_placed

-- not where it is allowed or refused
one_allowed : (a : Bool) (t : Token) (before : Bool) → stands_alone t ≡ false → AreGood (if_allowed a t (λ n. punctuate n []) after_value)
    → LastAlone before (if_allowed a t (λ n. punctuate n []) after_value) → ⊥
unfolding punctuate
one_allowed true t before text good alone = true≢false (sym alone ∙ text)
one_allowed false t before text good alone = false≢true good.0

-- not in any place
in_place : (p : Place) (t : Token) (before : Bool) → stands_alone t ≡ false → AreGood (place_token p t false (λ n. punctuate n []))
    → LastAlone before (place_token p t false (λ n. punctuate n [])) → ⊥
in_place p begin_object before text good alone = true≢false text
in_place p end_object before text good alone = true≢false text
in_place p begin_array before text good alone = true≢false text
in_place p end_array before text good alone = true≢false text
in_place p (key s) before text good alone = true≢false text
in_place p (string s) before text good alone = one_allowed (may_begin p) (string s) before text good alone
in_place p (number s) before text good alone = one_allowed (may_begin p) (number s) before text good alone
in_place p (boolean b) before text good alone = one_allowed (may_begin p) (boolean b) before text good alone
in_place p null before text good alone = one_allowed (may_begin p) null before text good alone
in_place p bad before text good alone = false≢true good.0

-- a text or a word is not the last token where that stands alone
never_last : (p : Place) (t : Token) (before : Bool) → stands_alone t ≡ false → AreGood (punctuate p (token t ∷ []))
    → LastAlone before (punctuate p (token t ∷ [])) → ⊥
unfolding punctuate
never_last fresh t before text good alone = in_place fresh t before text good alone
never_last after_value t before text good alone = in_place after_value t before text good alone
never_last after_comma t before text good alone = in_place after_comma t before text good alone
never_last after_key t before text good alone = in_place after_key t before text good alone

-- ---- lexemes

-- whatever is behind it, a lexeme is a colon or not
begins_alike : (l : Lexeme) (ls more : List Lexeme) → begins_colon (l ∷ more) ≡ begins_colon (l ∷ ls)
begins_alike (token t) ls more = refl
begins_alike comma ls more = refl
begins_alike colon ls more = refl

module _ (rest : List ℕ) where
  -- a colon stands first in a text and in a longer one, unless the text is blank
  colon_byte : (c : Class) (x : ℕ) (xs : List ℕ) → (begins_colon (lex between (xs ++ rest)) ≡ begins_colon (lex between xs)) ⊎ (lex between xs ≡ [])
      → (begins_colon (lex_byte between c x (xs ++ rest) (λ m. lex m (xs ++ rest))) ≡ begins_colon (lex_byte between c x xs (λ m. lex m xs)))
      ⊎ (lex_byte between c x xs (λ m. lex m xs) ≡ [])
  colon_byte quote x xs ih = inl refl
  colon_byte backslash x xs ih = inl refl
  colon_byte operator x xs ih = inl (begins_alike (operator_lexeme x) (lex between xs) (lex between (xs ++ rest)))
  colon_byte space x xs ih = ih
  colon_byte other x xs ih = inl refl

  -- So it is of whole texts.
  same_colon : (xs : List ℕ) → (begins_colon (lex between (xs ++ rest)) ≡ begins_colon (lex between xs)) ⊎ (lex between xs ≡ [])
  unfolding lex
  same_colon [] = inr refl
  same_colon (x ∷ xs) = colon_byte (class x) x xs (same_colon xs)

-- ---- strings

-- how the lexer stands within a string
abbrev mode_in : Within → Mode
mode_in plain = in_string
mode_in after_backslash = in_escape
mode_in after_u = in_string
mode_in (after_high h) = in_string

-- A string ends at a quotation mark, and is read alike whatever stands behind that.
record Ended (w : Within) (xs s : List ℕ) : Type 0 where
  text : List ℕ
  behind : List ℕ
  stands : xs ≡ text ++ 34 ∷ behind
  reads : (rest : List ℕ) → content w (text ++ 34 ∷ rest) ≡ Some s
  passes : (rest : List ℕ) → lex (mode_in w) (text ++ 34 ∷ rest) ≡ lex between rest

-- what a string is, where it ends
abbrev Ends : Within → List ℕ → Type 0
Ends w xs = (s : List ℕ) → content w xs ≡ Some s → Ended w xs s

-- nothing is no string
none_is : {A : Type 0} (s : List ℕ) → None ≡ Some s → A
none_is s e = absurd (false≢true (ap is_some e))

-- what was put in front of the content is that of a content
prepended : (b s : List ℕ) (o : Option (List ℕ)) → prepend b o ≡ Some s → (r : List ℕ) × (o ≡ Some r) × (prepend b (Some r) ≡ Some s)
prepended b s None e = none_is s e
prepended b s (Some r) e = (r, refl, e)

-- a byte that is no quotation mark and no backslash is passed over within a string
passed : (x : ℕ) (rest : List ℕ) → (x == 34) ≡ false → (x == 92) ≡ false → lex in_string (x ∷ rest) ≡ lex in_string rest
unfolding lex
passed x rest q b = rw (q, b) (by (is_operator x) (is_space x))
  where
    by : (o s : Bool) → lex_byte in_string (cond o operator (cond s space other)) x rest (λ m. lex m rest) ≡ lex in_string rest
    by true s = refl
    by false true = refl
    by false false = refl

-- one byte before the rest of a string
byte_before : (w v : Within) (x : ℕ) (xs s r : List ℕ) → Ended v xs r
    → ((rest : List ℕ) → content v rest ≡ Some r → content w (x ∷ rest) ≡ Some s)
    → ((rest : List ℕ) → lex (mode_in w) (x ∷ rest) ≡ lex (mode_in v) rest) → Ended w (x ∷ xs) s
byte_before w v x xs s r is reads passes = record {
  text = x ∷ is.text;
  behind = is.behind;
  stands = ap (λ l. x ∷ l) is.stands;
  reads = λ rest. reads (is.text ++ 34 ∷ rest) (is.reads rest);
  passes = λ rest. passes (is.text ++ 34 ∷ rest) ∙ is.passes rest;
}

-- the first byte of a string that has not ended, by the three questions that are asked of it
plain_byte : (q b small : Bool) (x : ℕ) (xs s : List ℕ) → (x == 34) ≡ q → (x == 92) ≡ b → nat_lt x 32 ≡ small → ((w : Within) → Ends w xs)
    → cond q (Some []) (cond b (content after_backslash xs) (cond small None (prepend (x ∷ []) (content plain xs)))) ≡ Some s → Ended plain (x ∷ xs) s
unfolding content lex
plain_byte true b small x xs s q-is b-is s-is ih e = record {
  text = [];
  behind = xs;
  stands = ap (λ y. y ∷ xs) (eqb-true x 34 q-is);
  reads = λ rest. e;
  passes = λ rest. refl;
}
plain_byte false true small x xs s q-is b-is s-is ih e =
    byte_before plain after_backslash x xs s s (ih after_backslash s e) (λ rest found. rw (q-is, b-is) found)
    (λ rest. ap (λ y. lex in_string (y ∷ rest)) (eqb-true x 92 b-is))
plain_byte false false true x xs s q-is b-is s-is ih e = none_is s e
plain_byte false false false x xs s q-is b-is s-is ih e =
    let (r, found, is) = prepended (x ∷ []) s (content plain xs) e in
    byte_before plain plain x xs s r (ih plain r found) (λ rest same. rw (q-is, b-is, s-is, same) is) (λ rest. passed x rest q-is b-is)

-- the byte behind a backslash
escaped_byte : (u : Bool) (x : ℕ) (xs s : List ℕ) (o : Option ℕ) → (x == 117) ≡ u → short_escape x ≡ o → ((w : Within) → Ends w xs)
    → cond u (content after_u xs) (option_and_then (λ c. prepend (c ∷ []) (content plain xs)) o) ≡ Some s → Ended after_backslash (x ∷ xs) s
unfolding content lex
escaped_byte true x xs s o u-is is ih e =
    byte_before after_backslash after_u x xs s s (ih after_u s e) (λ rest found. rw u-is found) (λ rest. refl)
escaped_byte false x xs s None u-is is ih e = none_is s e
escaped_byte false x xs s (Some c) u-is is ih e =
    let (r, found, put) = prepended (c ∷ []) s (content plain xs) e in
    byte_before after_backslash plain x xs s r (ih plain r found) (λ rest same. rw (u-is, is, same) put) (λ rest. refl)

-- a hexadecimal digit is passed over
hex_passed : (a : ℕ) (rest : List ℕ) → is_digit a 16 ≡ true → lex in_string (a ∷ rest) ≡ lex in_string rest
hex_passed a rest is =
    passed a rest (ne_eqb a 34 (λ e. true≢false (sym is ∙ ap (λ y. is_digit y 16) e))) (ne_eqb a 92 (λ e. true≢false (sym is ∙ ap (λ y. is_digit y 16) e)))

-- four of them are, where they spell a code unit
hex_four : (a b c d : ℕ) (h : Bool) (n u : ℕ) → (is_digit a 16 && is_digit b 16 && is_digit c 16 && is_digit d 16) ≡ h → cond h (Some n) None ≡ Some u
    → (rest : List ℕ) → lex in_string (a ∷ b ∷ c ∷ d ∷ rest) ≡ lex in_string rest
hex_four a b c d false n u is e rest = absurd (false≢true (ap is_some e))
hex_four a b c d true n u is e rest =
    let first = and_parts (is_digit a 16 && is_digit b 16 && is_digit c 16) (is_digit d 16) is in
    let second = and_parts (is_digit a 16 && is_digit b 16) (is_digit c 16) first.0 in
    let third = and_parts (is_digit a 16) (is_digit b 16) second.0 in
    hex_passed a (b ∷ c ∷ d ∷ rest) third.0 ∙ hex_passed b (c ∷ d ∷ rest) third.1 ∙ hex_passed c (d ∷ rest) second.1 ∙ hex_passed d rest first.1

-- so they are of a code unit
unit_passed : (a b c d u : ℕ) → code_unit a b c d ≡ Some u → (rest : List ℕ) → lex in_string (a ∷ b ∷ c ∷ d ∷ rest) ≡ lex in_string rest
unfolding code_unit
unit_passed a b c d u e rest = hex_four a b c d (is_digit a 16 && is_digit b 16 && is_digit c 16 && is_digit d 16) _ u refl e rest

-- some bytes before the rest of a string
bytes_before : (w v : Within) (front xs s r : List ℕ) → Ended v xs r
    → ((rest : List ℕ) → content v rest ≡ Some r → content w (front ++ rest) ≡ Some s)
    → ((rest : List ℕ) → lex (mode_in w) (front ++ rest) ≡ lex (mode_in v) rest) → Ended w (front ++ xs) s
bytes_before w v front xs s r is reads passes = record {
  text = front ++ is.text;
  behind = is.behind;
  stands = ap (λ l. front ++ l) is.stands ∙ sym (append_assoc front is.text (34 ∷ is.behind));
  reads = λ rest. ap (content w) (append_assoc front is.text (34 ∷ rest)) ∙ reads (is.text ++ 34 ∷ rest) (is.reads rest);
  passes = λ rest. ap (lex (mode_in w)) (append_assoc front is.text (34 ∷ rest)) ∙ passes (is.text ++ 34 ∷ rest) ∙ is.passes rest;
}

-- the four digits of an escape, by the code unit that they spell
unit_bytes : (a b c d : ℕ) (xs s : List ℕ) (o : Option ℕ) → code_unit a b c d ≡ o → ((w : Within) → Ends w xs)
    → option_and_then
    (λ u. cond (is_high_surrogate u) (content (after_high u) xs) (cond (is_low_surrogate u) None (prepend (encode_utf8 u) (content plain xs)))) o ≡ Some s
    → Ended after_u (a ∷ b ∷ c ∷ d ∷ xs) s
unfolding content
unit_bytes a b c d xs s None is ih e = none_is s e
unit_bytes a b c d xs s (Some u) is ih e = by (is_high_surrogate u) (is_low_surrogate u) refl refl e
  where
    by : (h l : Bool) → is_high_surrogate u ≡ h → is_low_surrogate u ≡ l
        → cond h (content (after_high u) xs) (cond l None (prepend (encode_utf8 u) (content plain xs))) ≡ Some s → Ended after_u (a ∷ b ∷ c ∷ d ∷ xs) s
    by true l h-is l-is e =
        bytes_before after_u (after_high u) (a ∷ b ∷ c ∷ d ∷ []) xs s s (ih (after_high u) s e) (λ rest found. rw (is, h-is) found) (unit_passed a b c d u is)
    by false true h-is l-is e = none_is s e
    by false false h-is l-is e =
        let (r, found, put) = prepended (encode_utf8 u) s (content plain xs) e in
        bytes_before after_u plain (a ∷ b ∷ c ∷ d ∷ []) xs s r (ih plain r found) (λ rest same. rw (is, h-is, l-is, same) put) (unit_passed a b c d u is)

-- the second escape of a pair of surrogates
pair_bytes : (high x u a b c d : ℕ) (xs s : List ℕ) (both : Bool) (o : Option ℕ) → ((x == 92) && (u == 117)) ≡ both → code_unit a b c d ≡ o
    → ((w : Within) → Ends w xs)
    → cond both (option_and_then (λ l. cond (is_low_surrogate l) (prepend (encode_utf8 (surrogate_pair high l)) (content plain xs)) None) o) None ≡ Some s
    → Ended (after_high high) (x ∷ u ∷ a ∷ b ∷ c ∷ d ∷ xs) s
unfolding content lex
pair_bytes high x u a b c d xs s false o two is ih e = none_is s e
pair_bytes high x u a b c d xs s true None two is ih e = none_is s e
pair_bytes high x u a b c d xs s true (Some l) two is ih e = by (is_low_surrogate l) refl e
  where
    by : (low : Bool) → is_low_surrogate l ≡ low → cond low (prepend (encode_utf8 (surrogate_pair high l)) (content plain xs)) None ≡ Some s
        → Ended (after_high high) (x ∷ u ∷ a ∷ b ∷ c ∷ d ∷ xs) s
    by false low-is e = none_is s e
    by true low-is e =
        let (r, found, put) = prepended (encode_utf8 (surrogate_pair high l)) s (content plain xs) e in
        let backslash_is = eqb-true x 92 (and_parts (x == 92) (u == 117) two).0 in
        bytes_before (after_high high) plain (x ∷ u ∷ a ∷ b ∷ c ∷ d ∷ []) xs s r (ih plain r found)
        (λ rest same. rw (two, is, low-is, same) put)
        (λ rest. ap (λ y. lex in_string (y ∷ u ∷ a ∷ b ∷ c ∷ d ∷ rest)) backslash_is ∙ unit_passed a b c d l is rest)

-- So it is, in each state.
string_ended : (w : Within) (xs : List ℕ) → Ends w xs
unfolding content
string_ended plain [] s e = none_is s e
string_ended plain (x ∷ xs) s e = plain_byte (x == 34) (x == 92) (nat_lt x 32) x xs s refl refl refl (λ w. string_ended w xs) e
string_ended after_backslash [] s e = none_is s e
string_ended after_backslash (x ∷ xs) s e = escaped_byte (x == 117) x xs s (short_escape x) refl refl (λ w. string_ended w xs) e
string_ended after_u [] s e = none_is s e
string_ended after_u (a ∷ []) s e = none_is s e
string_ended after_u (a ∷ b ∷ []) s e = none_is s e
string_ended after_u (a ∷ b ∷ c ∷ []) s e = none_is s e
string_ended after_u (a ∷ b ∷ c ∷ d ∷ xs) s e = unit_bytes a b c d xs s (code_unit a b c d) refl (λ w. string_ended w xs) e
string_ended (after_high h) [] s e = none_is s e
string_ended (after_high h) (x ∷ []) s e = none_is s e
string_ended (after_high h) (x ∷ u ∷ []) s e = none_is s e
string_ended (after_high h) (x ∷ u ∷ a ∷ []) s e = none_is s e
string_ended (after_high h) (x ∷ u ∷ a ∷ b ∷ []) s e = none_is s e
string_ended (after_high h) (x ∷ u ∷ a ∷ b ∷ c ∷ []) s e = none_is s e
string_ended (after_high h) (x ∷ u ∷ a ∷ b ∷ c ∷ d ∷ xs) s e =
    pair_bytes h x u a b c d xs s ((x == 92) && (u == 117)) (code_unit a b c d) refl refl (λ w. string_ended w xs) e

-- ---- words

-- what is left of a text behind some of its bytes
abbrev Left : List ℕ → List ℕ → Type 0
Left t r = (k : ℕ) × (r ≡ drop k t)

abbrev LeftBy : List ℕ → Option (List ℕ) → Type 0
LeftBy t None = ⊤
LeftBy t (Some r) = Left t r

-- it may be all of it
left_all : (t : List ℕ) → Left t t
left_all t = (0, refl)

-- what is left of what is left
left_twice : (t r q : List ℕ) → Left t r → Left r q → Left t q
left_twice t r q a b = (a.0 + b.0, b.1 ∙ ap (drop b.0) a.1 ∙ drop-drop b.0 a.0 t)

-- the same, where nothing may be left
left_more : (t r : List ℕ) (o : Option (List ℕ)) → Left t r → LeftBy r o → LeftBy t o
left_more t r None a b = tt
left_more t r (Some q) a b = left_twice t r q a b

-- what one part leaves of what another left
left_then : (t : List ℕ) (f : List ℕ → Option (List ℕ)) (o : Option (List ℕ)) → ((r : List ℕ) → LeftBy r (f r)) → LeftBy t o → LeftBy t (option_and_then f o)
left_then t f None g a = tt
left_then t f (Some r) g a = left_more t r (f r) a (g r)

-- either way of a test
left_if : (b : Bool) (t : List ℕ) (o p : Option (List ℕ)) → LeftBy t o → LeftBy t p → LeftBy t (cond b o p)
left_if true t o p a c = a
left_if false t o p a c = c

-- one byte, where it stands
left_optional : (b : Bool) (t : List ℕ) → Left t (cond b (drop 1 t) t)
left_optional true t = (1, refl)
left_optional false t = (0, refl)

-- behind digits
left_by_digits : (t : List ℕ) → LeftBy t (after_digits t)
left_by_digits t = left_if (prefix_len is_ascii_digit t == 0) t None (Some (drop (prefix_len is_ascii_digit t) t)) tt (prefix_len is_ascii_digit t, refl)

-- behind the whole part of a number
left_by_whole : (t : List ℕ) → LeftBy t (after_whole t)
left_by_whole t = left_if (head t == 48) t (Some (drop 1 t)) (after_digits t) (1, refl) (left_by_digits t)

-- behind its fraction
left_by_fraction : (t : List ℕ) → LeftBy t (after_fraction t)
left_by_fraction t =
    left_if (head t == 46) t (after_digits (drop 1 t)) (Some t) (left_more t (drop 1 t) (after_digits (drop 1 t)) (1, refl) (left_by_digits (drop 1 t)))
    (0, refl)

-- behind its exponent
left_by_exponent : (t : List ℕ) → LeftBy t (after_exponent t)
left_by_exponent t =
    let signed = after_sign (drop 1 t) in
    left_if ((head t == 101) || (head t == 69)) t (after_digits signed) (Some t)
    (left_more t signed (after_digits signed)
    (left_twice t (drop 1 t) signed (1, refl) (left_optional ((head (drop 1 t) == 45) || (head (drop 1 t) == 43)) (drop 1 t)))
    (left_by_digits signed)) (0, refl)

-- So it is behind a number.
left_by_number : (t : List ℕ) → LeftBy t (after_number t)
unfolding after_number
left_by_number t =
    left_then t after_exponent _ left_by_exponent (left_then t after_fraction _ left_by_fraction
    (left_more t (after_minus t) (after_whole (after_minus t)) (left_optional (head t == 45) t) (left_by_whole (after_minus t))))

-- a text is what stands before what is left of it, and that
cut : (k : ℕ) (t : List ℕ) → take (length t - length (drop k t)) t ++ drop k t ≡ t
cut zero t = let none : length t - length t ≡ 0 = omega arith in ap (λ n. take n t ++ t) none
cut (suc k) [] = refl
cut (suc k) (x ∷ xs) =
    let more : suc (length xs) - length (drop k xs) ≡ suc (length xs - length (drop k xs)) = omega (arith, length-drop k xs) in
    ap (λ n. take n (x ∷ xs) ++ drop k xs) more ∙ ap (λ l. x ∷ l) (cut k xs)

-- the same of what is left
cut_left : (t r : List ℕ) → Left t r → take (length t - length r) t ++ r ≡ t
cut_left t r left = ap (λ l. take (length t - length l) t ++ l) left.1 ∙ cut left.0 t

-- A word and what stands behind it: the word is read alike whatever is behind that.
record Read (t : List ℕ) : Type 0 where
  word : Token
  behind : List ℕ
  shorter : length behind < length t
  is_last : stands_alone word ≡ false
  now : lex between t ≡ token word ∷ lex between behind
  then : (rest : List ℕ) → (behind ≡ [] → ⊥) → lex between (t ++ rest) ≡ token word ∷ lex between (behind ++ rest)

-- what ends a word is its first byte
ended_alike : (r rest : List ℕ) → (r ≡ [] → ⊥) → ends_word (r ++ rest) ≡ ends_word r
ended_alike [] rest some = absurd (some refl)
ended_alike (x ∷ xs) rest some = refl

-- a number has a byte
number_some : (s : List ℕ) → IsNumber s → 0 < length s
unfolding after_number
number_some [] h = absurd (false≢true (ap is_some h))
number_some (x ∷ xs) h = omega arith

-- a number is read alike whatever stands behind what ends it
number_read : (t r : List ℕ) → after_number t ≡ Some r → ends_word r ≡ true → Left t r → Read t
number_read t r found ended left =
    let s = take (length t - length r) t in
    let whole = cut_left t r left in
    let is = number_alone s r ended (ap after_number whole ∙ found) in
    record {
      word = number s;
      behind = r;
      shorter = omega (arith, number_some s is, length-append s r, ap length whole);
      is_last = refl;
      now = ap (lex between) (sym whole) ∙ lex-number s r is ended;
      then = λ rest some. ap (λ l. lex between (l ++ rest)) (sym whole) ∙ ap (lex between) (append_assoc s r rest)
          ∙ lex-number s (r ++ rest) is (ended_alike r rest some ∙ ended);
    }

-- a text that starts with a name is that and what is left
name_first : (name t : List ℕ) → starts_with nat_eq t name ≡ true → t ≡ name ++ drop (length name) t
name_first [] t h = refl
name_first (c ∷ cs) [] h = absurd (false≢true h)
name_first (c ∷ cs) (x ∷ xs) h = let both = and_parts (c == x) (starts_with nat_eq xs cs) h in ap₂ (λ y l. y ∷ l) (sym (eqb-true c x both.0))
    (name_first cs xs both.1)

-- so is a literal of a name
literal_read : (name : List ℕ) (b : Token) (t : List ℕ) → 0 < length name → stands_alone b ≡ false →
    ((r : List ℕ) → ends_word r ≡ true → lex between (name ++ r) ≡ token b ∷ lex between r)
    → IsGood (literal name b t) → Read t
literal_read name b t some is_text reads good = go (starts_with nat_eq t name && ends_word (drop (length name) t)) refl good
  where
    r : List ℕ
    r = drop (length name) t

    go : (a : Bool) → (starts_with nat_eq t name && ends_word r) ≡ a → IsGood (cond a b bad) → Read t
    go false e good = absurd (false≢true good)
    go true e good =
        let both = and_parts (starts_with nat_eq t name) (ends_word r) e in
        let whole = name_first name t both.0 in
        record {
          word = b;
          behind = r;
          shorter = omega (arith, some, length-append name r, ap length whole);
          is_last = is_text;
          now = ap (lex between) whole ∙ reads r both.1;
          then = λ rest is_some. ap (λ l. lex between (l ++ rest)) whole ∙ ap (lex between) (append_assoc name r rest)
              ∙ reads (r ++ rest) (ended_alike r rest is_some ∙ both.1);
        }

-- each of the three is read where it ends
true_read : (r : List ℕ) → ends_word r ≡ true → lex between (true_text ++ r) ≡ token (boolean true) ∷ lex between r
unfolding lex word
true_read r ended = ap₂ (λ b l. token (cond b (boolean true) bad) ∷ l) ended (in_word-ended r ended)

false_read : (r : List ℕ) → ends_word r ≡ true → lex between (false_text ++ r) ≡ token (boolean false) ∷ lex between r
unfolding lex word
false_read r ended = ap₂ (λ b l. token (cond b (boolean false) bad) ∷ l) ended (in_word-ended r ended)

null_read : (r : List ℕ) → ends_word r ≡ true → lex between (null_text ++ r) ≡ token null ∷ lex between r
unfolding lex word
null_read r ended = ap₂ (λ b l. token (cond b null bad) ∷ l) ended (in_word-ended r ended)

-- a word that is no literal is a number, or bad
number_or_bad : (t : List ℕ) (o : Option (List ℕ)) → after_number t ≡ o → LeftBy t o → IsGood (number_before t o) → Read t
number_or_bad t None e left good = absurd (false≢true good)
number_or_bad t (Some r) e left good = go (ends_word r) refl good
  where
    go : (b : Bool) → ends_word r ≡ b → IsGood (cond b (number (take (length t - length r) t)) bad) → Read t
    go true ended good = number_read t r e ended left
    go false ended good = absurd (false≢true good)

-- So each word is read alike.
word_read : (t : List ℕ) → IsGood (word t) → Read t
unfolding word
word_read t good = by (head t == 116) (head t == 102) (head t == 110) good
  where
    by : (a b c : Bool) → IsGood
        (cond a (literal true_text (boolean true) t)
        (cond b (literal false_text (boolean false) t) (cond c (literal null_text null t) (number_before t (after_number t))))) → Read t
    by true b c good = literal_read true_text (boolean true) t (omega arith) refl true_read good
    by false true c good = literal_read false_text (boolean false) t (omega arith) refl false_read good
    by false false true good = literal_read null_text null t (omega arith) refl null_read good
    by false false false good = number_or_bad t (after_number t) refl (left_by_number t) good

-- ---- the whole

module _ (rest : List ℕ) where
  -- from a place on, the text is read and then the rest
  abbrev Ahead : List ℕ → Type 0
  Ahead xs = (p : Place) → Goes (lex between xs) (lex between (xs ++ rest)) (lex between rest) p

  -- nothing stands in front
  nothing_ahead : Ahead []
  unfolding lex punctuate
  nothing_ahead fresh before good alone = refl
  nothing_ahead after_value before good alone = refl
  nothing_ahead after_comma before good alone = absurd (false≢true good.0)
  nothing_ahead after_key before good alone = absurd (false≢true good.0)

  -- a token that ends a value and what is behind it
  value_ahead : (t : Token) (xs ys : List ℕ) → stands_alone t ≡ false → lex between xs ≡ token t ∷ lex between ys → lex between (xs ++ rest)
      ≡ token t ∷ lex between (ys ++ rest)
      → (begins_colon (lex between (ys ++ rest)) ≡ begins_colon (lex between ys)) ⊎ (lex between ys ≡ []) → Ahead ys → Ahead xs
  value_ahead t xs ys is_text now then (inl same) ih p =
      subst (λ l. Goes l (lex between (xs ++ rest)) (lex between rest) p) (sym now)
      (subst (λ l. Goes (token t ∷ lex between ys) l (lex between rest) p) (sym then)
      (token_placed (lex between ys) (lex between (ys ++ rest)) (lex between rest) ih t (λ _. same) p))
  value_ahead t xs ys is_text now then (inr none) ih p =
      λ before good alone. absurd (never_last p t before is_text (subst (λ l. AreGood (punctuate p l)) (now ∙ ap (λ l. token t ∷ l) none) good)
      (subst (λ l. LastAlone before (punctuate p l)) (now ∙ ap (λ l. token t ∷ l) none) alone))

-- the first token that is read of good ones is good
first_good : (p : Place) (t : Token) (ls : List Lexeme) → AreGood (punctuate p (token t ∷ ls)) → IsGood t
unfolding punctuate
first_good p begin_object ls good = refl
first_good p end_object ls good = refl
first_good p begin_array ls good = refl
first_good p end_array ls good = refl
first_good p (key s) ls good = refl
first_good p (string s) ls good = refl
first_good p (number s) ls good = refl
first_good p (boolean b) ls good = refl
first_good p null ls good = refl
first_good fresh bad ls good = absurd (false≢true good.0)
first_good after_value bad ls good = absurd (false≢true good.0)
first_good after_comma bad ls good = absurd (false≢true good.0)
first_good after_key bad ls good = absurd (false≢true good.0)

-- a string without escapes is read alike whatever stands behind it
pub string_read : (text behind : List ℕ) → escape text ≡ text → lex between (34 ∷ (text ++ 34 ∷ behind)) ≡ token (string text) ∷ lex between behind
unfolding lex
string_read text behind as_it_is =
    ap (λ l. lex between (34 ∷ (l ++ 34 ∷ behind))) (sym as_it_is)
    ∙ ap₂ (λ o l. token (string_token o) ∷ l) (content-escape text behind) (lex-escape text behind)

-- the class is that of the quotation mark
abbrev is_quote : Class → Bool
is_quote quote = true
is_quote backslash = false
is_quote operator = false
is_quote space = false
is_quote other = false

-- only the quotation mark begins a string
mark_is : (x : ℕ) → class x ≡ quote → x ≡ 34
mark_is x is = eqb-true x 34 (by (x == 34) (x == 92) (is_operator x) (is_space x) (ap is_quote is))
  where
    by : (a b c d : Bool) → is_quote (cond a quote (cond b backslash (cond c operator (cond d space other)))) ≡ true → a ≡ true
    by true b c d h = refl
    by false true c d h = absurd (false≢true h)
    by false false true d h = absurd (false≢true h)
    by false false false true h = absurd (false≢true h)
    by false false false false h = absurd (false≢true h)

-- a string that is not bad has a content
content_found : (o : Option (List ℕ)) → IsGood (string_token o) → (s : List ℕ) × (o ≡ Some s)
content_found None good = absurd (false≢true good)
content_found (Some s) good = (s, refl)

module _ (rest : List ℕ) where
  -- a string, and what is behind it
  string_ahead : (xs s : List ℕ) → content plain xs ≡ Some s → Ended plain xs s → ((ys : List ℕ) → length ys ≤ length xs → Ahead rest ys) → Ahead rest (34 ∷ xs)
  unfolding lex
  string_ahead xs s found is ih =
      let now : lex between (34 ∷ xs) ≡ token (string s) ∷ lex between is.behind =
      ap₂ (λ o l. token (string_token o) ∷ l) found (ap (lex in_string) is.stands ∙ is.passes is.behind) in
      let then : lex between (34 ∷ (xs ++ rest)) ≡ token (string s) ∷ lex between (is.behind ++ rest) =
      ap (λ l. lex between (34 ∷ l)) (ap (λ l. l ++ rest) is.stands ∙ append_assoc is.text (34 ∷ is.behind) rest)
      ∙ ap₂ (λ o l. token (string_token o) ∷ l) (is.reads (is.behind ++ rest)) (is.passes (is.behind ++ rest)) in
      let shorter : length is.behind ≤ length xs = omega (arith, length-append is.text (34 ∷ is.behind), ap length is.stands) in
      value_ahead rest (string s) (34 ∷ xs) is.behind refl now then (same_colon rest is.behind) (ih is.behind shorter)

  -- a word, and what is behind it
  word_ahead : (xs : List ℕ) → Read xs → ((ys : List ℕ) → length ys < length xs → Ahead rest ys) → Ahead rest xs
  unfolding lex
  word_ahead xs is ih = go is.behind refl
    where
      go : (r : List ℕ) → is.behind ≡ r → Ahead rest xs
      go [] e = λ p before good alone. absurd (never_last p is.word before is.is_last
          (subst (λ l. AreGood (punctuate p l)) (is.now ∙ ap (λ r. token is.word ∷ lex between r) e) good)
          (subst (λ l. LastAlone before (punctuate p l)) (is.now ∙ ap (λ r. token is.word ∷ lex between r) e) alone))
      go (x ∷ r) e = λ p before good alone.
          let some : is.behind ≡ [] → ⊥ = λ none. omega (arith, ap length (sym e ∙ none)) in
          value_ahead rest is.word xs is.behind is.is_last is.now (is.then rest some) (same_colon rest is.behind)
          (ih is.behind is.shorter) p before good alone

  -- a text by the class of its first byte
  by_class : (c : Class) (x : ℕ) (xs : List ℕ) → class x ≡ c → ((ys : List ℕ) → length ys ≤ length xs → Ahead rest ys) → Ahead rest (x ∷ xs)
  unfolding lex
  by_class operator x xs is ih p =
      rw is (operator_placed (lex between xs) (lex between (xs ++ rest)) (lex between rest) (ih xs (omega arith)) (x == 123) (x == 125) (x == 91) (x == 93)
      (x == 44) p)
  by_class space x xs is ih p = rw is (ih xs (omega arith) p)
  by_class backslash x xs is ih p = λ before good alone. absurd
      (false≢true (first_good p bad (lex in_word xs) (subst (λ c. AreGood (punctuate p (lex_byte between c x xs (λ m. lex m xs)))) is good)))
  by_class quote x xs is ih p = λ before good alone.
      let (s, found) = content_found (content plain xs) (first_good p (string_token (content plain xs)) (lex in_string xs)
      (subst (λ c. AreGood (punctuate p (lex_byte between c x xs (λ m. lex m xs)))) is good)) in
      subst (λ y. Ahead rest (y ∷ xs)) (sym (mark_is x is)) (string_ahead xs s found (string_ended plain xs s found) ih) p before good alone
  by_class other x xs is ih p = λ before good alone.
      let is_good = first_good p (word (x ∷ xs)) (lex in_word xs) (subst (λ c. AreGood (punctuate p (lex_byte between c x xs (λ m. lex m xs)))) is good) in
      word_ahead (x ∷ xs) (word_read (x ∷ xs) is_good) (λ ys shorter. ih ys (omega (arith, shorter))) p before good alone

  -- So it is of each text, by its length.
  all_ahead : (n : ℕ) (xs : List ℕ) → length xs ≤ n → Ahead rest xs
  all_ahead n [] short = nothing_ahead rest
  all_ahead zero (x ∷ xs) short = absurd (omega (arith, short))
  all_ahead (suc n) (x ∷ xs) short = by_class (class x) x xs refl (λ ys shorter. all_ahead n ys (omega (arith, short, shorter)))

-- So a text whose tokens are good, and whose last one is a bracket or a key, is read first, and then what stands behind
-- it, from the place that it leaves.
pub read_ahead : (xs rest : List ℕ) → AreGood (tokens xs) → LastAlone true (tokens xs)
    → tokens (xs ++ rest) ≡ tokens xs ++ punctuate (left_at fresh (tokens xs)) (lex between rest)
read_ahead xs rest good alone = all_ahead rest (length xs) xs (omega arith) fresh true good alone
