-- What a text is spelled from can be told from it: escapes, properties, names, counts.
use Rattle.std.proofs.Common.{◌≡◌, ℕ, zero, suc, ◌<◌, ◌≤◌, ◌==◌, Bool, true, false, ◌&&◌, List, [], ◌∷◌, ◌++◌, length, length-append, Option, Some, None, refl, sym, ap, ◌∙◌}
use Rattle.std.proofs.Common.{append_assoc, if◌then◌else◌, arith}
use Rattle.std.specs.Str.{byte}
use Rattle.std.proofs.lemmas.Bool.Decides.{nat_tests}
use Rattle.strkw_charset.specs.Properties.{Expression, alone, valued, is_property_char, are_property_chars, has_property_chars, expression_spelling}
use Rattle.strkw_charset.proofs.Booleans.{and_left, and_right}
use Rattle.strkw_regex_grammar.specs.Codes.{Code, null_code, letter_code, byte_code, unit_code, pair_code, point_code, code_spelling, code_value, is_lead}
use Rattle.strkw_regex_grammar.specs.Codes.{is_scalar, hex_number, is_hex_digit, are_hex_digits, AreDigits, AreCodeDigits}
use Rattle.strkw_regex_grammar.specs.Escapes.{Escape, null, letter, hexadecimal, unicode}
use Rattle.strkw_regex_grammar.specs.Escapes.{escape}
use Rattle.strkw_regex_grammar.specs.Names.{NameChar, verbatim, by_code, name_char_spelling, name_spelling, IsNameChar, AreNameParts, IsName, is_name_start, is_name_part}
use Rattle.strkw_regex_grammar.specs.Names.{NameToken, name_end, name_backslash, name_token}
use Rattle.strkw_regex_grammar.specs.Numbers.{is_digit, are_digits}
use Rattle.strkw_regex_grammar.specs.Syntax.{Quantifier, exactly, at_least, from_to}
use Rattle.strkw_regex_grammar.proofs.Letters.{is_not}
use Rattle.strkw_regex_grammar.proofs.NameParts.{IsApart, token_of_name, start_apart, part_apart}

-- of characters
-- those that a text begins with, as long as they are of a kind, and the rest
abbrev pub put : {X : Type 0} → X → List X × List ℕ → List X × List ℕ
put x r = (x ∷ r.0, r.1)

abbrev pub span : (ℕ → Bool) → List ℕ → List ℕ × List ℕ
span f [] = ([], [])
span f (c ∷ cs) = if f c then put c (span f cs) else ([], c ∷ cs)

-- whether a text begins with one
abbrev pub starts : (ℕ → Bool) → List ℕ → Bool
starts f [] = false
starts f (c ∷ cs) = f c

-- characters of the kind are told from what stands behind them, which does not begin with one
pub span_is : (f : ℕ → Bool) (are : List ℕ → Bool) → ((d : ℕ) (ds : List ℕ) → are (d ∷ ds) ≡ (f d && are ds)) → (ds u : List ℕ) → are ds ≡ true
    → starts f u ≡ false → span f (ds ++ u) ≡ (ds, u)
span_is f are more [] [] h s = refl
span_is f are more [] (c ∷ u) h s = ap (λ (b : Bool). if b then put c (span f u) else ([], c ∷ u)) s
span_is f are more (d ∷ ds) u h s =
    let both = sym (more d ds) ∙ h in
    ap (λ (b : Bool). if b then put d (span f (ds ++ u)) else ([], d ∷ (ds ++ u))) (and_left (f d) _ both)
    ∙ ap (put d) (span_is f are more ds u (and_right (f d) _ both) s)

-- of things that are spelled one behind the other
module _ {X : Type 0} (one : X → List ℕ) (all : List X → List ℕ) (take : List ℕ → Option (X × List ℕ)) where
  -- those that a text begins with, if there are at most so many, and the rest
  abbrev behind : (List ℕ → List X × List ℕ) → List ℕ → Option (X × List ℕ) → List X × List ℕ
  behind f cs None = ([], cs)
  behind f cs (Some r) = put r.0 (f r.1)

  abbrev take_most : ℕ → List ℕ → List X × List ℕ
  take_most zero cs = ([], cs)
  take_most (suc n) cs = behind (take_most n) cs (take cs)

  abbrev pub take_all : List ℕ → List X × List ℕ
  take_all cs = take_most (length cs) cs

  -- each is told from what stands behind it
  abbrev pub Each : List X → List ℕ → Type 0
  Each [] u = Unit {0}
  Each (x ∷ xs) u = (take (one x ++ (all xs ++ u)) ≡ Some (x, all xs ++ u)) × (0 < length (one x)) × Each xs u

  module _ (nil : all [] ≡ []) (cons : (x : X) (xs : List X) → all (x ∷ xs) ≡ one x ++ all xs) where
    -- they are told, where there are not more
    most_are : (n : ℕ) (xs : List X) (u : List ℕ) → length xs ≤ n → Each xs u → take u ≡ None → take_most n (all xs ++ u) ≡ (xs, u)
    most_are zero [] u m h e = ap (λ z. ([], z ++ u)) nil
    most_are zero (x ∷ xs) u m h e = absurd (omega (arith, m))
    most_are (suc n) [] u m h e = ap (λ z. take_most (suc n) (z ++ u)) nil ∙ ap (behind (take_most n) u) e
    most_are (suc n) (x ∷ xs) u m h e =
        ap (λ z. take_most (suc n) (z ++ u)) (cons x xs) ∙ ap (take_most (suc n)) (append_assoc (one x) (all xs) u)
        ∙ ap (behind (take_most n) (one x ++ (all xs ++ u))) h.0 ∙ ap (put x) (most_are n xs u (omega (arith, m)) h.2 e)

    -- and there are no more than characters
    few : (xs : List X) (u : List ℕ) → Each xs u → length xs ≤ length (all xs ++ u)
    few [] u h = omega arith
    few (x ∷ xs) u h =
        omega (arith, h.1, few xs u h.2, length-append (one x) (all xs ++ u), ap length (ap (λ z. z ++ u) (cons x xs) ∙ append_assoc (one x) (all xs) u))

    -- so all are told
    pub all_are : (xs : List X) (u : List ℕ) → Each xs u → take u ≡ None → take_all (all xs ++ u) ≡ (xs, u)
    all_are xs u h e = most_are (length (all xs ++ u)) xs u (few xs u h) h e

-- of escapes by a number
-- four digits, and four more where a pair is looked for
abbrev unit_of : Bool → List ℕ → List ℕ → Option (Code × List ℕ)
unit_of true ds (x ∷ y ∷ e ∷ f ∷ g ∷ h ∷ cs) = Some (pair_code ds (e ∷ f ∷ g ∷ h ∷ []), cs)
unit_of true ds cs = None
unit_of false ds cs = Some (unit_code ds, cs)

abbrev four_of : Bool → List ℕ → Option (Code × List ℕ)
four_of z (a ∷ b ∷ c ∷ d ∷ cs) = unit_of (z && is_lead (hex_number (a ∷ b ∷ c ∷ d ∷ []))) (a ∷ b ∷ c ∷ d ∷ []) cs
four_of z cs = None

-- digits in braces
abbrev point_of : List ℕ × List ℕ → Option (Code × List ℕ)
point_of (ds, []) = None
point_of (ds, c ∷ cs) = Some (point_code ds, cs)

abbrev unicode_by : Bool → Bool → List ℕ → List ℕ → Option (Code × List ℕ)
unicode_by z true text cs = point_of (span is_hex_digit cs)
unicode_by z false text cs = four_of z text

abbrev take_unicode : Bool → List ℕ → Option (Code × List ℕ)
take_unicode z [] = None
take_unicode z (c ∷ cs) = unicode_by z (c == byte "{") (c ∷ cs) cs

abbrev take_letter : List ℕ → Option (Code × List ℕ)
take_letter [] = None
take_letter (c ∷ cs) = Some (letter_code c, cs)

abbrev take_byte : List ℕ → Option (Code × List ℕ)
take_byte (a ∷ b ∷ cs) = Some (byte_code (a ∷ b ∷ []), cs)
take_byte cs = None

abbrev code_by : Bool → Escape → List ℕ → Option (Code × List ℕ)
code_by z null cs = Some (null_code, cs)
code_by z letter cs = take_letter cs
code_by z hexadecimal cs = take_byte cs
code_by z unicode cs = take_unicode z cs
code_by z k cs = None

-- the escape that stands behind a backslash, and the rest
abbrev pub take_code : Bool → List ℕ → Option (Code × List ℕ)
take_code z [] = None
take_code z (c ∷ cs) = code_by z (escape c) cs

-- four digits are told
takes_four : (z b : Bool) (ds : List ℕ) → AreDigits 4 ds → (z && is_lead (hex_number ds)) ≡ b → (cs : List ℕ) → take_unicode z (ds ++ cs) ≡ unit_of b ds cs
takes_four z b [] h e cs = absurd (omega (arith, h.1))
takes_four z b (a ∷ []) h e cs = absurd (omega (arith, h.1))
takes_four z b (a ∷ c ∷ []) h e cs = absurd (omega (arith, h.1))
takes_four z b (a ∷ c ∷ d ∷ []) h e cs = absurd (omega (arith, h.1))
takes_four z b (a ∷ c ∷ d ∷ f ∷ []) h e cs =
    ap (λ t. unicode_by z t (a ∷ c ∷ d ∷ f ∷ cs) (c ∷ d ∷ f ∷ cs)) (is_not is_hex_digit a (byte "{") _ refl (and_left (is_hex_digit a) _ h.0) refl)
    ∙ ap (λ t. unit_of t (a ∷ c ∷ d ∷ f ∷ []) cs) e
takes_four z b (a ∷ c ∷ d ∷ f ∷ g ∷ ds) h e cs = absurd (omega (arith, h.1))

-- and four more
takes_pair : (ds es : List ℕ) → AreDigits 4 es → (cs : List ℕ) → unit_of true ds (byte "\\" ∷ byte "u" ∷ (es ++ cs)) ≡ Some (pair_code ds es, cs)
takes_pair ds [] h cs = absurd (omega (arith, h.1))
takes_pair ds (a ∷ []) h cs = absurd (omega (arith, h.1))
takes_pair ds (a ∷ c ∷ []) h cs = absurd (omega (arith, h.1))
takes_pair ds (a ∷ c ∷ d ∷ []) h cs = absurd (omega (arith, h.1))
takes_pair ds (a ∷ c ∷ d ∷ f ∷ []) h cs = refl
takes_pair ds (a ∷ c ∷ d ∷ f ∷ g ∷ es) h cs = absurd (omega (arith, h.1))

-- whether pairs are looked for suits the escape
abbrev pub Suits : Bool → Code → Type 0
Suits z (unit_code ds) = (z && is_lead (hex_number ds)) ≡ false
Suits z (pair_code ds es) = z ≡ true
Suits z k = Unit {0}

-- an escape by a number is told
pub takes_code : (z : Bool) (k : Code) → AreCodeDigits k → Suits z k → (cs : List ℕ) → take_code z (code_spelling k ++ cs) ≡ Some (k, cs)
takes_code z null_code h s cs = refl
takes_code z (letter_code c) h s cs = refl
takes_code z (byte_code []) h s cs = absurd (omega (arith, h.1))
takes_code z (byte_code (a ∷ [])) h s cs = absurd (omega (arith, h.1))
takes_code z (byte_code (a ∷ b ∷ [])) h s cs = refl
takes_code z (byte_code (a ∷ b ∷ c ∷ ds)) h s cs = absurd (omega (arith, h.1))
takes_code z (unit_code ds) h s cs = takes_four z false ds h s cs
takes_code z (pair_code ds es) h s cs =
    ap (take_unicode z) (append_assoc ds (byte "\\" ∷ byte "u" ∷ es) cs)
    ∙ takes_four z true ds h.0.0 (ap (λ t. t && is_lead (hex_number ds)) s ∙ h.0.1) (byte "\\" ∷ byte "u" ∷ (es ++ cs)) ∙ takes_pair ds es h.1 cs
takes_code z (point_code ds) h s cs =
    ap (λ v. point_of (span is_hex_digit v)) (append_assoc ds (byte "}" ∷ []) cs)
    ∙ ap point_of (span_is is_hex_digit are_hex_digits (λ d ds. refl) ds (byte "}" ∷ cs) h.0 refl)

-- of properties
abbrev valued_of : List ℕ → List ℕ × List ℕ → Option (Expression × List ℕ)
valued_of v (w, []) = None
valued_of v (w, c ∷ cs) = Some (valued v w, cs)

abbrev expression_by : Bool → List ℕ → List ℕ → Option (Expression × List ℕ)
expression_by true v cs = valued_of v (span is_property_char cs)
expression_by false v cs = Some (alone v, cs)

abbrev expression_of : List ℕ × List ℕ → Option (Expression × List ℕ)
expression_of (v, []) = None
expression_of (v, c ∷ cs) = expression_by (c == byte "=") v cs

-- what stands behind the letter, and the rest
abbrev pub take_expression : List ℕ → Option (Expression × List ℕ)
take_expression [] = None
take_expression (c ∷ cs) = expression_of (span is_property_char cs)

-- characters of a property are told
property_span : (v : List ℕ) (c : ℕ) (cs : List ℕ) → are_property_chars v ≡ true → is_property_char c ≡ false
    → span is_property_char (v ++ c ∷ cs) ≡ (v, c ∷ cs)
property_span v c cs h s = span_is is_property_char are_property_chars (λ d ds. refl) v (c ∷ cs) h s

-- so it is
pub takes_expression : (e : Expression) → has_property_chars e ≡ true → (cs : List ℕ)
    → take_expression (byte "{" ∷ ((expression_spelling e ++ byte "}" ∷ []) ++ cs)) ≡ Some (e, cs)
takes_expression (alone v) h cs =
    ap (λ w. expression_of (span is_property_char w)) (append_assoc v (byte "}" ∷ []) cs) ∙ ap expression_of (property_span v (byte "}") cs h refl)
takes_expression (valued n v) h cs =
    ap (λ w. expression_of (span is_property_char w))
    (append_assoc (n ++ byte "=" ∷ v) (byte "}" ∷ []) cs ∙ append_assoc n (byte "=" ∷ v) (byte "}" ∷ cs))
    ∙ ap expression_of (property_span n (byte "=") (v ++ byte "}" ∷ cs) (and_left (are_property_chars n) _ h) refl)
    ∙ ap (valued_of n) (property_span v (byte "}") cs (and_right (are_property_chars n) _ h) refl)

-- of names
abbrev by_code_of : Option (Code × List ℕ) → Option (NameChar × List ℕ)
by_code_of None = None
by_code_of (Some r) = Some (by_code r.0, r.1)

abbrev name_char_by : NameToken → ℕ → List ℕ → Option (NameChar × List ℕ)
name_char_by name_end c cs = None
name_char_by name_backslash c cs = by_code_of (take_code true cs)
name_char_by k c cs = Some (verbatim c, cs)

abbrev take_name_char : List ℕ → Option (NameChar × List ℕ)
take_name_char [] = None
take_name_char (c ∷ cs) = name_char_by (name_token c) c cs

abbrev name_of : List NameChar × List ℕ → Option (List NameChar × List ℕ)
name_of (n, []) = None
name_of (n, c ∷ cs) = Some (n, cs)

-- the name that a text begins with, and what is behind its `>`
abbrev pub take_name : List ℕ → Option (List NameChar × List ℕ)
take_name cs = name_of (take_all name_char_spelling name_spelling take_name_char cs)

-- a character that a text can have suits
scalar_suits : (k : Code) → is_scalar (code_value k) ≡ true → Suits true k
scalar_suits null_code h = tt
scalar_suits (letter_code c) h = tt
scalar_suits (byte_code ds) h = tt
scalar_suits (unit_code ds) h = no_lead (hex_number ds) h
  where
    -- it is no leading surrogate
    no_lead : (n : ℕ) → is_scalar n ≡ true → is_lead n ≡ false
    no_lead n h = grind (arith, nat_tests)
scalar_suits (pair_code ds es) h = refl
scalar_suits (point_code ds) h = tt

-- a character of a name is told
takes_name_char : (f : ℕ → Bool) → IsApart f → (x : NameChar) → IsNameChar f x → (cs : List ℕ) → take_name_char (name_char_spelling x ++ cs) ≡ Some (x, cs)
takes_name_char f a (verbatim c) h cs = ap (λ t. name_char_by t c cs) (token_of_name f a c h)
takes_name_char f a (by_code k) h cs = ap by_code_of (takes_code true k h.1.0 (scalar_suits k h.1.1) cs)

-- it has a character
name_char_some : (x : NameChar) → 0 < length (name_char_spelling x)
name_char_some (verbatim c) = omega arith
name_char_some (by_code k) = omega arith

-- so are the characters of a name
each_name_char : (n : List NameChar) → AreNameParts n → (cs : List ℕ) → Each name_char_spelling name_spelling take_name_char n cs
each_name_char [] h cs = tt
each_name_char (x ∷ n) h cs =
    (takes_name_char is_name_part part_apart x h.0 (name_spelling n ++ cs), name_char_some x, each_name_char n h.1 cs)

-- and a name
pub takes_name : (n : List NameChar) → IsName n → (cs : List ℕ) → take_name ((name_spelling n ++ byte ">" ∷ []) ++ cs) ≡ Some (n, cs)
takes_name [] h cs = absurd h
takes_name (x ∷ n) h cs =
    ap take_name (append_assoc (name_spelling (x ∷ n)) (byte ">" ∷ []) cs)
    ∙ ap name_of
    (all_are name_char_spelling name_spelling take_name_char refl (λ x xs. refl) (x ∷ n) (byte ">" ∷ cs)
    (takes_name_char is_name_start start_apart x h.0 (name_spelling n ++ byte ">" ∷ cs), name_char_some x, each_name_char n h.1 (byte ">" ∷ cs)) refl)

-- of counts
abbrev second_of : List ℕ → List ℕ × List ℕ → Option (Quantifier × List ℕ)
second_of ds (es, []) = None
second_of ds ([], c ∷ cs) = Some (at_least ds, cs)
second_of ds (e ∷ es, c ∷ cs) = Some (from_to ds (e ∷ es), cs)

abbrev count_by : Bool → List ℕ → List ℕ → Option (Quantifier × List ℕ)
count_by true ds cs = Some (exactly ds, cs)
count_by false ds cs = second_of ds (span is_digit cs)

abbrev count_of : List ℕ × List ℕ → Option (Quantifier × List ℕ)
count_of (ds, []) = None
count_of (ds, c ∷ cs) = count_by (c == byte "}") ds cs

-- what stands behind the brace, and the rest
abbrev pub take_count : List ℕ → Option (Quantifier × List ℕ)
take_count cs = count_of (span is_digit cs)

-- digits are told
pub digit_span : (ds u : List ℕ) → are_digits ds ≡ true → starts is_digit u ≡ false → span is_digit (ds ++ u) ≡ (ds, u)
digit_span ds u h s = span_is is_digit are_digits (λ d ds. refl) ds u h s

-- so is one number
pub takes_exactly : (ds : List ℕ) → are_digits ds ≡ true → (cs : List ℕ) → take_count ((ds ++ byte "}" ∷ []) ++ cs) ≡ Some (exactly ds, cs)
takes_exactly ds h cs = ap take_count (append_assoc ds (byte "}" ∷ []) cs) ∙ ap count_of (digit_span ds (byte "}" ∷ cs) h refl)

-- one with a comma
pub takes_at_least : (ds : List ℕ) → are_digits ds ≡ true → (cs : List ℕ)
    → take_count ((ds ++ byte "," ∷ byte "}" ∷ []) ++ cs) ≡ Some (at_least ds, cs)
takes_at_least ds h cs =
    ap take_count (append_assoc ds (byte "," ∷ byte "}" ∷ []) cs) ∙ ap count_of (digit_span ds (byte "," ∷ byte "}" ∷ cs) h refl)

-- and two
pub takes_from_to : (ds : List ℕ) (e : ℕ) (es : List ℕ) → are_digits ds ≡ true → are_digits (e ∷ es) ≡ true → (cs : List ℕ)
    → take_count ((ds ++ byte "," ∷ ((e ∷ es) ++ byte "}" ∷ [])) ++ cs) ≡ Some (from_to ds (e ∷ es), cs)
takes_from_to ds e es h k cs =
    ap take_count
    (append_assoc ds (byte "," ∷ ((e ∷ es) ++ byte "}" ∷ [])) cs ∙ ap (λ z. ds ++ byte "," ∷ z) (append_assoc (e ∷ es) (byte "}" ∷ []) cs))
    ∙ ap count_of (digit_span ds (byte "," ∷ ((e ∷ es) ++ byte "}" ∷ cs)) h refl)
    ∙ ap (second_of ds) (digit_span (e ∷ es) (byte "}" ∷ cs) k refl)
