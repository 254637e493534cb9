-- A pattern of mode `u` is its own strict form, and so is each strict form.
use Rattle.std.proofs.Common.{◌≡◌, ℕ, zero, suc, ◌+◌, ◌*◌, ◌/◌, ◌%◌, ◌<◌, nat_lt, Bool, true, false, not, ◌&&◌, if◌then◌else◌, ◌==◌, List, [], ◌∷◌, ◌++◌, refl, sym, ap, subst, ◌∙◌, append_assoc, true≢false, arith}
use Rattle.std.proofs.lemmas.Bool.Decides.{nat_tests}
use Rattle.std.proofs.lemmas.List.{append-nil}
use Rattle.std.proofs.lemmas.Str.{digit_value-digit_char}
use Rattle.std.specs.Char.{digit_char, digit_value, is_ascii_alphabetic}
use Rattle.std.specs.Str.{byte}
use Rattle.ucd_derived.proofs.Computing.{ucd_derived}
use Rattle.strkw_charset.specs.Properties.{Expression, alone, valued, is_property_char, are_property_chars, has_property_chars, expression_spelling, property_spelling}
use Rattle.strkw_charset.proofs.Booleans.{and_left, and_right, and_true}
use Rattle.strkw_charset.proofs.Lists.{one_more}
use Rattle.strkw_regex_grammar.specs.declared.tokens.ClassToken.{ClassToken}
use Rattle.strkw_regex_grammar.specs.declared.tokens.ClassToken.TheVariants as classes
use Rattle.strkw_regex_grammar.specs.declared.tokens.Edge.{Edge}
use Rattle.strkw_regex_grammar.specs.declared.tokens.Edge.TheVariants as edges
use Rattle.strkw_regex_grammar.specs.declared.tokens.Escape.{Escape}
use Rattle.strkw_regex_grammar.specs.declared.tokens.Escape.TheVariants as escapes
use Rattle.strkw_regex_grammar.specs.declared.tokens.Token.{Token}
use Rattle.strkw_regex_grammar.specs.declared.tokens.Token.TheVariants as tokens
use Rattle.strkw_regex_grammar.specs.Classes.{class_token, class_escape, ClassAtom, class_plain, hyphen, class_escaped, class_control, class_set, backspace, class_coded, class_property}
use Rattle.strkw_regex_grammar.specs.Classes.{Ranges, no_ranges, with_one, with_range, class_atom_spelling, ranges_spelling, negation_spelling, ending_spelling}
use Rattle.strkw_regex_grammar.specs.Codes.{Code, null_code, letter_code, byte_code, unit_code, pair_code, point_code, code_spelling, code_value, is_hex_digit, are_hex_digits, AreCodeDigits, IsCode, is_scalar}
use Rattle.strkw_regex_grammar.specs.Escapes.{escape}
use Rattle.strkw_regex_grammar.specs.Names.{NameChar, verbatim, by_code, name_char_spelling, name_spelling, IsNameChar, AreNameParts, IsName, is_name_start, is_name_part}
use Rattle.strkw_regex_grammar.specs.Numbers.{is_digit, are_digits}
use Rattle.strkw_regex_grammar.specs.Regex.{Leaf, plain, dot, escaped, control_escape, set_escape, coded, property_escape, numbered, called, bracketed}
use Rattle.strkw_regex_grammar.specs.Regex.{Part, bar, edge, leaf, opens, closes, repeats, edge_spelling, leaf_spelling, part_spelling, spelling, IsClassItem, AreItems, IsLeaf, IsRepetition, IsPart, AreParts, IsRegex, parts}
use Rattle.strkw_regex_grammar.specs.Syntax.{token, Quantifier, zero_or_more, one_or_more, zero_or_one, exactly, at_least, from_to, quantifier_spelling}
use Rattle.strkw_regex_grammar.specs.Syntax.{capturing, plain_group, named, Enclosing, of_group, of_lookbehind, of_lookahead, enclosing_spelling, IsEnclosing}
use Rattle.strkw_regex_grammar.proofs.Letters.{is_not}
use Rattle.strkw_ecma.specs.Lenient.{is_lenient, is_open, byte_escape, escape_form, strict_from, strict_behind, strict_form}

-- ---- texts that stay

-- with a class open before them or not, and behind them or not
abbrev pub Stays : Bool → Bool → List ℕ → Type 0
Stays k m xs = (rest : List ℕ) → strict_from k (xs ++ rest) ≡ xs ++ strict_from m rest

-- one behind the other
pub both : (k m n : Bool) (xs ys : List ℕ) → Stays k m xs → Stays m n ys → Stays k n (xs ++ ys)
both k m n xs ys f g rest =
    ap (strict_from k) (append_assoc xs ys rest) ∙ f (ys ++ rest) ∙ ap (λ z. xs ++ z) (g rest) ∙ sym (append_assoc xs ys (strict_from n rest))

-- a character that is no backslash
one : (k : Bool) (c : ℕ) → (c == byte "\\") ≡ false → Stays k (is_open k c) (c ∷ [])
one k c e rest = ap (λ (t : Bool). if t then strict_behind k rest else c ∷ strict_from (is_open k c) rest) e

-- an escape of mode `u`
escaped_one : (k : Bool) (c : ℕ) → is_lenient k c ≡ false → Stays k k (byte "\\" ∷ c ∷ [])
escaped_one k c e rest =
    ap (λ (t : Bool). byte "\\" ∷ ((if t then code_spelling (byte_escape c) else c ∷ []) ++ strict_from k rest)) e

-- none of these characters is a backslash or a bracket
abbrev AreStill : (ℕ → Bool) → Type 0
AreStill f = (f (byte "\\") ≡ false) × (f (byte "[") ≡ false) × (f (byte "]") ≡ false)

-- so each stays
still : (f : ℕ → Bool) → AreStill f → (k : Bool) (c : ℕ) → f c ≡ true → Stays k k (c ∷ [])
still f a k c h =
    let same : is_open k c ≡ k =
    ap (λ (t : Bool). if t then true else if c == byte "]" then false else k) (is_not f c (byte "[") _ refl h a.1)
    ∙ ap (λ (t : Bool). if t then false else k) (is_not f c (byte "]") _ refl h a.2) in
    subst (λ (m : Bool). Stays k m (c ∷ [])) same (one k c (is_not f c (byte "\\") _ refl h a.0))

-- and any number of them
all_still : (f : ℕ → Bool) (are : List ℕ → Bool) → ((d : ℕ) (ds : List ℕ) → are (d ∷ ds) ≡ (f d && are ds)) → AreStill f
    → (k : Bool) (ds : List ℕ) → are ds ≡ true → Stays k k ds
all_still f are more a k [] h = λ rest. refl
all_still f are more a k (d ∷ ds) h =
    let each = sym (more d ds) ∙ h in
    both k k k (d ∷ []) ds (still f a k d (and_left (f d) _ each)) (all_still f are more a k ds (and_right (f d) _ each))

-- ---- characters of ASCII

-- whether all numbers below this one have f
all_below : (ℕ → Bool) → ℕ → Bool
all_below f zero = true
all_below f (suc n) = f n && all_below f n

-- then each has
below : (f : ℕ → Bool) (n : ℕ) → all_below f n ≡ true → (c : ℕ) → c < n → f c ≡ true
unfolding all_below
below f zero h c l = absurd (omega (arith, l))
below f (suc n) h c l = one_more (λ d. f d ≡ true) n (and_left (f n) _ h) (below f n (and_right (f n) _ h)) c (omega (arith, l))

-- the character does not have f, or stays behind a backslash
abbrev is_kept : (ℕ → Bool) → Bool → ℕ → Bool
is_kept f k c = not (f c && is_lenient k c)

-- where each of ASCII is so, each with f stays
kept : (f : ℕ → Bool) (k : Bool) → all_below (is_kept f k) 0x80 ≡ true → (c : ℕ) → f c ≡ true → Stays k k (byte "\\" ∷ c ∷ [])
kept f k h c e = escaped_one k c (by_size (nat_lt c 0x80) refl)
  where
    -- both do not hold where the first does
    second_fails : (x y : Bool) → x ≡ true → not (x && y) ≡ true → y ≡ false
    second_fails true true u v = absurd (true≢false (sym v))
    second_fails true false u v = refl
    second_fails false y u v = absurd (true≢false (sym u))

    -- by whether it is of ASCII
    by_size : (b : Bool) → nat_lt c 0x80 ≡ b → is_lenient k c ≡ false
    by_size false l = rw l refl
    by_size true l = second_fails (f c) (is_lenient k c) e (below (is_kept f k) 0x80 h c (grind (arith, nat_tests)))

-- ---- escapes and names

-- what a backslash stands before in mode `u`, but for a digit
is_known : Escape → Bool
is_known escapes.Unknown = false
is_known e = true

-- behind a backslash a character that has a meaning there stays
known : (c : ℕ) → is_known (escape c) ≡ true → Stays false false (byte "\\" ∷ c ∷ [])
unfolding is_known all_below
known = kept (λ c. is_known (escape c)) false refl

-- so it does in a class
class_known : (c : ℕ) → is_known (class_escape c) ≡ true → Stays true true (byte "\\" ∷ c ∷ [])
unfolding is_known all_below
class_known = kept (λ c. is_known (class_escape c)) true refl

-- and a digit
digit_kept : (c : ℕ) → is_digit c ≡ true → Stays false false (byte "\\" ∷ c ∷ [])
unfolding all_below
digit_kept = kept is_digit false refl

module _ (k : Bool) where
  -- digits of base 16
  hex_still : (ds : List ℕ) → are_hex_digits ds ≡ true → Stays k k ds
  hex_still = all_still is_hex_digit are_hex_digits (λ d ds. refl) (refl, refl, refl) k

  -- characters of a property
  property_still : (v : List ℕ) → are_property_chars v ≡ true → Stays k k v
  property_still = all_still is_property_char are_property_chars (λ d ds. refl) (refl, refl, refl) k

  -- `\u` and digits
  unit_stays : (ds : List ℕ) → are_hex_digits ds ≡ true → Stays k k (byte "\\" ∷ byte "u" ∷ ds)
  unit_stays ds h = both k k k (byte "\\" ∷ byte "u" ∷ []) ds (escaped_one k (byte "u") refl) (hex_still ds h)

  -- an escape by a number
  code_stays : (c : Code) → AreCodeDigits c → Stays k k (byte "\\" ∷ code_spelling c)
  code_stays null_code h = escaped_one k (byte "0") refl
  code_stays (letter_code c) h =
      both k k k (byte "\\" ∷ byte "c" ∷ []) (c ∷ []) (escaped_one k (byte "c") refl) (still is_ascii_alphabetic (refl, refl, refl) k c h)
  code_stays (byte_code ds) h = both k k k (byte "\\" ∷ byte "x" ∷ []) ds (escaped_one k (byte "x") refl) (hex_still ds h.0)
  code_stays (unit_code ds) h = unit_stays ds h.0
  code_stays (pair_code ds es) h = both k k k (byte "\\" ∷ byte "u" ∷ ds) (byte "\\" ∷ byte "u" ∷ es) (unit_stays ds h.0.0.0) (unit_stays es h.1.0)
  code_stays (point_code ds) h =
      both k k k (byte "\\" ∷ byte "u" ∷ byte "{" ∷ []) (ds ++ byte "}" ∷ [])
      (both k k k (byte "\\" ∷ byte "u" ∷ []) (byte "{" ∷ []) (escaped_one k (byte "u") refl) (one k (byte "{") refl))
      (both k k k ds (byte "}" ∷ []) (hex_still ds h.0) (one k (byte "}") refl))

  -- what stands in the braces of a property
  expression_stays : (e : Expression) → has_property_chars e ≡ true → Stays k k (expression_spelling e)
  expression_stays (alone v) h = property_still v h
  expression_stays (valued n v) h =
      both k k k n (byte "=" ∷ v) (property_still n (and_left (are_property_chars n) _ h))
      (both k k k (byte "=" ∷ []) v (one k (byte "=") refl) (property_still v (and_right (are_property_chars n) _ h)))

  -- behind its letter
  braces_stay : (e : Expression) → has_property_chars e ≡ true → Stays k k (byte "{" ∷ (expression_spelling e ++ byte "}" ∷ []))
  braces_stay e h =
      both k k k (byte "{" ∷ []) (expression_spelling e ++ byte "}" ∷ []) (one k (byte "{") refl)
      (both k k k (expression_spelling e) (byte "}" ∷ []) (expression_stays e h) (one k (byte "}") refl))

  -- a property
  property_stays : (n : Bool) (e : Expression) → has_property_chars e ≡ true → Stays k k (byte "\\" ∷ property_spelling n e)
  property_stays false e h = both k k k (byte "\\" ∷ byte "p" ∷ []) (byte "{" ∷ (expression_spelling e ++ byte "}" ∷ [])) (escaped_one k (byte "p") refl) (braces_stay e h)
  property_stays true e h = both k k k (byte "\\" ∷ byte "P" ∷ []) (byte "{" ∷ (expression_spelling e ++ byte "}" ∷ [])) (escaped_one k (byte "P") refl) (braces_stay e h)

  -- a character of a name
  name_char_stays : (f : ℕ → Bool) → AreStill f → (x : NameChar) → IsNameChar f x → Stays k k (name_char_spelling x)
  name_char_stays f a (verbatim c) h = still f a k c h
  name_char_stays f a (by_code c) h = code_stays c h.1.0

-- a backslash and a bracket are no characters of a name
start_still : AreStill is_name_start
unfolding ucd_derived
start_still = (refl, refl, refl)

part_still : AreStill is_name_part
unfolding ucd_derived
part_still = (refl, refl, refl)

-- those that a name goes on with stay
name_parts_stay : (xs : List NameChar) → AreNameParts xs → Stays false false (name_spelling xs)
name_parts_stay [] h = λ rest. refl
name_parts_stay (x ∷ xs) h =
    both false false false (name_char_spelling x) (name_spelling xs) (name_char_stays false is_name_part part_still x h.0) (name_parts_stay xs h.1)

-- so does a name
name_stays : (xs : List NameChar) → IsName xs → Stays false false (name_spelling xs ++ byte ">" ∷ [])
name_stays [] h = absurd h
name_stays (x ∷ xs) h =
    both false false false (name_spelling (x ∷ xs)) (byte ">" ∷ [])
    (both false false false (name_char_spelling x) (name_spelling xs) (name_char_stays false is_name_start start_still x h.0) (name_parts_stay xs h.1))
    (one false (byte ">") refl)

-- ---- classes

-- a character that stands for itself in a class
is_class_char : ClassToken → Bool
is_class_char classes.Character = true
is_class_char t = false

-- stays there, and does not close it
class_char_stays : (c : ℕ) → class_token c ≡ classes.Character → Stays true true (c ∷ [])
unfolding is_class_char
class_char_stays c h =
    let f = λ (d : ℕ). is_class_char (class_token d) in
    let open_still : is_open true c ≡ true =
    ap (λ (t : Bool). if c == byte "[" then true else if t then false else true) (is_not f c (byte "]") _ refl (ap is_class_char h) refl)
    ∙ always (c == byte "[") in
    subst (λ (m : Bool). Stays true m (c ∷ [])) open_still (one true c (is_not f c (byte "\\") _ refl (ap is_class_char h) refl))
  where
    -- both of two that are the same
    always : (t : Bool) → (if t then true else true) ≡ true
    always true = refl
    always false = refl

-- an atom of a class
item_stays : (x : ClassAtom) → IsClassItem x → Stays true true (class_atom_spelling x)
unfolding is_known
item_stays (class_plain c) h = class_char_stays c h
item_stays hyphen h = one true (byte "-") refl
item_stays (class_escaped c) h = class_known c (ap is_known h)
item_stays (class_control c) h = class_known c (ap is_known h)
item_stays (class_set c) h = class_known c (ap is_known h)
item_stays backspace h = escaped_one true (byte "b") refl
item_stays (class_coded c) h = code_stays true c h.0
item_stays (class_property n e) h = property_stays true n e h.0

-- what stands between the brackets
ranges_stay : (n : Bool) (r : Ranges) → AreItems n r → Stays true true (ranges_spelling r)
ranges_stay n no_ranges h = λ rest. refl
ranges_stay n (with_one r x) h = both true true true (ranges_spelling r) (class_atom_spelling x) (ranges_stay n r h.0) (item_stays x h.1)
ranges_stay n (with_range r x y) h =
    both true true true (ranges_spelling r ++ class_atom_spelling x) (byte "-" ∷ class_atom_spelling y)
    (both true true true (ranges_spelling r) (class_atom_spelling x) (ranges_stay n r h.0) (item_stays x h.1.0))
    (both true true true (byte "-" ∷ []) (class_atom_spelling y) (one true (byte "-") refl) (item_stays y h.2))

-- its beginning
negation_stays : (n : Bool) → Stays false true (negation_spelling n)
negation_stays false = one false (byte "[") refl
negation_stays true = both false true true (byte "[" ∷ []) (byte "^" ∷ []) (one false (byte "[") refl) (one true (byte "^") refl)

-- and its end
ending_stays : (e : Bool) → Stays true false (ending_spelling e)
ending_stays false = one true (byte "]") refl
ending_stays true = both true true false (byte "-" ∷ []) (byte "]" ∷ []) (one true (byte "-") refl) (one true (byte "]") refl)

-- ---- parts

-- a character that stands for itself
is_character : Token → Bool
is_character tokens.Character = true
is_character t = false

-- is no backslash and no bracket
character_still : AreStill (λ c. is_character (token c))
unfolding is_character
character_still = (refl, refl, refl)

-- digits of a number
digits_still : (ds : List ℕ) → are_digits ds ≡ true → Stays false false ds
digits_still = all_still is_digit are_digits (λ d ds. refl) (refl, refl, refl) false

-- a leaf
leaf_stays : (l : Leaf) → IsLeaf l → Stays false false (leaf_spelling l)
unfolding is_known is_character
leaf_stays (plain c) h = still (λ d. is_character (token d)) character_still false c (ap is_character h)
leaf_stays dot h = one false (byte ".") refl
leaf_stays (escaped c) h = known c (ap is_known h)
leaf_stays (control_escape c) h = known c (ap is_known h)
leaf_stays (set_escape c) h = known c (ap is_known h)
leaf_stays (coded c) h = code_stays false c h.0
leaf_stays (property_escape n e) h = property_stays false n e h.0
leaf_stays (numbered []) h = absurd (true≢false (sym h.0.1))
leaf_stays (numbered (d ∷ ds)) h =
    both false false false (byte "\\" ∷ d ∷ []) ds (digit_kept d (and_left (is_digit d) _ h.0.0)) (digits_still ds (and_right (is_digit d) _ h.0.0))
leaf_stays (called n) h =
    both false false false (byte "\\" ∷ byte "k" ∷ byte "<" ∷ []) (name_spelling n ++ byte ">" ∷ [])
    (both false false false (byte "\\" ∷ byte "k" ∷ []) (byte "<" ∷ []) (escaped_one false (byte "k") refl) (one false (byte "<") refl))
    (name_stays n h)
leaf_stays (bracketed n r e) h =
    both false true false (negation_spelling n ++ ranges_spelling r) (ending_spelling e)
    (both false true true (negation_spelling n) (ranges_spelling r) (negation_stays n) (ranges_stay n r h.0)) (ending_stays e)

-- an assertion
edge_stays : (e : Edge) → Stays false false (edge_spelling e)
edge_stays edges.Start = one false (byte "^") refl
edge_stays edges.End = one false (byte "$") refl
edge_stays edges.Boundary = escaped_one false (byte "b") refl
edge_stays edges.NoBoundary = escaped_one false (byte "B") refl

-- the beginning of a group that has a name
opening_stays : Stays false false (byte "(" ∷ byte "?" ∷ byte "<" ∷ [])
opening_stays rest = refl

-- what a group or a look-around begins with
pub enclosing_stays : (g : Enclosing) → IsEnclosing g → Stays false false (enclosing_spelling g)
enclosing_stays (of_group capturing) h = λ rest. refl
enclosing_stays (of_group plain_group) h = λ rest. refl
enclosing_stays (of_group (named n)) h =
    both false false false (byte "(" ∷ byte "?" ∷ byte "<" ∷ []) (name_spelling n ++ byte ">" ∷ []) opening_stays (name_stays n h)
enclosing_stays (of_lookbehind false) h = λ rest. refl
enclosing_stays (of_lookbehind true) h = λ rest. refl
enclosing_stays (of_lookahead false) h = λ rest. refl
enclosing_stays (of_lookahead true) h = λ rest. refl

-- a quantifier
quantifier_stays : (q : Quantifier) → IsRepetition q → Stays false false (quantifier_spelling q)
quantifier_stays zero_or_more h = λ rest. refl
quantifier_stays one_or_more h = λ rest. refl
quantifier_stays zero_or_one h = λ rest. refl
quantifier_stays (exactly ds) h =
    both false false false (byte "{" ∷ []) (ds ++ byte "}" ∷ []) (one false (byte "{") refl)
    (both false false false ds (byte "}" ∷ []) (digits_still ds h.0) (one false (byte "}") refl))
quantifier_stays (at_least ds) h =
    both false false false (byte "{" ∷ []) (ds ++ byte "," ∷ byte "}" ∷ []) (one false (byte "{") refl)
    (both false false false ds (byte "," ∷ byte "}" ∷ []) (digits_still ds h.0) (λ rest. refl))
quantifier_stays (from_to ds es) h =
    both false false false (byte "{" ∷ []) (ds ++ byte "," ∷ (es ++ byte "}" ∷ [])) (one false (byte "{") refl)
    (both false false false ds (byte "," ∷ (es ++ byte "}" ∷ [])) (digits_still ds h.0.0)
    (both false false false (byte "," ∷ []) (es ++ byte "}" ∷ []) (one false (byte ",") refl)
    (both false false false es (byte "}" ∷ []) (digits_still es h.1.0) (one false (byte "}") refl))))

-- a part
part_stays : (p : Part) → IsPart p → Stays false false (part_spelling p)
part_stays bar h = one false (byte "|") refl
part_stays (edge e) h = edge_stays e
part_stays (leaf l) h = leaf_stays l h
part_stays (opens g) h = enclosing_stays g h
part_stays closes h = one false (byte ")") refl
part_stays (repeats q) h = quantifier_stays q h

-- all of them
pub parts_stay : (ps : List Part) → AreParts ps → Stays false false (spelling ps)
parts_stay [] h = λ rest. refl
parts_stay (p ∷ ps) h = both false false false (part_spelling p) (spelling ps) (part_stays p h.0) (parts_stay ps h.2)

-- so a pattern is its own strict form
pub stays : (source : List ℕ) → IsRegex source → strict_form source ≡ source
stays source r =
    let text = spelling (parts r.0) in
    let same : strict_form text ≡ text =
    ap strict_form (sym (append-nil text)) ∙ parts_stay (parts r.0) r.1.formed [] ∙ append-nil text in
    subst (λ (z : List ℕ). strict_form z ≡ z) r.1.spelled same

-- ---- strict forms

-- a digit of base 16
hex_digit_char : (d : ℕ) → d < 16 → is_hex_digit (digit_char d) ≡ true
hex_digit_char d l = ap (λ (n : ℕ). nat_lt n 16) (digit_value-digit_char d (omega (arith, l))) ∙ grind (arith, nat_tests)

-- the digits of a character of ASCII
byte_digits : (c : ℕ) → c < 0x80 → AreCodeDigits (byte_escape c)
byte_digits c l = (
  and_true _ _ (hex_digit_char (c / 16) (omega arith)) (and_true _ _ (hex_digit_char (c % 16) (omega arith)) refl),
  refl,
)

-- they give the character
pub value : (c : ℕ) → c < 0x80 → code_value (byte_escape c) ≡ c
value c l =
    ap (λ (n : ℕ). (0 + n) * 16 + digit_value (digit_char (c % 16))) (digit_value-digit_char (c / 16) (omega arith))
    ∙ ap (λ (n : ℕ). (0 + c / 16) * 16 + n) (digit_value-digit_char (c % 16) (omega arith)) ∙ omega arith

-- so they are an escape that is taken
pub is_code : (c : ℕ) → c < 0x80 → IsCode (byte_escape c)
is_code c l = (byte_digits c l, ap is_scalar (value c l) ∙ grind (arith, nat_tests))

-- a character that is rewritten is one of ASCII
is_small : (k : Bool) (c : ℕ) → is_lenient k c ≡ true → c < 0x80
is_small k c h =
    let l : nat_lt c 0x80 ≡ true = and_left (nat_lt c 0x80) _ h in
    grind (arith, nat_tests)

-- an escape at the beginning, by its number
pub rewritten : (c : ℕ) (rest : List ℕ) → is_lenient false c ≡ true
    → strict_form (byte "\\" ∷ c ∷ rest) ≡ byte "\\" ∷ (code_spelling (byte_escape c) ++ strict_form rest)
rewritten c rest h =
    ap (λ (t : Bool). byte "\\" ∷ ((if t then code_spelling (byte_escape c) else c ∷ []) ++ strict_form rest)) h

-- what is written for an escape stays
form_stays : (k : Bool) (c : ℕ) → Stays k k (escape_form k c)
form_stays k c = by_test (is_lenient k c) refl
  where
    -- by whether it is rewritten
    by_test : (b : Bool) → is_lenient k c ≡ b → Stays k k (byte "\\" ∷ (if b then code_spelling (byte_escape c) else c ∷ []))
    by_test true e = code_stays k (byte_escape c) (byte_digits c (is_small k c e))
    by_test false e = escaped_one k c e

-- a character before a strict form, or a backslash before one
again_by : (k : Bool) (c : ℕ) (b : Bool) (behind xs : List ℕ) → (c == byte "\\") ≡ b → strict_from k behind ≡ behind
    → strict_from (is_open k c) xs ≡ xs → strict_from k (if b then behind else c ∷ xs) ≡ (if b then behind else c ∷ xs)
again_by k c true behind xs e f g = f
again_by k c false behind xs e f g = one k c e xs ∙ ap (λ z. c ∷ z) g

mutual
  -- a strict form is its own
  strict_again : (k : Bool) (cs : List ℕ) → strict_from k (strict_from k cs) ≡ strict_from k cs
  strict_again k [] = refl
  strict_again k (c ∷ cs) =
      again_by k c (c == byte "\\") (strict_behind k cs) (strict_from (is_open k c) cs) refl (behind_again k cs) (strict_again (is_open k c) cs)

  -- so it is with a backslash before it
  behind_again : (k : Bool) (cs : List ℕ) → strict_from k (strict_behind k cs) ≡ strict_behind k cs
  behind_again k [] = refl
  behind_again k (c ∷ cs) = form_stays k c (strict_from k cs) ∙ ap (λ z. escape_form k c ++ z) (strict_again k cs)

pub stays_strict : (source : List ℕ) → strict_form (strict_form source) ≡ strict_form source
stays_strict = strict_again false
