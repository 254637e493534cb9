-- What a character is fixes it, where it is one character alone.
use Rattle.std.proofs.Common.{◌≡◌, ℕ, Bool, true, false, if◌then◌else◌, ◌==◌, codes, refl, sym, ap, ◌∙◌, true≢false, arith}
use Rattle.std.proofs.lemmas.Bool.Decides.{nat_tests}
use Rattle.std.specs.Str.{byte}
use Rattle.strkw_text.specs.Characters.{is_one_of}
use Rattle.strkw_regex_grammar.specs.Escapes.{Escape, itself, control, set, boundary, no_boundary, null, letter, hexadecimal, unicode, property}
use Rattle.strkw_regex_grammar.specs.Escapes.{no_property, unknown, escape}
use Rattle.strkw_regex_grammar.specs.Classes.{ClassToken, closing_bracket, class_escaper, dash, class_char, class_token, class_escape}
use Rattle.strkw_regex_grammar.specs.Numbers.{CountToken, digit, comma, closing_brace, no_count, is_digit, count_token}
use Rattle.strkw_regex_grammar.specs.Names.{Extension, uncaptured, name_opening, look_equals, look_negation, no_extension, extension, NameToken}
use Rattle.strkw_regex_grammar.specs.Names.{name_end, name_backslash, name_equals, name_negation, name_character, name_token}
use Rattle.strkw_regex_grammar.specs.Syntax.{Token, bar, asterisk, plus, question, caret, dollar, opening, closing, point, backslash, bracket, brace}
use Rattle.strkw_regex_grammar.specs.Syntax.{character, other, token}

-- the character of a token, where it has one
abbrev pub char_of : Token → ℕ → ℕ
char_of bar c = byte "|"
char_of asterisk c = byte "*"
char_of plus c = byte "+"
char_of question c = byte "?"
char_of caret c = byte "^"
char_of dollar c = byte "$"
char_of opening c = byte "("
char_of closing c = byte ")"
char_of point c = byte "."
char_of backslash c = byte "\\"
char_of bracket c = byte "["
char_of brace c = byte "{"
char_of character c = c
char_of other c = c

-- what holds of both that a test chooses from holds of what it chooses
by_test : {T : Type 0} (b : Bool) (P : T → Type 0) (t u : T) → (b ≡ true → P t) → P u → P (if b then t else u)
by_test true P t u f g = f refl
by_test false P t u f g = g

-- characters that are found to be the same are the same
pub same_char : (c d : ℕ) → (c == d) ≡ true → d ≡ c
same_char c d h = grind (arith, nat_tests)

-- with f, and so none without it
pub is_not : (f : ℕ → Bool) (c d : ℕ) (b : Bool) → (c == d) ≡ b → f c ≡ true → f d ≡ false → b ≡ false
is_not f c d false e h w = refl
is_not f c d true e h w = absurd (true≢false (sym h ∙ sym (ap f (same_char c d e)) ∙ w))

-- the character of what a character is in a pattern is that character
pub char_of_token : (c : ℕ) → char_of (token c) c ≡ c
char_of_token c =
    let P = λ (t : Token). char_of t c ≡ c in
    by_test (c == byte "|") P _ _ (same_char c _) (by_test (c == byte "*") P _ _ (same_char c _)
    (by_test (c == byte "+") P _ _ (same_char c _) (by_test (c == byte "?") P _ _ (same_char c _)
    (by_test (c == byte "^") P _ _ (same_char c _) (by_test (c == byte "$") P _ _ (same_char c _)
    (by_test (c == byte "(") P _ _ (same_char c _) (by_test (c == byte ")") P _ _ (same_char c _)
    (by_test (c == byte ".") P _ _ (same_char c _) (by_test (c == byte "\\") P _ _ (same_char c _)
    (by_test (c == byte "[") P _ _ (same_char c _)
    (by_test (c == byte "{") P _ _ (same_char c _) (by_test (is_one_of (codes "]}") c) P _ _ (λ _. refl) refl))))))))))))

-- the character of what stands behind a backslash, where it has one
abbrev pub char_of_letter : Escape → ℕ → ℕ
char_of_letter boundary c = byte "b"
char_of_letter no_boundary c = byte "B"
char_of_letter itself c = c
char_of_letter control c = c
char_of_letter set c = c
char_of_letter null c = byte "0"
char_of_letter letter c = byte "c"
char_of_letter hexadecimal c = byte "x"
char_of_letter unicode c = byte "u"
char_of_letter property c = byte "p"
char_of_letter no_property c = byte "P"
char_of_letter unknown c = c

-- the character of what a character is behind a backslash is that character
pub char_of_escape : (c : ℕ) → char_of_letter (escape c) c ≡ c
char_of_escape c =
    let P = λ (t : Escape). char_of_letter t c ≡ c in
    by_test (c == byte "b") P _ _ (same_char c _) (by_test (c == byte "B") P _ _ (same_char c _)
    (by_test (c == byte "0") P _ _ (same_char c _) (by_test (c == byte "c") P _ _ (same_char c _)
    (by_test (c == byte "x") P _ _ (same_char c _) (by_test (c == byte "u") P _ _ (same_char c _)
    (by_test (c == byte "p") P _ _ (same_char c _) (by_test (c == byte "P") P _ _ (same_char c _)
    (by_test (is_one_of (codes "^$\\.*+?()[]{}|/") c) P _ _ (λ _. refl) (by_test (is_one_of (codes "fnrtv") c) P _ _ (λ _. refl)
    (by_test (is_one_of (codes "dDsSwW") c) P _ _ (λ _. refl) refl))))))))))

-- the character of what stands in a class, where it has one
abbrev pub char_of_class : ClassToken → ℕ → ℕ
char_of_class closing_bracket c = byte "]"
char_of_class class_escaper c = byte "\\"
char_of_class dash c = byte "-"
char_of_class class_char c = c

-- the character of what a character is in a class is that character
pub char_of_class_token : (c : ℕ) → char_of_class (class_token c) c ≡ c
char_of_class_token c =
    let P = λ (t : ClassToken). char_of_class t c ≡ c in
    by_test (c == byte "]") P _ _ (same_char c _) (by_test (c == byte "\\") P _ _ (same_char c _)
    (by_test (c == byte "-") P _ _ (same_char c _) refl))

-- the same behind a backslash in a class
pub char_of_class_escape : (c : ℕ) → char_of_letter (class_escape c) c ≡ c
char_of_class_escape c = by_test (c == byte "-") (λ (t : Escape). char_of_letter t c ≡ c) _ _ (λ _. refl) (char_of_escape c)

-- the character of what stands in a count, where it has one
abbrev pub char_of_count : CountToken → ℕ → ℕ
char_of_count digit c = c
char_of_count comma c = byte ","
char_of_count closing_brace c = byte "}"
char_of_count no_count c = c

-- the character of what a character is in a count is that character
pub char_of_count_token : (c : ℕ) → char_of_count (count_token c) c ≡ c
char_of_count_token c =
    let P = λ (t : CountToken). char_of_count t c ≡ c in
    by_test (is_digit c) P _ _ (λ _. refl) (by_test (c == byte ",") P _ _ (same_char c _)
    (by_test (c == byte "}") P _ _ (same_char c _) refl))

-- the character of what stands behind `(?`, where it has one
abbrev pub char_of_extension : Extension → ℕ → ℕ
char_of_extension uncaptured c = byte ":"
char_of_extension name_opening c = byte "<"
char_of_extension look_equals c = byte "="
char_of_extension look_negation c = byte "!"
char_of_extension no_extension c = c

-- the character of what a character is there is that character
pub char_of_extension_token : (c : ℕ) → char_of_extension (extension c) c ≡ c
char_of_extension_token c =
    let P = λ (t : Extension). char_of_extension t c ≡ c in
    by_test (c == byte ":") P _ _ (same_char c _) (by_test (c == byte "<") P _ _ (same_char c _)
    (by_test (c == byte "=") P _ _ (same_char c _) (by_test (c == byte "!") P _ _ (same_char c _) refl)))

-- the character of what stands in a name, where it has one
abbrev pub char_of_name : NameToken → ℕ → ℕ
char_of_name name_end c = byte ">"
char_of_name name_backslash c = byte "\\"
char_of_name name_equals c = byte "="
char_of_name name_negation c = byte "!"
char_of_name name_character c = c

-- the character of what a character is in a name is that character
pub char_of_name_token : (c : ℕ) → char_of_name (name_token c) c ≡ c
char_of_name_token c =
    let P = λ (t : NameToken). char_of_name t c ≡ c in
    by_test (c == byte ">") P _ _ (same_char c _) (by_test (c == byte "\\") P _ _ (same_char c _)
    (by_test (c == byte "=") P _ _ (same_char c _) (by_test (c == byte "!") P _ _ (same_char c _) refl)))

-- whether the token is that of a character that stands for itself
is_character : Token → Bool
is_character character = true
is_character t = false

-- a character that stands for itself is no question mark
pub no_question : (c : ℕ) (b : Bool) → (c == byte "?") ≡ b → token c ≡ character → b ≡ false
unfolding is_character
no_question c false e h = refl
no_question c true e h =
    absurd (true≢false (sym (ap is_character h) ∙ ap (λ (z : ℕ). is_character (token z)) (sym (same_char c (byte "?") e))))
