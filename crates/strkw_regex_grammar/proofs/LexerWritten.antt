-- What a state of the recogniser may have read, and what comes of one more character outside of classes.
use Rattle.std.proofs.Common.{◌≡◌, ℕ, ◌+◌, ◌*◌, ◌%◌, ◌≤◌, nat_le, ◌==◌, Bool, true, false, ◌&&◌, List, [], ◌∷◌, ◌++◌, Option, Some, None, length}
use Rattle.std.proofs.Common.{refl, sym, ap, subst, ◌∙◌, arith}
use Rattle.std.proofs.lemmas.Bool.{leb-true}
use Rattle.std.proofs.lemmas.List.{length_push}
use Rattle.std.specs.Char.{digit_value, is_ascii_alphabetic}
use Rattle.std.specs.Str.{byte}
use Rattle.strkw_regex_grammar.specs.Codes.{Code, letter_code, byte_code, unit_code, point_code, is_hex_digit, are_hex_digits}
use Rattle.strkw_regex_grammar.specs.Codes.{hex_number, max_code_point, code_spelling, code_value}
use Rattle.strkw_regex_grammar.specs.Regex.{IsEscape}
use Rattle.strkw_regex_grammar.specs.machine.CodeReading.{Wanted, one_more, two_more, three_more, four_more, value_or}
use Rattle.strkw_regex_grammar.specs.machine.CodeMakers.{value_if, hex_with}
use Rattle.strkw_regex_grammar.specs.machine.Lexemes.{Form, unit_form, other_form, form, number, single, code_lexemes}
use Rattle.strkw_regex_grammar.specs.machine.NumberReading.{NumberPart, letter_awaited, unit_opened, digits_of}
use Rattle.strkw_regex_grammar.specs.machine.NumberReading.{point_opened, NumberRead, no_number, number_goes, number_ends, read_digit, digit_or_none}
use Rattle.strkw_regex_grammar.specs.machine.NumberReading.{number_if, on_unit, point_digit, on_point, number_next}
use Rattle.strkw_regex_grammar.proofs.Letters.{same_char}
use Rattle.strkw_regex_grammar.proofs.CodeReadings.{wanted_count, hex_push_digit}
use Rattle.strkw_regex_grammar.proofs.CodeImages.{hex_push}
use Rattle.strkw_charset.proofs.Booleans.{and_left, and_right}

-- the number, where there are digits
abbrev hex_number_of : List ℕ → Option ℕ
hex_number_of [] = None
hex_number_of (d ∷ ds) = Some (hex_number (d ∷ ds))

-- of digits with one more there is a number
pushed_is : (ds : List ℕ) (c : ℕ) → hex_number_of (ds ++ c ∷ []) ≡ Some (hex_number (ds ++ c ∷ []))
pushed_is [] c = refl
pushed_is (d ∷ ds) c = refl

-- the number of digits is the one that is held of them, or 0 of none
number_is : (ds : List ℕ) → hex_number ds ≡ value_or 0 (hex_number_of ds)
number_is [] = refl
number_is (d ∷ ds) = refl

-- of an escape by a number
-- the letter behind the backslash, and how many digits there are
abbrev form_letter : Form → ℕ
form_letter unit_form = byte "u"
form_letter other_form = byte "x"

-- how many digits there are
abbrev form_count : Form → ℕ
form_count unit_form = 4
form_count other_form = 2

-- this may have been read behind the backslash
abbrev pub NumberText : NumberPart → List ℕ → Type 0
NumberText letter_awaited v = v ≡ byte "c" ∷ []
NumberText unit_opened v = v ≡ byte "u" ∷ []
NumberText (digits_of f w n) v =
    (ds : List ℕ) × (are_hex_digits ds ≡ true) × (length ds + wanted_count w ≡ form_count f) × (hex_number ds ≡ n) × (v ≡ form_letter f ∷ ds)
NumberText (point_opened o) v =
    (ds : List ℕ) × (are_hex_digits ds ≡ true) × (hex_number ds ≤ max_code_point) × (hex_number_of ds ≡ o) × (v ≡ byte "u" ∷ byte "{" ∷ ds)

-- an escape that is spelled so has this form and this value, and one lexeme
abbrev pub Escapes : Form → ℕ → List ℕ → Type 0
Escapes f n v =
    (d : Code) × IsEscape d × (code_spelling d ≡ v) × (form d ≡ f) × (code_value d ≡ n) × (code_lexemes d ≡ single (number f n))

-- what comes of one more character has been read so
abbrev pub NumberReadText : NumberRead → List ℕ → Type 0
NumberReadText no_number v = Unit {0}
NumberReadText (number_goes k) v = NumberText k v
NumberReadText (number_ends f n) v = Escapes f n v

-- what is read of all digits of a form, where no number is above the greatest
whole_number : (f : Form) (ds : List ℕ) → are_hex_digits ds ≡ true → length ds ≡ form_count f → hex_number ds ≤ max_code_point
    → Escapes f (hex_number ds) (form_letter f ∷ ds)
whole_number unit_form ds h l m = (unit_code ds, ((h, l), m), refl, refl, refl, refl)
whole_number other_form ds h l m = (byte_code ds, ((h, l), m), refl, refl, refl, refl)

-- what is read of digits, where some are still to come
digits_read : (f : Form) (w : Wanted) (ds : List ℕ) → are_hex_digits ds ≡ true → length ds + wanted_count w ≡ form_count f + 1
    → hex_number ds ≤ max_code_point → NumberReadText (read_digit f w (hex_number ds)) (form_letter f ∷ ds)
digits_read f one_more ds h l m = whole_number f ds h (omega (arith, l)) m
digits_read f two_more ds h l m = (ds, h, omega (arith, l), refl, refl)
digits_read f three_more ds h l m = (ds, h, omega (arith, l), refl, refl)
digits_read f four_more ds h l m = (ds, h, omega (arith, l), refl, refl)

-- so it is with one digit more
digit_follows : (f : Form) (w : Wanted) (ds : List ℕ) (c : ℕ) → are_hex_digits ds ≡ true → length ds + wanted_count w ≡ form_count f
    → NumberReadText (digit_or_none f w (hex_with (hex_number ds) c)) (form_letter f ∷ (ds ++ c ∷ []))
digit_follows f w ds c h l =
    subst (λ n. NumberReadText (digit_or_none f w (value_if (is_hex_digit c && nat_le n max_code_point) n)) (form_letter f ∷ (ds ++ c ∷ [])))
    (hex_push 0 ds c) (by_test (is_hex_digit c && nat_le (hex_number (ds ++ c ∷ [])) max_code_point) refl)
  where
    -- by whether it is one that makes no number above the greatest
    by_test : (b : Bool) → (is_hex_digit c && nat_le (hex_number (ds ++ c ∷ [])) max_code_point) ≡ b
        → NumberReadText (digit_or_none f w (value_if b (hex_number (ds ++ c ∷ [])))) (form_letter f ∷ (ds ++ c ∷ []))
    by_test false e = tt
    by_test true e =
        digits_read f w (ds ++ c ∷ []) (hex_push_digit ds c h (and_left (is_hex_digit c) _ e)) (omega (arith, length_push ds c, l))
        (leb-true (hex_number (ds ++ c ∷ [])) max_code_point (and_right (is_hex_digit c) _ e))

-- what is read behind `\u{` and digits
point_follows : (ds : List ℕ) (c : ℕ) (b : Bool) → (c == byte "}") ≡ b → are_hex_digits ds ≡ true → hex_number ds ≤ max_code_point
    → NumberReadText (on_point (hex_number_of ds) c b) (byte "u" ∷ byte "{" ∷ (ds ++ c ∷ []))
point_follows ds c false k h m =
    subst (λ n. NumberReadText (point_digit (value_if (is_hex_digit c && nat_le n max_code_point) n)) (byte "u" ∷ byte "{" ∷ (ds ++ c ∷ [])))
    (hex_push 0 ds c ∙ ap (λ n. n * 16 + digit_value c) (number_is ds))
    (by_test (is_hex_digit c && nat_le (hex_number (ds ++ c ∷ [])) max_code_point) refl)
  where
    -- by whether it is a digit that makes no number above the greatest
    by_test : (b : Bool) → (is_hex_digit c && nat_le (hex_number (ds ++ c ∷ [])) max_code_point) ≡ b
        → NumberReadText (point_digit (value_if b (hex_number (ds ++ c ∷ [])))) (byte "u" ∷ byte "{" ∷ (ds ++ c ∷ []))
    by_test false e = tt
    by_test true e = (
      ds ++ c ∷ [],
      hex_push_digit ds c h (and_left (is_hex_digit c) _ e),
      leb-true (hex_number (ds ++ c ∷ [])) max_code_point (and_right (is_hex_digit c) _ e),
      pushed_is ds c,
      refl,
    )
point_follows [] c true k h m = tt
point_follows (d ∷ ds) c true k h m = (
  point_code (d ∷ ds),
  ((h, refl), m),
  ap (λ z. byte "u" ∷ byte "{" ∷ ((d ∷ ds) ++ z ∷ [])) (same_char c (byte "}") k),
  refl,
  refl,
  refl,
)

-- what is read behind `\u`
unit_follows : (c : ℕ) (b : Bool) → (c == byte "{") ≡ b → NumberReadText (on_unit c b) (byte "u" ∷ c ∷ [])
unit_follows c false e = digit_follows unit_form four_more [] c refl refl
unit_follows c true e = ([], refl, omega arith, refl, ap (λ z. byte "u" ∷ z ∷ []) (sym (same_char c (byte "{") e)))

-- and behind `\c`
letter_follows : (c : ℕ) (b : Bool) → is_ascii_alphabetic c ≡ b → NumberReadText (number_if b (number_ends other_form (c % 32))) (byte "c" ∷ c ∷ [])
letter_follows c false e = tt
letter_follows c true e = (letter_code c, (e, omega arith), refl, refl, refl, refl)

-- so what comes of one more character has been read so
pub number_follows : (k : NumberPart) (v : List ℕ) (c : ℕ) → NumberText k v → NumberReadText (number_next k c) (v ++ c ∷ [])
number_follows letter_awaited v c h =
    subst (NumberReadText (number_next letter_awaited c)) (ap (λ z. z ++ c ∷ []) (sym h)) (letter_follows c (is_ascii_alphabetic c) refl)
number_follows unit_opened v c h =
    subst (NumberReadText (number_next unit_opened c)) (ap (λ z. z ++ c ∷ []) (sym h)) (unit_follows c (c == byte "{") refl)
number_follows (digits_of f w n) v c h =
    subst (NumberReadText (number_next (digits_of f w n) c)) (ap (λ z. z ++ c ∷ []) (sym h.4))
    (subst (λ z. NumberReadText (number_next (digits_of f w z) c) (form_letter f ∷ (h.0 ++ c ∷ []))) h.3 (digit_follows f w h.0 c h.1 h.2))
number_follows (point_opened o) v c h =
    subst (NumberReadText (number_next (point_opened o) c)) (ap (λ z. z ++ c ∷ []) (sym h.4))
    (subst (λ z. NumberReadText (number_next (point_opened z) c) (byte "u" ∷ byte "{" ∷ (h.0 ++ c ∷ []))) h.3
    (point_follows h.0 c (c == byte "}") refl h.1 h.2))
