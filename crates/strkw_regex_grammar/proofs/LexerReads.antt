-- Escapes by a number, properties, names, counts and back references are read from their spelling.
use Rattle.std.proofs.Common.{◌≡◌, ℕ, ◌+◌, ◌*◌, ◌-◌, ◌%◌, ◌≤◌, ◌==◌, Bool, true, false, List, [], ◌∷◌, ◌++◌, Option, Some, None, length, refl, sym}
use Rattle.std.proofs.Common.{ap, ◌∙◌, append_assoc, true≢false, arith, if◌then◌else◌}
use Rattle.std.specs.Prelude.{codes, not, ◌||◌, option_and_then}
use Rattle.std.specs.List.{list_any, list_all}
use Rattle.std.proofs.lemmas.Bool.{le-leb}
use Rattle.std.proofs.lemmas.Bool.Decides.{nat_tests}
use Rattle.std.proofs.lemmas.List.{append-nil}
use Rattle.std.specs.Char.{digit_value}
use Rattle.std.specs.Str.{byte}
use Rattle.strkw_text.specs.Characters.{is_one_of}
use Rattle.strkw_regex_grammar.specs.Escapes.{Escape, itself, control, set, boundary, no_boundary, null, letter, hexadecimal, unicode, property}
use Rattle.strkw_regex_grammar.specs.Escapes.{no_property, unknown, escape}
use Rattle.strkw_regex_grammar.specs.Codes.{Code, null_code, letter_code, byte_code, unit_code, pair_code, point_code, is_hex_digit, are_hex_digits}
use Rattle.strkw_regex_grammar.specs.Codes.{hex_number_from, hex_number, max_code_point, has_digits, code_spelling, code_value, AreDigits}
use Rattle.strkw_regex_grammar.specs.Numbers.{number, is_digit, are_digits, CountToken}
use Rattle.strkw_charset.specs.Properties.{Expression, property_of, expression_spelling, property_letter, property_spelling}
use Rattle.strkw_regex_grammar.specs.Names.{NameChar, verbatim, by_code, name_spelling, name_char_spelling, name_char_value, name_value, may_follow}
use Rattle.strkw_regex_grammar.specs.Names.{IsName, IsNameChar, AreNameParts, is_unicode, NameToken}
use Rattle.strkw_regex_grammar.specs.Syntax.{Quantifier, zero_or_more, one_or_more, zero_or_one, exactly, at_least, from_to}
use Rattle.strkw_regex_grammar.specs.Syntax.{quantifier_spelling, Token, token, bar, asterisk, plus, question, caret, dollar, closing}
use Rattle.strkw_regex_grammar.specs.Syntax.{opening as opening_token, point, backslash, bracket, brace, character, other}
use Rattle.strkw_regex_grammar.specs.Regex.{AreDecimal, IsRepetition, IsEscape, is_property, IsPropertyExpression, begins_with_zero}
use Rattle.strkw_regex_grammar.specs.Regex.{begins_with_digit}
use Rattle.strkw_regex_grammar.specs.machine.CodeReading as reading
use Rattle.strkw_regex_grammar.specs.machine.CodeReading.{Wanted, one_more, two_more, three_more, four_more, value_or}
use Rattle.strkw_regex_grammar.specs.machine.CodeMakers.{value_if, code_trees}
use Rattle.strkw_charset.specs.machine.PropertyReading.{PropertyPart, brace_awaited, PropertyRead, no_property_read, property_goes, property_ends}
use Rattle.strkw_charset.specs.machine.PropertyReading.{property_next}
use Rattle.strkw_regex_grammar.specs.machine.Lexemes as lexeme
use Rattle.strkw_regex_grammar.specs.machine.Lexemes.{Lexeme, Form, unit_form, other_form, cap_number, quantifier_lexeme, code_lexemes}
use Rattle.strkw_regex_grammar.specs.machine.Lexing.{Naming, low, high, Mode, between, calling, counting, numbering, in_property, naming, name_coding, referring}
use Rattle.strkw_regex_grammar.specs.machine.Lexing.{Lexed, whole, under_way, refused, lexed_if, lexed_behind, on_token, on_escape, on_referring, on_number, known_if}
use Rattle.strkw_regex_grammar.specs.machine.Lexing.{property_lexed, on_property, with_name_char, name_read, on_naming, on_name_coding, on_low, range_read}
use Rattle.strkw_regex_grammar.specs.machine.Lexing.{on_high, held}
use Rattle.strkw_regex_grammar.specs.declared.lexemes.Bounds.TheVariants as bounds
use Rattle.strkw_regex_grammar.specs.machine.NumberReading.{NumberPart, letter_awaited, unit_opened, digits_of}
use Rattle.strkw_regex_grammar.specs.machine.NumberReading.{point_opened, NumberRead, no_number, number_goes, number_ends, number_next, read_digit}
use Rattle.strkw_regex_grammar.specs.machine.NumberReading.{digit_or_none, number_if, on_unit, on_point, point_digit}
use Rattle.strkw_regex_grammar.proofs.Letters.{is_not}
use Rattle.strkw_regex_grammar.proofs.NameParts.{token_of_name}
use Rattle.strkw_regex_grammar.proofs.CodeReadings.{wanted_count, hex_grows, no_digits, lead_small, trail_small, follow, code_tail, reads_code}
use Rattle.strkw_regex_grammar.proofs.RegexNames.{not_false}
use Rattle.strkw_regex_grammar.proofs.CodeImages.{coding_image, coded_image, next_coding_image}
use Rattle.strkw_regex_grammar.proofs.PropertyReadings.{follow_property, reads_property}
use Rattle.strkw_regex_grammar.proofs.Numbers.{token_of_digit, number_push, held_push}
use Rattle.strkw_regex_grammar.proofs.NameParts.{follow_apart}
use Rattle.strkw_charset.proofs.Booleans.{and_true, and_left, and_right}
use Rattle.strkw_regex_grammar.proofs.LexerRuns.{IsOne, take_lexemes, run, past, stepped, past_lexed, past_behind}

-- escapes by a number
-- the rest, behind what comes of one more character
abbrev pub follow_number : {A : Type 0} → (NumberPart → List ℕ → Option A) → (Form → ℕ → List ℕ → Option A) → NumberRead → List ℕ → Option A
follow_number F G no_number cs = None
follow_number F G (number_goes k) cs = F k cs
follow_number F G (number_ends f n) cs = G f n cs

module _ {A : Type 0} (F : NumberPart → List ℕ → Option A) (G : Form → ℕ → List ℕ → Option A)
    (turn : (k : NumberPart) (c : ℕ) (cs : List ℕ) → F k (c ∷ cs) ≡ follow_number F G (number_next k c) cs) where
  -- a digit that makes no number above the greatest is read
  one_digit : (f : Form) (w : Wanted) (v d : ℕ) (cs : List ℕ) → is_hex_digit d ≡ true → v * 16 + digit_value d ≤ max_code_point
      → F (digits_of f w v) (d ∷ cs) ≡ follow_number F G (read_digit f w (v * 16 + digit_value d)) cs
  one_digit f w v d cs h m =
      turn (digits_of f w v) d cs
      ∙ ap (λ (b : Bool). follow_number F G (digit_or_none f w (value_if b (v * 16 + digit_value d))) cs)
      (and_true _ _ h (le-leb (v * 16 + digit_value d) max_code_point m))

  -- all digits of a number are read, where there are as many as are to come
  reads_digits : (f : Form) (w : Wanted) (v : ℕ) (es : List ℕ) → are_hex_digits es ≡ true → length es ≡ wanted_count w
      → hex_number_from v es ≤ max_code_point → (cs : List ℕ) → F (digits_of f w v) (es ++ cs) ≡ G f (hex_number_from v es) cs
  reads_digits f w v [] h e m cs = absurd (no_digits w e)
  reads_digits f one_more v (d ∷ []) h e m cs = one_digit f one_more v d cs (and_left (is_hex_digit d) _ h) m
  reads_digits f one_more v (d ∷ c ∷ es) h e m cs = absurd (omega (arith, e))
  reads_digits f two_more v (d ∷ es) h e m cs =
      one_digit f two_more v d (es ++ cs) (and_left (is_hex_digit d) _ h) (omega (arith, hex_grows (v * 16 + digit_value d) es, m))
      ∙ reads_digits f one_more (v * 16 + digit_value d) es (and_right (is_hex_digit d) _ h) (omega (arith, e)) m cs
  reads_digits f three_more v (d ∷ es) h e m cs =
      one_digit f three_more v d (es ++ cs) (and_left (is_hex_digit d) _ h) (omega (arith, hex_grows (v * 16 + digit_value d) es, m))
      ∙ reads_digits f two_more (v * 16 + digit_value d) es (and_right (is_hex_digit d) _ h) (omega (arith, e)) m cs
  reads_digits f four_more v (d ∷ es) h e m cs =
      one_digit f four_more v d (es ++ cs) (and_left (is_hex_digit d) _ h) (omega (arith, hex_grows (v * 16 + digit_value d) es, m))
      ∙ reads_digits f three_more (v * 16 + digit_value d) es (and_right (is_hex_digit d) _ h) (omega (arith, e)) m cs

  -- behind `\u` the first of four digits is no brace
  opens_digits : (ds : List ℕ) → AreDigits 4 ds → (cs : List ℕ) → F unit_opened (ds ++ cs) ≡ F (digits_of unit_form four_more 0) (ds ++ cs)
  opens_digits [] h cs = absurd (no_digits four_more h.1)
  opens_digits (d ∷ ds) h cs =
      turn unit_opened d (ds ++ cs)
      ∙ ap (λ (b : Bool). follow_number F G (on_unit d b) (ds ++ cs))
      (is_not is_hex_digit d (byte "{") (d == byte "{") refl (and_left (is_hex_digit d) _ h.0) refl)
      ∙ sym (turn (digits_of unit_form four_more 0) d (ds ++ cs))

  -- so `\u` and four digits are read
  pub reads_unit : (ds : List ℕ) → IsEscape (unit_code ds) → (cs : List ℕ) → F unit_opened (ds ++ cs) ≡ G unit_form (hex_number ds) cs
  reads_unit ds h cs = opens_digits ds h.0 cs ∙ reads_digits unit_form four_more 0 ds h.0.0 h.0.1 h.1 cs

  -- behind `\u{` digits are read, up to the greatest number
  reads_point : (o : Option ℕ) (es : List ℕ) → are_hex_digits es ≡ true → hex_number_from (value_or 0 o) es ≤ max_code_point
      → has_digits es ≡ true → (cs : List ℕ) → F (point_opened o) (es ++ byte "}" ∷ cs) ≡ G other_form (hex_number_from (value_or 0 o) es) cs
  reads_point o [] h m k cs = absurd (true≢false (sym k))
  reads_point o (d ∷ es) h m k cs =
      let v = value_or 0 o * 16 + digit_value d in
      let hex = and_left (is_hex_digit d) _ h in
      turn (point_opened o) d (es ++ byte "}" ∷ cs)
      ∙ ap (λ (b : Bool). follow_number F G (on_point o d b) (es ++ byte "}" ∷ cs)) (is_not is_hex_digit d (byte "}") (d == byte "}") refl hex refl)
      ∙ ap (λ (b : Bool). follow_number F G (point_digit (value_if b v)) (es ++ byte "}" ∷ cs))
      (and_true _ _ hex (le-leb v max_code_point (omega (arith, hex_grows v es, m))))
      ∙ reads_rest v es (and_right (is_hex_digit d) _ h) m
    where
      -- behind one digit, the others and the brace
      reads_rest : (v : ℕ) (es : List ℕ) → are_hex_digits es ≡ true → hex_number_from v es ≤ max_code_point
          → F (point_opened (Some v)) (es ++ byte "}" ∷ cs) ≡ G other_form (hex_number_from v es) cs
      reads_rest v [] h m = turn (point_opened (Some v)) (byte "}") cs
      reads_rest v (d ∷ es) h m =
          let u = v * 16 + digit_value d in
          let hex = and_left (is_hex_digit d) _ h in
          turn (point_opened (Some v)) d (es ++ byte "}" ∷ cs)
          ∙ ap (λ (b : Bool). follow_number F G (on_point (Some v) d b) (es ++ byte "}" ∷ cs)) (is_not is_hex_digit d (byte "}") (d == byte "}") refl hex refl)
          ∙ ap (λ (b : Bool). follow_number F G (point_digit (value_if b u)) (es ++ byte "}" ∷ cs))
          (and_true _ _ hex (le-leb u max_code_point (omega (arith, hex_grows u es, m))))
          ∙ reads_rest u es (and_right (is_hex_digit d) _ h) m

  -- `\c` and a letter
  pub reads_letter : (c : ℕ) → IsEscape (letter_code c) → (cs : List ℕ) → F letter_awaited (c ∷ cs) ≡ G other_form (c % 32) cs
  reads_letter c h cs = turn letter_awaited c cs ∙ ap (λ (b : Bool). follow_number F G (number_if b (number_ends other_form (c % 32))) cs) h.0

  -- `\x` and two digits
  pub reads_byte : (ds : List ℕ) → IsEscape (byte_code ds) → (cs : List ℕ) → F (digits_of other_form two_more 0) (ds ++ cs) ≡ G other_form (hex_number ds) cs
  reads_byte ds h cs = reads_digits other_form two_more 0 ds h.0.0 h.0.1 h.1 cs

  -- `\u{ }`
  pub reads_braces : (ds : List ℕ) → IsEscape (point_code ds) → (cs : List ℕ)
      → F unit_opened (byte "{" ∷ ((ds ++ byte "}" ∷ []) ++ cs)) ≡ G other_form (hex_number ds) cs
  reads_braces ds h cs =
      turn unit_opened (byte "{") ((ds ++ byte "}" ∷ []) ++ cs) ∙ ap (F (point_opened None)) (append_assoc ds (byte "}" ∷ []) cs)
      ∙ reads_point None ds h.0.0 h.1 h.0.1 cs

-- the character ends at most one lexeme between parts
token_one : (c : ℕ) (k : Token) → IsOne (on_token c k)
token_one c bar = tt
token_one c asterisk = tt
token_one c plus = tt
token_one c question = tt
token_one c caret = tt
token_one c dollar = tt
token_one c opening_token = tt
token_one c closing = tt
token_one c point = tt
token_one c backslash = tt
token_one c bracket = tt
token_one c brace = tt
token_one c character = tt
token_one c other = tt

module _ {S : Type 0} (b : Bool) (step : S → Lexeme → Option S) (s : S) where
  -- where the rest leads, in a mode
  abbrev go : Mode → List ℕ → Option S
  go m cs = run b step s m cs

  -- and behind what the lexer makes of a character
  abbrev go_past : Lexed → List ℕ → Option S
  go_past x cs = past b step s x cs

  -- and behind a step, between parts
  abbrev go_step : Lexeme → List ℕ → Option S
  go_step l cs = stepped b step (step s l) between cs

  -- the rest behind a whole lexeme is that behind its step
  pub goes_whole : (l : Lexeme) (cs : List ℕ) → go_past (whole l) cs ≡ go_step l cs
  goes_whole l cs = past_lexed b step s l between cs

  -- what comes before a character goes before what comes of it between parts
  pub goes_before : (l : Lexeme) (c : ℕ) (cs : List ℕ) → go_past (lexed_behind l (on_token c (token c))) cs ≡ go_step l (c ∷ cs)
  goes_before l c cs = past_behind b step s l (on_token c (token c)) cs (token_one c (token c))

  -- escapes by a number
  -- behind a part of one
  abbrev number_behind : NumberPart → List ℕ → Option S
  number_behind k cs = go (numbering k) cs

  -- behind a whole one
  abbrev number_whole : Form → ℕ → List ℕ → Option S
  number_whole f n cs = go_step (lexeme.number f n) cs

  -- the rest leads where it does behind what comes of a character of one
  number_turns : (o : NumberRead) (cs : List ℕ) → go_past (on_number o) cs ≡ follow_number number_behind number_whole o cs
  number_turns no_number cs = refl
  number_turns (number_goes k) cs = refl
  number_turns (number_ends f n) cs = goes_whole (lexeme.number f n) cs

  -- the same of a character
  turn : (k : NumberPart) (c : ℕ) (cs : List ℕ) → number_behind k (c ∷ cs) ≡ follow_number number_behind number_whole (number_next k c) cs
  turn k c cs = number_turns (number_next k c) cs

  -- properties
  -- behind a part of one
  abbrev property_behind : PropertyPart → List ℕ → Option S
  property_behind k cs = go (in_property k) cs

  -- behind a whole one
  abbrev property_whole : Bool → Expression → List ℕ → Option S
  property_whole n e cs = go_past (property_lexed n (known_if (is_property e) (property_of e))) cs

  -- the rest leads where it does behind what comes of a character of one
  property_turns : (o : PropertyRead) (cs : List ℕ) → go_past (on_property o) cs ≡ follow_property property_behind property_whole o cs
  property_turns no_property_read cs = refl
  property_turns (property_goes k) cs = refl
  property_turns (property_ends n e) cs = refl

  -- behind the backslash and the letter a brace is awaited
  property_begins : (n : Bool) (cs : List ℕ) → go between (byte "\\" ∷ property_letter n ∷ cs) ≡ go (in_property (brace_awaited n)) cs
  property_begins false cs = refl
  property_begins true cs = refl

  -- so a property is read from its spelling
  pub reads_property_escape : (n : Bool) (e : Expression) → IsPropertyExpression e → (cs : List ℕ)
      → go between (byte "\\" ∷ (property_spelling n e ++ cs)) ≡ go_step (lexeme.property n (property_of e)) cs
  reads_property_escape n e h cs =
      property_begins n (byte "{" ∷ ((expression_spelling e ++ byte "}" ∷ []) ++ cs))
      ∙ reads_property property_behind property_whole (λ k c cs. property_turns (property_next k c) cs) n e h.0 cs
      ∙ ap (λ (z : Bool). go_past (property_lexed n (known_if z (property_of e))) cs) h.1 ∙ goes_whole (lexeme.property n (property_of e)) cs

  -- names
  module _ (g : Naming) (n : List ℕ) where
    -- behind a part of an escape in a name
    abbrev name_behind : reading.Coding code_trees → List ℕ → Option S
    name_behind k cs = go (name_coding g n (coding_image k)) cs

    -- behind a whole one
    abbrev name_whole : Code → List ℕ → Option S
    name_whole d cs = go_past (with_name_char g n (code_value d)) cs

    -- the rest leads where it does behind what comes of a character of one
    name_turns : (o : reading.Coded code_trees) (cs : List ℕ) → go_past (on_name_coding g n (coded_image o)) cs ≡ follow name_behind name_whole o cs
    name_turns reading.fails cs = refl
    name_turns (reading.goes k) cs = refl
    name_turns (reading.makes d) cs = refl

    -- an escape that a name may have is read behind its backslash and letter
    name_code_begins : (d : Code) → is_unicode d ≡ true → (cs : List ℕ)
        → go (naming g n) (byte "\\" ∷ (code_spelling d ++ cs)) ≡ name_behind reading.unit_opened (code_tail d ++ cs)
    name_code_begins null_code h cs = absurd (true≢false (sym h))
    name_code_begins (letter_code c) h cs = absurd (true≢false (sym h))
    name_code_begins (byte_code ds) h cs = absurd (true≢false (sym h))
    name_code_begins (unit_code ds) h cs = refl
    name_code_begins (pair_code ds es) h cs = refl
    name_code_begins (point_code ds) h cs = refl

    -- a character of a name is read from its spelling, where it may follow
    reads_name_char : (y : NameChar) → IsNameChar (may_follow n) y → (cs : List ℕ)
        → go (naming g n) (name_char_spelling y ++ cs) ≡ go (naming g (n ++ name_char_value y ∷ [])) cs
    reads_name_char (verbatim c) h cs =
        ap (λ (k : NameToken). go_past (on_naming g n c k) cs) (token_of_name (may_follow n) (follow_apart n) c h)
        ∙ ap (λ (z : Bool). go_past (lexed_if z (under_way (naming g (n ++ c ∷ [])))) cs) h
    reads_name_char (by_code d) h cs =
        name_code_begins d h.0 cs
        ∙ reads_code name_behind name_whole
        (λ k c cs. ap (λ o. go_past (on_name_coding g n o) cs) (sym (next_coding_image k c)) ∙ name_turns (reading.coding_next k c) cs) d h.0 h.1 cs
        ∙ ap (λ (z : Bool). go_past (lexed_if z (under_way (naming g (n ++ code_value d ∷ [])))) cs) h.2

  -- characters that go on with a name are read from their spelling
  reads_name_parts : (g : Naming) (d : ℕ) (ds : List ℕ) (m : List NameChar) → AreNameParts m → (cs : List ℕ)
      → go (naming g (d ∷ ds)) (name_spelling m ++ cs) ≡ go (naming g (d ∷ (ds ++ name_value m))) cs
  reads_name_parts g d ds [] h cs = ap (λ z. go (naming g (d ∷ z)) cs) (sym (append-nil ds))
  reads_name_parts g d ds (y ∷ m) h cs =
      ap (go (naming g (d ∷ ds))) (append_assoc (name_char_spelling y) (name_spelling m) cs)
      ∙ reads_name_char g (d ∷ ds) y h.0 (name_spelling m ++ cs) ∙ reads_name_parts g d (ds ++ name_char_value y ∷ []) m h.1 cs
      ∙ ap (λ z. go (naming g (d ∷ z)) cs) (append_assoc ds (name_char_value y ∷ []) (name_value m))

  -- so a name and the `>` behind it are read
  pub reads_name : (g : Naming) (m : List NameChar) → IsName m → (cs : List ℕ)
      → go (naming g []) ((name_spelling m ++ byte ">" ∷ []) ++ cs) ≡ go_past (name_read g (name_value m)) cs
  reads_name g [] h cs = absurd h
  reads_name g (y ∷ m) h cs =
      ap (go (naming g [])) (append_assoc (name_char_spelling y ++ name_spelling m) (byte ">" ∷ []) cs
      ∙ append_assoc (name_char_spelling y) (name_spelling m) (byte ">" ∷ cs))
      ∙ reads_name_char g [] y h.0 (name_spelling m ++ byte ">" ∷ cs)
      ∙ reads_name_parts g (name_char_value y) [] m h.1 (byte ">" ∷ cs)

  -- counts
  -- digits of the first number are read
  reads_low : (ds es : List ℕ) → are_digits es ≡ true → (cs : List ℕ)
      → go (counting (low ds)) (es ++ cs) ≡ go (counting (low (ds ++ es))) cs
  reads_low ds [] h cs = ap (λ z. go (counting (low z)) cs) (sym (append-nil ds))
  reads_low ds (e ∷ es) h cs =
      ap (λ (k : CountToken). go_past (on_low ds e k) (es ++ cs)) (token_of_digit e (and_left (is_digit e) _ h))
      ∙ reads_low (ds ++ e ∷ []) es (and_right (is_digit e) _ h) cs ∙ ap (λ z. go (counting (low z)) cs) (append_assoc ds (e ∷ []) es)

  -- and of the second
  reads_high : (ds es fs : List ℕ) → are_digits fs ≡ true → (cs : List ℕ)
      → go (counting (high ds es)) (fs ++ cs) ≡ go (counting (high ds (es ++ fs))) cs
  reads_high ds es [] h cs = ap (λ z. go (counting (high ds z)) cs) (sym (append-nil es))
  reads_high ds es (f ∷ fs) h cs =
      ap (λ (k : CountToken). go_past (on_high ds es f k) (fs ++ cs)) (token_of_digit f (and_left (is_digit f) _ h))
      ∙ reads_high ds (es ++ f ∷ []) fs (and_right (is_digit f) _ h) cs ∙ ap (λ z. go (counting (high ds z)) cs) (append_assoc es (f ∷ []) fs)

  -- behind the first number, a comma and a closing brace
  reads_comma : (ds : List ℕ) → AreDecimal ds → (cs : List ℕ) → go (counting (low ds)) (byte "," ∷ cs) ≡ go (counting (high ds [])) cs
  reads_comma ds h cs = ap (λ (z : Bool). go_past (lexed_if z (under_way (counting (high ds [])))) cs) h.1

  -- behind the first number, a closing brace
  reads_exact : (ds : List ℕ) → AreDecimal ds → (cs : List ℕ)
      → go (counting (low ds)) (byte "}" ∷ cs) ≡ go_step (lexeme.repeats (bounds.Exactly (held ds))) cs
  reads_exact ds h cs =
      ap (λ (z : Bool). go_past (lexed_if z (whole (lexeme.repeats (bounds.Exactly (held ds))))) cs) h.1
      ∙ goes_whole (lexeme.repeats (bounds.Exactly (held ds))) cs

  -- and behind the second, where it is not the smaller
  reads_range : (ds es : List ℕ) → has_digits es ≡ true → number ds ≤ number es → (cs : List ℕ)
      → go_past (range_read ds es) cs ≡ go_step (lexeme.repeats (bounds.FromTo (held ds) (held es))) cs
  reads_range ds [] h m cs = absurd (true≢false (sym h))
  reads_range ds (e ∷ es) h m cs =
      ap (λ (z : Bool). go_past (lexed_if z (whole (lexeme.repeats (bounds.FromTo (held ds) (held (e ∷ es)))))) cs)
      (le-leb (number ds) (number (e ∷ es)) m)
      ∙ goes_whole (lexeme.repeats (bounds.FromTo (held ds) (held (e ∷ es)))) cs

  -- so a quantifier is read from its spelling
  pub reads_quantifier : (q : Quantifier) → IsRepetition q → (cs : List ℕ)
      → go between (quantifier_spelling q ++ cs) ≡ go_step (quantifier_lexeme q) cs
  reads_quantifier zero_or_more h cs = goes_whole (quantifier_lexeme zero_or_more) cs
  reads_quantifier one_or_more h cs = goes_whole (quantifier_lexeme one_or_more) cs
  reads_quantifier zero_or_one h cs = goes_whole (quantifier_lexeme zero_or_one) cs
  reads_quantifier (exactly ds) h cs =
      ap (go (counting (low []))) (append_assoc ds (byte "}" ∷ []) cs) ∙ reads_low [] ds h.0 (byte "}" ∷ cs) ∙ reads_exact ds h cs
  reads_quantifier (at_least ds) h cs =
      ap (go (counting (low []))) (append_assoc ds (byte "," ∷ byte "}" ∷ []) cs) ∙ reads_low [] ds h.0 (byte "," ∷ byte "}" ∷ cs)
      ∙ reads_comma ds h (byte "}" ∷ cs) ∙ goes_whole (quantifier_lexeme (at_least ds)) cs
  reads_quantifier (from_to ds es) h cs =
      ap (go (counting (low []))) (append_assoc ds (byte "," ∷ (es ++ byte "}" ∷ [])) cs)
      ∙ reads_low [] ds h.0.0 (byte "," ∷ ((es ++ byte "}" ∷ []) ++ cs)) ∙ reads_comma ds h.0 ((es ++ byte "}" ∷ []) ++ cs)
      ∙ ap (go (counting (high ds []))) (append_assoc es (byte "}" ∷ []) cs)
      ∙ reads_high ds [] es h.1.0 (byte "}" ∷ cs) ∙ reads_range ds es h.1.1 h.2 cs

module _ {S : Type 0} (b : Bool) (step : S → Lexeme → Option S) where
  -- `\u` and four digits, and the rest behind the step of their lexeme
  reads_four : (s : S) (ds : List ℕ) → IsEscape (unit_code ds) → (cs : List ℕ)
      → run b step s between (byte "\\" ∷ byte "u" ∷ (ds ++ cs)) ≡ stepped b step (step s (lexeme.number unit_form (hex_number ds))) between cs
  reads_four s ds h cs = reads_unit (number_behind b step s) (number_whole b step s) (turn b step s) ds h cs

  -- behind the step of one lexeme, a second is read
  both : (o : Option S) (l : Lexeme) (cs us : List ℕ)
      → ((t : S) → run b step t between us ≡ stepped b step (step t l) between cs)
      → stepped b step o between us ≡ stepped b step (option_and_then (λ t. step t l) o) between cs
  both None l cs us h = refl
  both (Some t) l cs us h = h t

  -- an escape by a number is read from its spelling
  pub reads_escape : (s : S) (d : Code) → IsEscape d → (cs : List ℕ)
      → run b step s between (byte "\\" ∷ (code_spelling d ++ cs)) ≡ stepped b step (take_lexemes step s (code_lexemes d)) between cs
  reads_escape s null_code h cs = goes_whole b step s (lexeme.number other_form 0) cs
  reads_escape s (letter_code c) h cs = reads_letter (number_behind b step s) (number_whole b step s) (turn b step s) c h cs
  reads_escape s (byte_code ds) h cs = reads_byte (number_behind b step s) (number_whole b step s) (turn b step s) ds h cs
  reads_escape s (unit_code ds) h cs = reads_four s ds h cs
  reads_escape s (pair_code ds es) h cs =
      let rest = byte "\\" ∷ byte "u" ∷ (es ++ cs) in
      ap (run b step s (numbering unit_opened)) (append_assoc ds (byte "\\" ∷ byte "u" ∷ es) cs)
      ∙ reads_four s ds (h.0.0.0, lead_small (hex_number ds) h.0.0.1) rest
      ∙ both (step s (lexeme.number unit_form (hex_number ds))) (lexeme.number unit_form (hex_number es)) cs rest
      (λ t. reads_four t es (h.0.1, trail_small (hex_number es) h.0.2) cs)
  reads_escape s (point_code ds) h cs = reads_braces (number_behind b step s) (number_whole b step s) (turn b step s) ds h cs

-- back references by a number
-- none of the characters is a digit
abbrev have_no_digit : List ℕ → Bool
have_no_digit ds = list_all (λ d. not (is_digit d)) ds

-- so a digit is none of them
no_one_of : (c : ℕ) (ds : List ℕ) → have_no_digit ds ≡ true → is_digit c ≡ true → is_one_of ds c ≡ false
no_one_of c [] h k = refl
no_one_of c (d ∷ ds) h k =
    ap (λ (b : Bool). b || list_any (λ e. c == e) ds)
    (is_not is_digit c d (c == d) refl k (not_false (is_digit d) (and_left (not (is_digit d)) _ h)))
    ∙ no_one_of c ds (and_right (not (is_digit d)) _ h) k

-- nor is it one that is none
no_digit : (c d : ℕ) → is_digit d ≡ false → is_digit c ≡ true → (c == d) ≡ false
no_digit c d h k = is_not is_digit c d (c == d) refl k h

-- what a character is behind a backslash, where it is none of those before
abbrev rest8 : ℕ → Escape
rest8 c = if is_one_of (codes "dDsSwW") c then set else unknown

-- or one of the letters of control characters
abbrev rest7 : ℕ → Escape
rest7 c = if is_one_of (codes "fnrtv") c then control else rest8 c

-- or a character that stands for itself
abbrev rest6 : ℕ → Escape
rest6 c = if is_one_of (codes "^$\\.*+?()[]{}|/") c then itself else rest7 c

-- or a `P`
abbrev rest5 : ℕ → Escape
rest5 c = if c == byte "P" then no_property else rest6 c

-- or a `p`
abbrev rest4 : ℕ → Escape
rest4 c = if c == byte "p" then property else rest5 c

-- or a `u`
abbrev rest3 : ℕ → Escape
rest3 c = if c == byte "u" then unicode else rest4 c

-- or an `x`
abbrev rest2 : ℕ → Escape
rest2 c = if c == byte "x" then hexadecimal else rest3 c

-- or a `c`
abbrev rest1 : ℕ → Escape
rest1 c = if c == byte "c" then letter else rest2 c

-- or a zero
abbrev rest0 : ℕ → Escape
rest0 c = if c == byte "0" then null else rest1 c

-- a digit that is no zero begins no other escape
pub escape_of_digit : (c : ℕ) → is_digit c ≡ true → (c == byte "0") ≡ false → escape c ≡ unknown
escape_of_digit c h z =
    ap (λ (b : Bool). if b then boundary else if c == byte "B" then no_boundary else rest0 c) (no_digit c (byte "b") refl h)
    ∙ ap (λ (b : Bool). if b then no_boundary else rest0 c) (no_digit c (byte "B") refl h)
    ∙ ap (λ (b : Bool). if b then null else rest1 c) z
    ∙ ap (λ (b : Bool). if b then letter else rest2 c) (no_digit c (byte "c") refl h)
    ∙ ap (λ (b : Bool). if b then hexadecimal else rest3 c) (no_digit c (byte "x") refl h)
    ∙ ap (λ (b : Bool). if b then unicode else rest4 c) (no_digit c (byte "u") refl h)
    ∙ ap (λ (b : Bool). if b then property else rest5 c) (no_digit c (byte "p") refl h)
    ∙ ap (λ (b : Bool). if b then no_property else rest6 c) (no_digit c (byte "P") refl h)
    ∙ ap (λ (b : Bool). if b then itself else rest7 c) (no_one_of c (codes "^$\\.*+?()[]{}|/") refl h)
    ∙ ap (λ (b : Bool). if b then control else rest8 c) (no_one_of c (codes "fnrtv") refl h)
    ∙ ap (λ (b : Bool). if b then set else unknown) (no_one_of c (codes "dDsSwW") refl h)

-- a small number is not held
digit_held : (c : ℕ) → is_digit c ≡ true → c - byte "0" ≡ cap_number (number (c ∷ []))
digit_held c h = small (c - byte "0") (by_digit c h)
  where
    -- the same of its value
    small : (n : ℕ) → n ≤ 9 → n ≡ cap_number (0 * 10 + n)
    small n m = grind (arith, nat_tests)

    -- that of a digit is small
    by_digit : (c : ℕ) → is_digit c ≡ true → c - byte "0" ≤ 9
    by_digit c h = grind (arith, nat_tests)

module _ {S : Type 0} (b : Bool) (step : S → Lexeme → Option S) (s : S) where
  -- digits of a back reference are read
  reads_number : (ds es : List ℕ) → are_digits es ≡ true → (cs : List ℕ)
      → go b step s (referring (cap_number (number ds))) (es ++ cs) ≡ go b step s (referring (cap_number (number (ds ++ es)))) cs
  reads_number ds [] h cs = ap (λ z. go b step s (referring (cap_number (number z))) cs) (sym (append-nil ds))
  reads_number ds (e ∷ es) h cs =
      ap (λ (z : Bool). go_past b step s (on_referring (cap_number (number ds)) e z) (es ++ cs)) (and_left (is_digit e) _ h)
      ∙ ap (λ n. go b step s (referring n) (es ++ cs)) (sym (ap cap_number (number_push 0 ds e) ∙ held_push (number ds) (e - byte "0")))
      ∙ reads_number (ds ++ e ∷ []) es (and_right (is_digit e) _ h) cs
      ∙ ap (λ z. go b step s (referring (cap_number (number z))) cs) (append_assoc ds (e ∷ []) es)

  -- at the end of the text
  ends_text : (o : Option S) → o ≡ stepped b step o between []
  ends_text None = refl
  ends_text (Some t) = refl

  -- and it ends where no digit follows
  ends_number : (n : ℕ) (cs : List ℕ) → begins_with_digit cs ≡ false → go b step s (referring n) cs ≡ go_step b step s (lexeme.reference n) cs
  ends_number n [] h = ends_text (step s (lexeme.reference n))
  ends_number n (c ∷ cs) h =
      ap (λ (z : Bool). go_past b step s (on_referring n c z) cs) h ∙ goes_before b step s (lexeme.reference n) c cs

  -- so a back reference by a number is read
  pub reads_numbered : (ds : List ℕ) → AreDecimal ds → begins_with_zero ds ≡ false → (cs : List ℕ) → begins_with_digit cs ≡ false
      → go b step s between (byte "\\" ∷ (ds ++ cs)) ≡ go_step b step s (lexeme.reference (cap_number (number ds))) cs
  reads_numbered [] h z cs w = absurd (true≢false (sym h.1))
  reads_numbered (d ∷ ds) h z cs w =
      let is = and_left (is_digit d) _ h.0 in
      ap (λ (k : Escape). go_past b step s (on_escape d k) (ds ++ cs)) (escape_of_digit d is z)
      ∙ ap (λ (z : Bool). go_past b step s (if z then under_way (referring (d - byte "0")) else if d == byte "k" then under_way calling else refused)
      (ds ++ cs)) is
      ∙ ap (λ n. go b step s (referring n) (ds ++ cs)) (digit_held d is)
      ∙ reads_number (d ∷ []) ds (and_right (is_digit d) _ h.0) cs
      ∙ ends_number (cap_number (number (d ∷ ds))) cs w
