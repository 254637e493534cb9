-- What has been read is written so, and one more character follows it.
use Rattle.std.proofs.Common.{◌≡◌, ℕ, ◌+◌, ◌*◌, ◌-◌, ◌≤◌, nat_le, ◌==◌, Bool, true, false, List, [], ◌∷◌, ◌++◌, Option, Some, None}
use Rattle.std.proofs.Common.{refl, sym, ap, subst, ◌∙◌, append_assoc, true≢false, arith, if◌then◌else◌}
use Rattle.std.proofs.lemmas.Bool.{leb-true}
use Rattle.std.proofs.lemmas.Bool.Decides.{nat_tests}
use Rattle.std.proofs.lemmas.List.{append-nil, map-append}
use Rattle.std.specs.Str.{byte}
use Rattle.strkw_regex_grammar.specs.Escapes.{Escape, itself, control, set, boundary, no_boundary, null, letter, hexadecimal, unicode, property}
use Rattle.strkw_regex_grammar.specs.Escapes.{no_property, unknown, escape}
use Rattle.strkw_regex_grammar.specs.Codes.{null_code, has_digits, code_value}
use Rattle.strkw_regex_grammar.specs.Numbers.{number, is_digit, are_digits, CountToken, digit, comma, closing_brace, no_count, count_token}
use Rattle.strkw_regex_grammar.specs.Classes.{ClassToken, closing_bracket, class_escaper, dash, class_char, class_token, class_escape, class_plain}
use Rattle.strkw_regex_grammar.specs.Classes.{hyphen, class_escaped, class_control, class_set, backspace, class_coded, class_property, no_ranges, Ranges}
use Rattle.strkw_regex_grammar.specs.Classes.{ClassAtom, is_hyphen, class_atom_spelling}
use Rattle.strkw_regex_grammar.specs.Names.{NameChar, verbatim, by_code, name_spelling, name_char_spelling, name_char_value, name_value, may_follow}
use Rattle.strkw_regex_grammar.specs.Names.{IsNameChar, Extension, uncaptured, name_opening, look_equals, look_negation, no_extension, NameToken}
use Rattle.strkw_regex_grammar.specs.Names.{name_end, name_backslash, name_equals, name_negation, name_character}
use Rattle.strkw_regex_grammar.specs.Syntax.{Token, bar as bar_token, asterisk, plus, question, caret, dollar, opening as opening_token, closing}
use Rattle.strkw_regex_grammar.specs.Syntax.{point, backslash, bracket, brace, character, other, token, zero_or_more, one_or_more}
use Rattle.strkw_regex_grammar.specs.Syntax.{zero_or_one, exactly, at_least, from_to, plain_group, named, of_group as group_of}
use Rattle.strkw_regex_grammar.specs.Syntax.{of_lookbehind, of_lookahead}
use Rattle.strkw_regex_grammar.specs.Regex.{at_start, at_end, at_boundary, at_no_boundary, plain, dot, escaped, control_escape, set_escape, coded}
use Rattle.strkw_regex_grammar.specs.Regex.{property_escape, numbered, called as calls_for, bracketed, Part, bar, edge, leaf, opens, closes, repeats}
use Rattle.strkw_regex_grammar.specs.Regex.{part_spelling, AreDecimal, AreItems, IsClassItem, is_property, begins_with_zero, IsPart}
use Rattle.strkw_regex_grammar.specs.machine.CodeReading as reading
use Rattle.strkw_regex_grammar.specs.machine.CodeReading.{two_more, unit_opened as name_unit_opened}
use Rattle.strkw_regex_grammar.specs.machine.CodeMakers.{code_trees}
use Rattle.strkw_charset.specs.Properties.{Expression, property_of, has_property_chars, property_spelling}
use Rattle.strkw_charset.specs.machine.PropertyReading.{PropertyRead, no_property_read, property_goes, property_ends}
use Rattle.strkw_regex_grammar.specs.machine.Lexemes as lexeme
use Rattle.strkw_regex_grammar.specs.machine.Lexemes.{Lexeme, lexemes, ranges_sets, single, other_form, number_item, cap_number, item_of, form}
use Rattle.strkw_regex_grammar.specs.machine.Lexing.{Naming, of_group, of_reference, Count, low, high, Class, Mode, between, escaping, opening, extending}
use Rattle.strkw_regex_grammar.specs.machine.Lexing.{class_opened, calling, counting, numbering, in_class, class_escaping, class_numbering}
use Rattle.strkw_regex_grammar.specs.machine.Lexing.{in_property, in_class_property, naming, name_escaping, name_coding, referring, Lexed, refused}
use Rattle.strkw_regex_grammar.specs.machine.Lexing.{under_way, lexed, lexed_both, whole, lexed_if, on_token, on_escape, on_number, known_if}
use Rattle.strkw_regex_grammar.specs.machine.Lexing.{property_lexed, on_property, on_extension, on_calling, with_name_char, name_read, look_read}
use Rattle.strkw_regex_grammar.specs.machine.Lexing.{on_naming, on_name_escape, on_name_coding, on_low, range_read, on_high, on_count, with_item, with_dash}
use Rattle.strkw_regex_grammar.specs.machine.Lexing.{may_close, sets_closed, within, new_class, closed_class, on_class_token, on_class_escape}
use Rattle.strkw_regex_grammar.specs.machine.Lexing.{on_class_number, class_property_lexed, on_class_property, on_bracket}
use Rattle.strkw_regex_grammar.specs.machine.NumberReading.{NumberRead, no_number, number_goes, number_ends}
use Rattle.strkw_regex_grammar.proofs.Letters.{same_char, char_of, char_of_letter, char_of_class_token, char_of_class, char_of_extension}
use Rattle.strkw_regex_grammar.proofs.Letters.{char_of_name, char_of_count, char_of_count_token}
use Rattle.strkw_regex_grammar.proofs.CodeReadings.{coding_spelling, IsCodedAs, IsCoding, IsCoded}
use Rattle.strkw_regex_grammar.proofs.CodeImages.{coding_image, coded_image}
use Rattle.strkw_regex_grammar.proofs.PropertyReadings.{part_spelling as property_part_spelling, IsReadAs, IsPart as IsPropertyPart, IsRead}
use Rattle.strkw_regex_grammar.proofs.Numbers.{digits_push, is_digit_of}
use Rattle.strkw_regex_grammar.proofs.NameParts.{IsNamePart, name_push}
use Rattle.strkw_charset.proofs.Booleans.{and_true}
use Rattle.strkw_regex_grammar.proofs.LexerWritten.{NumberText, NumberReadText}
use Rattle.strkw_regex_grammar.proofs.LexerItems.{Tail, no_tail, one_tail, dash_tail, range_tail, IsTail, class_text, ClassText, Any}
use Rattle.strkw_regex_grammar.proofs.LexerItems.{NoCaret, MakesClass, pending_of}
use Rattle.strkw_regex_grammar.proofs.LexerClasses.{Suits, suits, takes, takes_dash, ends_class}

-- what stands before a name
abbrev name_front : Naming → List ℕ
name_front of_group = byte "(" ∷ byte "?" ∷ byte "<" ∷ []
name_front of_reference = byte "\\" ∷ byte "k" ∷ byte "<" ∷ []

-- this much of a name has been read
abbrev NameText : Naming → List ℕ → List ℕ → Type 0
NameText g n w = (m : List NameChar) × IsNamePart m × (name_value m ≡ n) × (w ≡ name_front g ++ name_spelling m)

-- and of a count
abbrev CountText : Count → List ℕ → Type 0
CountText (low ds) w = (are_digits ds ≡ true) × (w ≡ byte "{" ∷ ds)
CountText (high ds es) w = AreDecimal ds × (are_digits es ≡ true) × (w ≡ byte "{" ∷ (ds ++ byte "," ∷ es))

-- the text is what may have been read behind the last term, in each mode
abbrev pub Written : Bool → Mode → List ℕ → Type 0
Written b between w = w ≡ []
Written b escaping w = w ≡ byte "\\" ∷ []
Written b opening w = w ≡ byte "(" ∷ []
Written b extending w = w ≡ byte "(" ∷ byte "?" ∷ []
Written b class_opened w = w ≡ byte "[" ∷ []
Written b calling w = w ≡ byte "\\" ∷ byte "k" ∷ []
Written b (counting n) w = CountText n w
Written b (numbering k) w = (v : List ℕ) × NumberText k v × (w ≡ byte "\\" ∷ v)
Written b (in_class p) w = ClassText b Any p w
Written b (class_escaping p) w = (v : List ℕ) × ClassText b NoCaret p v × (w ≡ v ++ byte "\\" ∷ [])
Written b (class_numbering p k) w = (v : List ℕ) × (u : List ℕ) × ClassText b NoCaret p v × NumberText k u × (w ≡ v ++ byte "\\" ∷ u)
Written b (in_property k) w = IsPropertyPart k × (w ≡ byte "\\" ∷ property_part_spelling k)
Written b (in_class_property p k) w =
    (v : List ℕ) × ClassText b NoCaret p v × IsPropertyPart k × (w ≡ v ++ byte "\\" ∷ property_part_spelling k)
Written b (naming g n) w = NameText g n w
Written b (name_escaping g n) w = (v : List ℕ) × NameText g n v × (w ≡ v ++ byte "\\" ∷ [])
Written b (name_coding g n k) w =
    (v : List ℕ) × (j : reading.Coding code_trees) × NameText g n v × IsCoding j × (coding_image j ≡ k)
    × (w ≡ v ++ byte "\\" ∷ coding_spelling j)
Written b (referring n) w = (ds : List ℕ) × AreDecimal ds × (begins_with_zero ds ≡ false) × (cap_number (number ds) ≡ n) × (w ≡ byte "\\" ∷ ds)

-- whether the part is a back reference by a number
abbrev pub is_number : Part → Bool
is_number (leaf (numbered ds)) = true
is_number p = false

-- the text is one whole part, and this its lexeme
abbrev pub Ends : Bool → List ℕ → Lexeme → Type 0
Ends b w l = (p : Part) × IsPart p × (is_number p ≡ false) × (part_spelling p ≡ w) × (lexemes b p ≡ single l)

-- the text is what comes of one more character: what is under way, or a whole part
abbrev pub Follows : Bool → List ℕ → Lexed → Type 0
Follows b w refused = Unit {0}
Follows b w (under_way m) = Written b m w
Follows b w (lexed l m) = Ends b w l × (m ≡ between)
Follows b w (lexed_both l k m) = ⊥

-- what follows where a test holds follows under it
if_follows : (b : Bool) (w : List ℕ) (z : Bool) (x : Lexed) → (z ≡ true → Follows b w x) → Follows b w (lexed_if z x)
if_follows b w false x h = tt
if_follows b w true x h = h refl

-- the same text in other brackets
pub text_follows : (b : Bool) (v w : List ℕ) (x : Lexed) → v ≡ w → Follows b v x → Follows b w x
text_follows b v w x e = subst (λ z. Follows b z x) e

-- behind any character between parts
pub token_follows : (b : Bool) (c : ℕ) (k : Token) → token c ≡ k → char_of k c ≡ c → Follows b (c ∷ []) (on_token c k)
token_follows b c bar_token t e = ((bar, tt, refl, ap (λ z. z ∷ []) e, refl), refl)
token_follows b c asterisk t e = ((repeats zero_or_more, tt, refl, ap (λ z. z ∷ []) e, refl), refl)
token_follows b c plus t e = ((repeats one_or_more, tt, refl, ap (λ z. z ∷ []) e, refl), refl)
token_follows b c question t e = ((repeats zero_or_one, tt, refl, ap (λ z. z ∷ []) e, refl), refl)
token_follows b c caret t e = ((edge at_start, tt, refl, ap (λ z. z ∷ []) e, refl), refl)
token_follows b c dollar t e = ((edge at_end, tt, refl, ap (λ z. z ∷ []) e, refl), refl)
token_follows b c opening_token t e = ap (λ z. z ∷ []) (sym e)
token_follows b c closing t e = ((closes, tt, refl, ap (λ z. z ∷ []) e, refl), refl)
token_follows b c point t e = ((leaf dot, tt, refl, ap (λ z. z ∷ []) e, refl), refl)
token_follows b c backslash t e = ap (λ z. z ∷ []) (sym e)
token_follows b c bracket t e = ap (λ z. z ∷ []) (sym e)
token_follows b c brace t e = (refl, ap (λ z. z ∷ []) (sym e))
token_follows b c character t e = ((leaf (plain c), t, refl, refl, refl), refl)
token_follows b c other t e = tt

-- a backslash and one character
-- a character that begins no other escape is no zero
is_unknown : Escape → Bool
is_unknown unknown = true
is_unknown k = false

-- so it is no zero
no_zero : (c : ℕ) (b : Bool) → (c == byte "0") ≡ b → escape c ≡ unknown → b ≡ false
unfolding is_unknown
no_zero c false e h = refl
no_zero c true e h = absurd (true≢false (sym (ap is_unknown h) ∙ ap (λ z. is_unknown (escape z)) (sym (same_char c (byte "0") e))))

-- the number of one digit is not held
one_digit_held : (c : ℕ) → is_digit c ≡ true → cap_number (number (c ∷ [])) ≡ c - byte "0"
one_digit_held c h = held_small (c - byte "0") (by_digit c h)
  where
    -- a small number is not held
    held_small : (n : ℕ) → n ≤ 9 → cap_number (0 * 10 + n) ≡ n
    held_small n m = grind (arith, nat_tests)

    -- that of a digit is small
    by_digit : (c : ℕ) → is_digit c ≡ true → c - byte "0" ≤ 9
    by_digit c h = grind (arith, nat_tests)

-- behind a backslash, what begins no other escape
reference_follows : (b : Bool) (c : ℕ) (x y : Bool) → is_digit c ≡ x → (c == byte "k") ≡ y → escape c ≡ unknown
    → Follows b (byte "\\" ∷ c ∷ []) (if x then under_way (referring (c - byte "0")) else if y then under_way calling else refused)
reference_follows b c true y e f h =
    (c ∷ [], (and_true _ _ e refl, refl), no_zero c (c == byte "0") refl h, one_digit_held c e, refl)
reference_follows b c false true e f h = ap (λ z. byte "\\" ∷ z ∷ []) (sym (same_char c (byte "k") f))
reference_follows b c false false e f h = tt

-- behind a backslash, any character
pub escape_follows : (b : Bool) (c : ℕ) (k : Escape) → escape c ≡ k → char_of_letter k c ≡ c → Follows b (byte "\\" ∷ c ∷ []) (on_escape c k)
escape_follows b c itself h e = ((leaf (escaped c), h, refl, refl, refl), refl)
escape_follows b c control h e = ((leaf (control_escape c), h, refl, refl, refl), refl)
escape_follows b c set h e = ((leaf (set_escape c), h, refl, refl, refl), refl)
escape_follows b c boundary h e = ((edge at_boundary, tt, refl, ap (λ z. byte "\\" ∷ z ∷ []) e, refl), refl)
escape_follows b c no_boundary h e = ((edge at_no_boundary, tt, refl, ap (λ z. byte "\\" ∷ z ∷ []) e, refl), refl)
escape_follows b c null h e = ((leaf (coded null_code), (tt, omega arith), refl, ap (λ z. byte "\\" ∷ z ∷ []) e, refl), refl)
escape_follows b c letter h e = (c ∷ [], ap (λ z. z ∷ []) (sym e), refl)
escape_follows b c hexadecimal h e = (c ∷ [], ([], refl, refl, refl, ap (λ z. z ∷ []) (sym e)), refl)
escape_follows b c unicode h e = (c ∷ [], ap (λ z. z ∷ []) (sym e), refl)
escape_follows b c property h e = (tt, ap (λ z. byte "\\" ∷ z ∷ []) (sym e))
escape_follows b c no_property h e = (tt, ap (λ z. byte "\\" ∷ z ∷ []) (sym e))
escape_follows b c unknown h e = reference_follows b c (is_digit c) (c == byte "k") refl refl h

-- an escape by a number
pub number_read_follows : (b : Bool) (o : NumberRead) (v : List ℕ) → NumberReadText o v → Follows b (byte "\\" ∷ v) (on_number o)
number_read_follows b no_number v h = tt
number_read_follows b (number_goes k) v h = (v, h, refl)
number_read_follows b (number_ends f n) v h = ((leaf (coded h.0), h.1, refl, ap (λ z. byte "\\" ∷ z) h.2, h.5), refl)

-- a property that the standard has
property_follows : (b n : Bool) (x : Expression) (v : List ℕ) → has_property_chars x ≡ true → property_spelling n x ≡ v
    → (z : Bool) → is_property x ≡ z → Follows b (byte "\\" ∷ v) (property_lexed n (known_if z (property_of x)))
property_follows b n x v h e false k = tt
property_follows b n x v h e true k = ((leaf (property_escape n x), (h, k), refl, ap (λ z. byte "\\" ∷ z) e, refl), refl)

-- a property
pub property_read_follows : (b : Bool) (o : PropertyRead) (v : List ℕ) → IsRead o → IsReadAs o v → Follows b (byte "\\" ∷ v) (on_property o)
property_read_follows b no_property_read v h e = tt
property_read_follows b (property_goes k) v h e = (h, ap (λ z. byte "\\" ∷ z) (sym e))
property_read_follows b (property_ends n x) v h e = property_follows b n x v h e (is_property x) refl

-- groups
-- behind `(?`
pub extension_follows : (b : Bool) (c : ℕ) (k : Extension) → char_of_extension k c ≡ c
    → Follows b (byte "(" ∷ byte "?" ∷ c ∷ []) (on_extension k)
extension_follows b c uncaptured e = ((opens (group_of plain_group), tt, refl, ap (λ z. byte "(" ∷ byte "?" ∷ z ∷ []) e, refl), refl)
extension_follows b c name_opening e = ([], tt, refl, ap (λ z. byte "(" ∷ byte "?" ∷ z ∷ []) (sym e))
extension_follows b c look_equals e = ((opens (of_lookahead false), tt, refl, ap (λ z. byte "(" ∷ byte "?" ∷ z ∷ []) e, refl), refl)
extension_follows b c look_negation e = ((opens (of_lookahead true), tt, refl, ap (λ z. byte "(" ∷ byte "?" ∷ z ∷ []) e, refl), refl)
extension_follows b c no_extension e = tt

-- behind `\k`
pub calling_follows : (b : Bool) (c : ℕ) (z : Bool) → (c == byte "<") ≡ z → Follows b (byte "\\" ∷ byte "k" ∷ c ∷ []) (on_calling z)
calling_follows b c false e = tt
calling_follows b c true e = ([], tt, refl, ap (λ z. byte "\\" ∷ byte "k" ∷ z ∷ []) (sym (same_char c (byte "<") e)))

-- names
-- the spelling of a name with one character more is that of the name, and of the character
spelling_push : (m : List NameChar) (y : NameChar) → name_spelling (m ++ y ∷ []) ≡ name_spelling m ++ name_char_spelling y
spelling_push [] y = append-nil (name_char_spelling y)
spelling_push (x ∷ m) y =
    ap (λ z. name_char_spelling x ++ z) (spelling_push m y) ∙ sym (append_assoc (name_char_spelling x) (name_spelling m) (name_char_spelling y))

-- behind a character that suits the name where it may follow
name_char_follows : (b : Bool) (g : Naming) (n v u : List ℕ) (c : ℕ) (y : NameChar) → NameText g n v → name_char_value y ≡ c → name_char_spelling y ≡ u
    → (may_follow n c ≡ true → IsNameChar (may_follow n) y) → Follows b (v ++ u) (with_name_char g n c)
name_char_follows b g n v u c y h val is f =
    if_follows b _ (may_follow n c) _ (λ e. (
      h.0 ++ y ∷ [],
      name_push h.0 y h.1 (subst (λ z. IsNameChar (may_follow z) y) (sym h.2) (f e)),
      map-append name_char_value h.0 (y ∷ []) ∙ ap (λ z. z ++ name_char_value y ∷ []) h.2 ∙ ap (λ z. n ++ z ∷ []) val,
      ap (λ z. z ++ u) h.3 ∙ append_assoc (name_front g) (name_spelling h.0) u
          ∙ ap (λ z. name_front g ++ (name_spelling h.0 ++ z)) (sym is) ∙ ap (λ z. name_front g ++ z) (sym (spelling_push h.0 y)),
    ))

-- behind the end of a name
name_end_follows : (b : Bool) (g : Naming) (m : List NameChar) → IsNamePart m
    → Follows b ((name_front g ++ name_spelling m) ++ byte ">" ∷ []) (name_read g (name_value m))
name_end_follows b of_group [] h = tt
name_end_follows b of_reference [] h = tt
name_end_follows b of_group (y ∷ m) h = ((opens (group_of (named (y ∷ m))), h, refl, refl, refl), refl)
name_end_follows b of_reference (y ∷ m) h = ((leaf (calls_for (y ∷ m)), h, refl, refl, refl), refl)

-- behind the beginning of a lookbehind
look_follows : (b : Bool) (g : Naming) (m : List NameChar) (c : ℕ) (z : Bool) → part_spelling (opens (of_lookbehind z)) ≡ name_front of_group ++ c ∷ []
    → Follows b ((name_front g ++ name_spelling m) ++ c ∷ []) (look_read g (name_value m) z)
look_follows b of_group [] c z e = ((opens (of_lookbehind z), tt, refl, e, refl), refl)
look_follows b of_reference [] c z e = tt
look_follows b of_group (y ∷ m) c z e = tt
look_follows b of_reference (y ∷ m) c z e = tt

-- behind any character in a name
pub naming_follows : (b : Bool) (g : Naming) (n v : List ℕ) (c : ℕ) (k : NameToken) → NameText g n v → char_of_name k c ≡ c
    → Follows b (v ++ c ∷ []) (on_naming g n c k)
naming_follows b g n v c name_end h e =
    subst (λ z. Follows b (v ++ c ∷ []) (name_read g z)) h.2
    (text_follows b _ _ (name_read g (name_value h.0)) (ap (λ z. z ++ byte ">" ∷ []) (sym h.3) ∙ ap (λ z. v ++ z ∷ []) e)
    (name_end_follows b g h.0 h.1))
naming_follows b g n v c name_backslash h e = (v, h, ap (λ z. v ++ z ∷ []) (sym e))
naming_follows b g n v c name_equals h e =
    subst (λ z. Follows b (v ++ c ∷ []) (look_read g z false)) h.2
    (text_follows b _ _ (look_read g (name_value h.0) false) (ap (λ z. z ++ c ∷ []) (sym h.3))
    (look_follows b g h.0 c false (ap (λ z. byte "(" ∷ byte "?" ∷ byte "<" ∷ z ∷ []) e)))
naming_follows b g n v c name_negation h e =
    subst (λ z. Follows b (v ++ c ∷ []) (look_read g z true)) h.2
    (text_follows b _ _ (look_read g (name_value h.0) true) (ap (λ z. z ++ c ∷ []) (sym h.3))
    (look_follows b g h.0 c true (ap (λ z. byte "(" ∷ byte "?" ∷ byte "<" ∷ z ∷ []) e)))
naming_follows b g n v c name_character h e = name_char_follows b g n v (c ∷ []) c (verbatim c) h refl refl (λ f. f)

-- behind the character that follows a backslash there
pub name_escape_follows : (b : Bool) (g : Naming) (n v : List ℕ) (c : ℕ) (z : Bool) → (c == byte "u") ≡ z → NameText g n v
    → Follows b ((v ++ byte "\\" ∷ []) ++ c ∷ []) (on_name_escape g n z)
name_escape_follows b g n v c false e h = tt
name_escape_follows b g n v c true e h = (
  v,
  reading.unit_opened,
  h,
  tt,
  refl,
  append_assoc v (byte "\\" ∷ []) (c ∷ []) ∙ ap (λ z. v ++ byte "\\" ∷ z ∷ []) (sym (same_char c (byte "u") e)),
)

-- and behind a part of an escape there, or a whole one
pub name_coded_follows : (b : Bool) (g : Naming) (n v u : List ℕ) (o : reading.Coded code_trees) → NameText g n v → IsCoded o → IsCodedAs o u
    → Follows b (v ++ byte "\\" ∷ u) (on_name_coding g n (coded_image o))
name_coded_follows b g n v u reading.fails h f e = tt
name_coded_follows b g n v u (reading.goes k) h f e = (v, k, h, f, refl, ap (λ z. v ++ byte "\\" ∷ z) (sym e))
name_coded_follows b g n v u (reading.makes d) h f e =
    name_char_follows b g n v (byte "\\" ∷ u) (code_value d) (by_code d) h refl (ap (λ z. byte "\\" ∷ z) e) (λ m. (f.0, f.1, m))

-- counts
-- behind any character in the first number
low_follows : (b : Bool) (ds : List ℕ) (c : ℕ) (k : CountToken) → count_token c ≡ k → char_of_count k c ≡ c → are_digits ds ≡ true
    → Follows b (byte "{" ∷ (ds ++ c ∷ [])) (on_low ds c k)
low_follows b ds c digit t e h = (digits_push ds c h (is_digit_of c t), refl)
low_follows b ds c comma t e h =
    if_follows b _ (has_digits ds) _ (λ some. ((h, some), refl, ap (λ z. byte "{" ∷ (ds ++ z ∷ [])) (sym e)))
low_follows b ds c closing_brace t e h =
    if_follows b _ (has_digits ds) _ (λ some. ((repeats (exactly ds), (h, some), refl, ap (λ z. byte "{" ∷ (ds ++ z ∷ [])) e, refl), refl))
low_follows b ds c no_count t e h = tt

-- behind the brace that closes a count with a comma
range_follows : (b : Bool) (ds es : List ℕ) (c : ℕ) → byte "}" ≡ c → AreDecimal ds → are_digits es ≡ true
    → Follows b (byte "{" ∷ (ds ++ byte "," ∷ (es ++ c ∷ []))) (range_read ds es)
range_follows b ds [] c e h w = ((repeats (at_least ds), h, refl, ap (λ z. byte "{" ∷ (ds ++ byte "," ∷ z ∷ [])) e, refl), refl)
range_follows b ds (d ∷ es) c e h w =
    if_follows b _ (nat_le (number ds) (number (d ∷ es))) _ (λ m. (
      (
        repeats (from_to ds (d ∷ es)),
        (h, (w, refl), leb-true (number ds) (number (d ∷ es)) m),
        refl,
        ap (λ z. byte "{" ∷ (ds ++ byte "," ∷ ((d ∷ es) ++ z ∷ []))) e,
        refl,
      ),
      refl,
    ))

-- behind any character in the second number
high_follows : (b : Bool) (ds es : List ℕ) (c : ℕ) (k : CountToken) → count_token c ≡ k → char_of_count k c ≡ c → AreDecimal ds → are_digits es ≡ true
    → Follows b (byte "{" ∷ (ds ++ byte "," ∷ (es ++ c ∷ []))) (on_high ds es c k)
high_follows b ds es c digit t e h w = (h, digits_push es c w (is_digit_of c t), refl)
high_follows b ds es c comma t e h w = tt
high_follows b ds es c closing_brace t e h w = range_follows b ds es c e h w
high_follows b ds es c no_count t e h w = tt

-- so it is behind any character of a count
pub counting_follows : (b : Bool) (n : Count) (w : List ℕ) (c : ℕ) → CountText n w → Follows b (w ++ c ∷ []) (on_count n c)
counting_follows b (low ds) w c h =
    text_follows b _ _ (on_count (low ds) c) (ap (λ z. z ++ c ∷ []) (sym h.1)) (low_follows b ds c (count_token c) refl (char_of_count_token c) h.0)
counting_follows b (high ds es) w c h =
    text_follows b _ _ (on_count (high ds es) c)
    (ap (λ z. byte "{" ∷ z) (sym (append_assoc ds (byte "," ∷ es) (c ∷ []))) ∙ ap (λ z. z ++ c ∷ []) (sym h.2))
    (high_follows b ds es c (count_token c) refl (char_of_count_token c) h.0 h.1)

-- classes
-- behind a class that was made
within_follows : (b : Bool) (o : Option Class) (w : List ℕ) → MakesClass b o w → Follows b w (within o)
within_follows b None w h = tt
within_follows b (Some k) w h = h

-- the same in other brackets
class_follows : (b : Bool) (o : Option Class) (v w : List ℕ) → v ≡ w → MakesClass b o v → Follows b w (within o)
class_follows b o v w e h = within_follows b o w (subst (MakesClass b o) e h)

-- behind an atom that suits what is pending, in a class that has been read so
takes_text : (b : Bool) (A : ClassAtom → Type 0) (k : Class) (v w : List ℕ) (y : ClassAtom) → (h : ClassText b A k v) → IsClassItem y
    → Suits A h.2 y → v ++ class_atom_spelling y ≡ w → Follows b w (within (with_item k (item_of y)))
takes_text b A k v w y h i f e =
    class_follows b (with_item k (item_of y)) _ w (ap (λ z. z ++ class_atom_spelling y) (sym h.6) ∙ e)
    (subst (λ z. MakesClass b (with_item z (item_of y)) (class_text h.0 h.1 h.2 ++ class_atom_spelling y)) h.5
    (takes b h.0 h.1 h.3 A h.2 y h.4 i f))

-- what may be pending before any atom with A may be before an escape
escapes_text : (b : Bool) (A : ClassAtom → Type 0) (k : Class) (v : List ℕ) → ((y : ClassAtom) → NoCaret y → A y) → ClassText b A k v → ClassText b NoCaret k v
escapes_text b A k v a h = (h.0, h.1, h.2, h.3, escapes_tail h.2 h.4, h.5, h.6)
  where
    -- the same of what is pending alone
    escapes_tail : (t : Tail) → IsTail A h.0 h.1 t → IsTail NoCaret h.0 h.1 t
    escapes_tail no_tail g = (λ y w. g.0 y (a y w), g.1)
    escapes_tail (one_tail x) g = g
    escapes_tail (dash_tail x) g = g
    escapes_tail (range_tail x z) g = g

-- behind the bracket that closes a class
closed_follows : (b : Bool) (A : ClassAtom → Type 0) (v : List ℕ) (n : Bool) (r : Ranges) (t : Tail) → AreItems n r → IsTail A n r t → v ≡ class_text n r t
    → (z : Bool) → may_close (pending_of t) ≡ z
    → Follows b (v ++ byte "]" ∷ []) (lexed_if z (whole (lexeme.class n (sets_closed (pending_of t) (ranges_sets b r)))))
closed_follows b A v n r t i h e false m = tt
closed_follows b A v n r t i h e true m =
    let ended = ends_class b n r i A t h m in (
      (
        leaf (bracketed n ended.0 ended.1),
        ended.2,
        refl,
        ended.3 ∙ ap (λ z. z ++ byte "]" ∷ []) (sym e),
        ap (λ o. single (lexeme.class n o)) ended.4,
      ),
      refl,
    )

-- behind any character in a class
pub class_token_follows : (b : Bool) (A : ClassAtom → Type 0) (p : Class) (v : List ℕ) (c : ℕ) (k : ClassToken) → class_token c ≡ k
    → char_of_class k c ≡ c → ClassText b A p v → ((y : ClassAtom) → NoCaret y → A y) → A (class_plain c)
    → Follows b (v ++ c ∷ []) (on_class_token p c k)
class_token_follows b A p v c closing_bracket t e h a w =
    text_follows b _ _ (closed_class p) (ap (λ z. v ++ z ∷ []) e)
    (subst (λ z. Follows b (v ++ byte "]" ∷ []) (closed_class z)) h.5
    (closed_follows b A v h.0 h.1 h.2 h.3 h.4 h.6 (may_close (pending_of h.2)) refl))
class_token_follows b A p v c class_escaper t e h a w = (v, escapes_text b A p v a h, ap (λ z. v ++ z ∷ []) (sym e))
class_token_follows b A p v c dash t e h a w =
    class_follows b (with_dash p) _ _ (ap (λ z. z ++ byte "-" ∷ []) (sym h.6) ∙ ap (λ z. v ++ z ∷ []) e)
    (subst (λ z. MakesClass b (with_dash z) (class_text h.0 h.1 h.2 ++ byte "-" ∷ [])) h.5 (takes_dash b h.0 h.1 h.3 A h.2 h.4 (a hyphen refl)))
class_token_follows b A p v c class_char t e h a w =
    takes_text b A p v _ (class_plain c) h t (suits A h.2 (class_plain c) w refl) refl

-- behind an escape in a class, whose atom is no `^` and no `-`
escape_text : (b : Bool) (p : Class) (v w : List ℕ) (y : ClassAtom) → ClassText b NoCaret p v → IsClassItem y → NoCaret y → is_hyphen y ≡ false
    → v ++ class_atom_spelling y ≡ w → Follows b w (within (with_item p (item_of y)))
escape_text b p v w y h k n m e = takes_text b NoCaret p v w y h k (suits NoCaret h.2 y n m) e

-- behind the character that follows a backslash in a class
pub class_escape_follows : (b : Bool) (p : Class) (v : List ℕ) (c : ℕ) (k : Escape) → class_escape c ≡ k → char_of_letter k c ≡ c → ClassText b NoCaret p v
    → Follows b (v ++ byte "\\" ∷ c ∷ []) (on_class_escape p c k)
class_escape_follows b p v c itself t e h = escape_text b p v _ (class_escaped c) h t refl refl refl
class_escape_follows b p v c control t e h = escape_text b p v _ (class_control c) h t refl refl refl
class_escape_follows b p v c set t e h = escape_text b p v _ (class_set c) h t refl refl refl
class_escape_follows b p v c boundary t e h = escape_text b p v _ backspace h tt refl refl (ap (λ z. v ++ byte "\\" ∷ z ∷ []) e)
class_escape_follows b p v c no_boundary t e h = tt
class_escape_follows b p v c null t e h =
    escape_text b p v _ (class_coded null_code) h (tt, omega arith) refl refl (ap (λ z. v ++ byte "\\" ∷ z ∷ []) e)
class_escape_follows b p v c letter t e h = (v, c ∷ [], h, ap (λ z. z ∷ []) (sym e), refl)
class_escape_follows b p v c hexadecimal t e h = (v, c ∷ [], h, ([], refl, refl, refl, ap (λ z. z ∷ []) (sym e)), refl)
class_escape_follows b p v c unicode t e h = (v, c ∷ [], h, ap (λ z. z ∷ []) (sym e), refl)
class_escape_follows b p v c property t e h = (v, h, tt, ap (λ z. v ++ byte "\\" ∷ z ∷ []) (sym e))
class_escape_follows b p v c no_property t e h = (v, h, tt, ap (λ z. v ++ byte "\\" ∷ z ∷ []) (sym e))
class_escape_follows b p v c unknown t e h = tt

-- behind a part of an escape by a number in a class, or a whole one
pub class_number_follows : (b : Bool) (p : Class) (v u : List ℕ) (o : NumberRead) → ClassText b NoCaret p v → NumberReadText o u
    → Follows b (v ++ byte "\\" ∷ u) (on_class_number p o)
class_number_follows b p v u no_number h k = tt
class_number_follows b p v u (number_goes j) h k = (v, u, h, k, refl)
class_number_follows b p v u (number_ends f n) h k =
    subst (λ z. Follows b (v ++ byte "\\" ∷ u) (within (with_item p (number_item z n)))) k.3
    (subst (λ z. Follows b (v ++ byte "\\" ∷ u) (within (with_item p (number_item (form k.0) z)))) k.4
    (escape_text b p v _ (class_coded k.0) h k.1 refl refl (ap (λ z. v ++ byte "\\" ∷ z) k.2)))

-- a property in a class, where the standard has it
known_follows : (b : Bool) (p : Class) (v u : List ℕ) (n : Bool) (x : Expression) → ClassText b NoCaret p v → has_property_chars x ≡ true
    → property_spelling n x ≡ u → (z : Bool) → is_property x ≡ z
    → Follows b (v ++ byte "\\" ∷ u) (class_property_lexed p n (known_if z (property_of x)))
known_follows b p v u n x h f e false k = tt
known_follows b p v u n x h f e true k = escape_text b p v _ (class_property n x) h (f, k) refl refl (ap (λ z. v ++ byte "\\" ∷ z) e)

-- and behind a part of a property there, or a whole one
pub class_property_follows : (b : Bool) (p : Class) (v u : List ℕ) (o : PropertyRead) → ClassText b NoCaret p v → IsRead o → IsReadAs o u
    → Follows b (v ++ byte "\\" ∷ u) (on_class_property p o)
class_property_follows b p v u no_property_read h f e = tt
class_property_follows b p v u (property_goes k) h f e = (v, h, f, ap (λ z. v ++ byte "\\" ∷ z) (sym e))
class_property_follows b p v u (property_ends n x) h f e = known_follows b p v u n x h f e (is_property x) refl

-- behind the character that follows `[`
pub bracket_follows : (b : Bool) (c : ℕ) (z : Bool) → (c == byte "^") ≡ z → Follows b (byte "[" ∷ c ∷ []) (on_bracket b c z)
bracket_follows b c false e =
    class_token_follows b NoCaret (new_class b false) (byte "[" ∷ []) c (class_token c) refl (char_of_class_token c)
    (false, no_ranges, no_tail, tt, (λ y w. w, refl), refl, refl) (λ y w. w) e
bracket_follows b c true e =
    (true, no_ranges, no_tail, tt, (λ y w. tt, refl), refl, ap (λ z. byte "[" ∷ z ∷ []) (sym (same_char c (byte "^") e)))
