-- What a reader of lexemes reads is spelled by parts, and it takes their steps.
use Rattle.std.proofs.Common.{◌≡◌, ◌⊎◌, inl, inr, ◌&&◌, ℕ, ◌+◌, ◌*◌, ◌-◌, ◌==◌, Bool, true, false, List, [], ◌∷◌, ◌++◌, Option, Some, None, refl, sym}
use Rattle.std.proofs.Common.{ap, subst, ◌∙◌, append_assoc, true≢false}
use Rattle.std.specs.Prelude.{option_and_then, is_some}
use Rattle.std.specs.Str.{byte}
use Rattle.strkw_regex_grammar.specs.Escapes.{escape}
use Rattle.strkw_regex_grammar.specs.Numbers.{number, is_digit}
use Rattle.strkw_regex_grammar.specs.Classes.{class_token, class_escape}
use Rattle.strkw_regex_grammar.specs.Names.{extension, name_token}
use Rattle.strkw_regex_grammar.specs.Syntax.{token, capturing, of_group as group_of}
use Rattle.strkw_regex_grammar.specs.Regex.{plain, dot, escaped, control_escape, set_escape, coded, property_escape, numbered, called as calls_for}
use Rattle.strkw_regex_grammar.specs.Regex.{bracketed, Part, bar, edge, leaf, opens, closes, repeats, part_spelling, spelling, AreDecimal}
use Rattle.strkw_regex_grammar.specs.Regex.{begins_with_zero, begins_with_digit, begins_with_trail, IsEscape, IsPart, MayPrecede, AreParts}
use Rattle.strkw_regex_grammar.specs.Codes.{null_code, letter_code, byte_code, unit_code, pair_code, point_code, hex_number, is_lead, is_trail}
use Rattle.strkw_regex_grammar.specs.machine.CodeReading as reading
use Rattle.strkw_regex_grammar.specs.machine.CodeReading.{coding_next}
use Rattle.strkw_charset.specs.machine.PropertyReading.{property_next}
use Rattle.strkw_regex_grammar.specs.machine.NumberReading.{number_next}
use Rattle.strkw_regex_grammar.specs.machine.Lexemes.{number as number_lexeme, unit_form, Lexeme, lexemes, single, reference, begins, capture, cap_number}
use Rattle.strkw_regex_grammar.specs.machine.Lexing.{Mode, between, escaping, opening, extending, class_opened, calling, counting, numbering}
use Rattle.strkw_regex_grammar.specs.machine.Lexing.{in_class, class_escaping, class_numbering, in_property, in_class_property, naming}
use Rattle.strkw_regex_grammar.specs.machine.Lexing.{name_escaping, name_coding, referring, Lexed, refused, under_way, lexed, lexed_both}
use Rattle.strkw_regex_grammar.specs.machine.Lexing.{on_token, on_escape, on_referring, on_number, on_property, on_group, on_extension}
use Rattle.strkw_regex_grammar.specs.machine.Lexing.{on_calling, on_name_escape, on_name_coding, on_class_escape, on_class_number}
use Rattle.strkw_regex_grammar.specs.machine.Lexing.{on_class_property, on_bracket, lex_next, read_end}
use Rattle.strkw_regex_grammar.proofs.Letters.{same_char, char_of_token, char_of_escape, char_of_class_token, char_of_class_escape}
use Rattle.strkw_regex_grammar.proofs.Letters.{char_of_extension_token, char_of_name_token}
use Rattle.strkw_regex_grammar.proofs.CodeReadings.{coding_spelling, coding_as, coding_formed}
use Rattle.strkw_regex_grammar.proofs.CodeImages.{coded_image, next_coding_image}
use Rattle.strkw_regex_grammar.proofs.PropertyReadings.{part_spelling as property_part_spelling, property_as, property_formed}
use Rattle.strkw_regex_grammar.proofs.Numbers.{digits_push, number_push, held_push}
use Rattle.strkw_regex_grammar.proofs.LexerRuns.{Stops, take_lexemes, part_steps, run, past, stepped, past_lexed}
use Rattle.strkw_regex_grammar.proofs.LexerReads.{goes_before}
use Rattle.strkw_regex_grammar.proofs.LexerWritten.{number_follows}
use Rattle.strkw_regex_grammar.proofs.LexerItems.{Any, and_false, pair_is_item}
use Rattle.strkw_regex_grammar.proofs.LexerFollows.{Written, is_number, Follows, text_follows, token_follows, escape_follows}
use Rattle.strkw_regex_grammar.proofs.LexerFollows.{number_read_follows, property_read_follows, extension_follows, calling_follows, naming_follows}
use Rattle.strkw_regex_grammar.proofs.LexerFollows.{name_escape_follows, name_coded_follows, counting_follows, class_token_follows}
use Rattle.strkw_regex_grammar.proofs.LexerFollows.{class_escape_follows, class_number_follows, class_property_follows, bracket_follows}

-- the mode holds nothing that ends with the character before this one
abbrev pub IsWaiting : Mode → Type 0
IsWaiting opening = ⊥
IsWaiting (referring n) = ⊥
IsWaiting m = Unit {0}

-- the text with one more character in other brackets
again : (v u : List ℕ) (c : ℕ) → v ++ byte "\\" ∷ (u ++ c ∷ []) ≡ (v ++ byte "\\" ∷ u) ++ c ∷ []
again v u c = sym (append_assoc v (byte "\\" ∷ u) (c ∷ []))

-- behind any character, in any mode in which nothing waits for it
pub next_follows : (b : Bool) (m : Mode) (w : List ℕ) (c : ℕ) → IsWaiting m → Written b m w → Follows b (w ++ c ∷ []) (lex_next b m c)
next_follows b between w c i h =
    text_follows b _ _ (on_token c (token c)) (ap (λ z. z ++ c ∷ []) (sym h)) (token_follows b c (token c) refl (char_of_token c))
next_follows b escaping w c i h =
    text_follows b _ _ (on_escape c (escape c)) (ap (λ z. z ++ c ∷ []) (sym h)) (escape_follows b c (escape c) refl (char_of_escape c))
next_follows b opening w c i h = absurd i
next_follows b extending w c i h =
    text_follows b _ _ (on_extension (extension c)) (ap (λ z. z ++ c ∷ []) (sym h)) (extension_follows b c (extension c) (char_of_extension_token c))
next_follows b class_opened w c i h =
    text_follows b _ _ (on_bracket b c (c == byte "^")) (ap (λ z. z ++ c ∷ []) (sym h)) (bracket_follows b c (c == byte "^") refl)
next_follows b calling w c i h =
    text_follows b _ _ (on_calling (c == byte "<")) (ap (λ z. z ++ c ∷ []) (sym h)) (calling_follows b c (c == byte "<") refl)
next_follows b (counting n) w c i h = counting_follows b n w c h
next_follows b (numbering k) w c i h =
    text_follows b _ _ (on_number (number_next k c)) (ap (λ z. z ++ c ∷ []) (sym h.2))
    (number_read_follows b (number_next k c) (h.0 ++ c ∷ []) (number_follows k h.0 c h.1))
next_follows b (in_class p) w c i h =
    class_token_follows b Any p w c (class_token c) refl (char_of_class_token c) h (λ y k. tt) tt
next_follows b (class_escaping p) w c i h =
    text_follows b _ _ (on_class_escape p c (class_escape c)) (again h.0 [] c ∙ ap (λ z. z ++ c ∷ []) (sym h.2))
    (class_escape_follows b p h.0 c (class_escape c) refl (char_of_class_escape c) h.1)
next_follows b (class_numbering p k) w c i h =
    text_follows b _ _ (on_class_number p (number_next k c)) (again h.0 h.1 c ∙ ap (λ z. z ++ c ∷ []) (sym h.4))
    (class_number_follows b p h.0 (h.1 ++ c ∷ []) (number_next k c) h.2 (number_follows k h.1 c h.3))
next_follows b (in_property k) w c i h =
    text_follows b _ _ (on_property (property_next k c)) (ap (λ z. z ++ c ∷ []) (sym h.1))
    (property_read_follows b (property_next k c) (property_part_spelling k ++ c ∷ []) (property_formed k c h.0) (property_as k c))
next_follows b (in_class_property p k) w c i h =
    text_follows b _ _ (on_class_property p (property_next k c)) (again h.0 (property_part_spelling k) c ∙ ap (λ z. z ++ c ∷ []) (sym h.3))
    (class_property_follows b p h.0 (property_part_spelling k ++ c ∷ []) (property_next k c) h.1 (property_formed k c h.2) (property_as k c))
next_follows b (naming g n) w c i h = naming_follows b g n w c (name_token c) h (char_of_name_token c)
next_follows b (name_escaping g n) w c i h =
    text_follows b _ _ (on_name_escape g n (c == byte "u")) (ap (λ z. z ++ c ∷ []) (sym h.2))
    (name_escape_follows b g n h.0 c (c == byte "u") refl h.1)
next_follows b (name_coding g n k) w c i h =
    subst (λ o. Follows b (w ++ c ∷ []) (on_name_coding g n o)) (next_coding_image h.1 c ∙ ap (λ z. coding_next z c) h.4)
    (text_follows b _ _ (on_name_coding g n (coded_image (reading.coding_next h.1 c))) (again h.0 (coding_spelling h.1) c ∙ ap (λ z. z ++ c ∷ []) (sym h.5))
    (name_coded_follows b g n h.0 (coding_spelling h.1 ++ c ∷ []) (reading.coding_next h.1 c) h.2 (coding_formed h.1 c h.3) (coding_as h.1 c)))
next_follows b (referring n) w c i h = absurd i

-- the whole text
-- parts that are spelled so, and whose steps lead there
pub record Parted {S : Type 0} (b : Bool) (step : S → Lexeme → Option S) (s t : S) (text : List ℕ) : Type 0 where
  pub parts : List Part
  pub formed : AreParts parts
  pub spelled : spelling parts ≡ text
  pub way : part_steps b step s parts ≡ Some t

-- any text may stand behind a part that is no back reference by a number
pub stops : (p : Part) (cs : List ℕ) → is_number p ≡ false → Stops p cs
stops bar cs h = tt
stops (edge e) cs h = tt
stops (leaf (plain c)) cs h = tt
stops (leaf dot) cs h = tt
stops (leaf (escaped c)) cs h = tt
stops (leaf (control_escape c)) cs h = tt
stops (leaf (set_escape c)) cs h = tt
stops (leaf (coded k)) cs h = tt
stops (leaf (property_escape n e)) cs h = tt
stops (leaf (numbered ds)) cs h = absurd (true≢false h)
stops (leaf (calls_for n)) cs h = tt
stops (leaf (bracketed n r e)) cs h = tt
stops (opens e) cs h = tt
stops closes cs h = tt
stops (repeats q) cs h = tt

-- parts begin with `\u` and a trailing surrogate, or they do not
abbrev TrailView : List Part → Type 0
TrailView ps =
    ((es : List ℕ) × (qs : List Part) × (ps ≡ leaf (coded (unit_code es)) ∷ qs) × (is_trail (hex_number es) ≡ true)) ⊎ (begins_with_trail ps ≡ false)

-- the same of `\u` and four digits
unit_view : (es : List ℕ) (ps : List Part) (z : Bool) → is_trail (hex_number es) ≡ z → TrailView (leaf (coded (unit_code es)) ∷ ps)
unit_view es ps true e = inl (es, ps, refl, e)
unit_view es ps false e = inr e

-- so it is with all parts
trail_view : (ps : List Part) → TrailView ps
trail_view [] = inr refl
trail_view (bar ∷ ps) = inr refl
trail_view (edge e ∷ ps) = inr refl
trail_view (leaf (plain c) ∷ ps) = inr refl
trail_view (leaf dot ∷ ps) = inr refl
trail_view (leaf (escaped c) ∷ ps) = inr refl
trail_view (leaf (control_escape c) ∷ ps) = inr refl
trail_view (leaf (set_escape c) ∷ ps) = inr refl
trail_view (leaf (coded null_code) ∷ ps) = inr refl
trail_view (leaf (coded (letter_code c)) ∷ ps) = inr refl
trail_view (leaf (coded (byte_code ds)) ∷ ps) = inr refl
trail_view (leaf (coded (pair_code ds es)) ∷ ps) = inr refl
trail_view (leaf (coded (point_code ds)) ∷ ps) = inr refl
trail_view (leaf (property_escape n e) ∷ ps) = inr refl
trail_view (leaf (numbered ds) ∷ ps) = inr refl
trail_view (leaf (calls_for n) ∷ ps) = inr refl
trail_view (leaf (bracketed n r e) ∷ ps) = inr refl
trail_view (opens e ∷ ps) = inr refl
trail_view (closes ∷ ps) = inr refl
trail_view (repeats q ∷ ps) = inr refl
trail_view (leaf (coded (unit_code es)) ∷ ps) = unit_view es ps (is_trail (hex_number es)) refl

-- digits with one more have a digit, and begin with no zero where they began with none
pub more_digits : (ds : List ℕ) (c : ℕ) → AreDecimal ds → is_digit c ≡ true → begins_with_zero ds ≡ false
    → (AreDecimal (ds ++ c ∷ []) × (begins_with_zero (ds ++ c ∷ []) ≡ false))
more_digits [] c h k z = absurd (true≢false (sym h.1))
more_digits (d ∷ ds) c h k z = ((digits_push (d ∷ ds) c h.0 k, refl), z)

-- none is some
none_some : {S : Type 0} (t : S) → None ≡ Some t → ⊥
none_some t e = true≢false (sym (ap is_some e))

module _ {S : Type 0} (b : Bool) (step : S → Lexeme → Option S) (t : S) where
  -- a text that is read so in other brackets
  same_read : (s : S) (v w : List ℕ) → v ≡ w → Parted b step s t v → Parted b step s t w
  same_read s v w e r = subst (Parted b step s t) e r

  -- a part before what is read, where it may stand there
  prepend : (s u : S) (p : Part) (l : Lexeme) (w cs : List ℕ) → IsPart p → part_spelling p ≡ w → lexemes b p ≡ single l → step s l ≡ Some u
      → (r : Parted b step u t cs) → MayPrecede p r.parts → Parted b step s t (w ++ cs)
  prepend s u p l w cs f is e k r m = record {
    parts = p ∷ r.parts;
    formed = (f, m, r.formed);
    spelled = ap (λ z. z ++ spelling r.parts) is ∙ ap (λ z. w ++ z) r.spelled;
    way = ap (λ z. option_and_then (λ q. part_steps b step q r.parts) (take_lexemes step s z)) e
        ∙ ap (option_and_then (λ q. part_steps b step q r.parts)) k ∙ r.way;
  }

  -- a leading surrogate before a trailing one
  pair_before : (s u : S) (ds es : List ℕ) (qs : List Part) (cs : List ℕ) → IsEscape (unit_code ds) → is_lead (hex_number ds) ≡ true
      → is_trail (hex_number es) ≡ true → step s (number_lexeme unit_form (hex_number ds)) ≡ Some u → (r : Parted b step u t cs)
      → r.parts ≡ leaf (coded (unit_code es)) ∷ qs → Parted b step s t ((byte "\\" ∷ byte "u" ∷ ds) ++ cs)
  pair_before s u ds es qs cs f l m k r is =
      let formed = subst AreParts is r.formed in
      record {
        parts = leaf (coded (pair_code ds es)) ∷ qs;
        formed = (pair_is_item ds es f formed.0 l m, refl, formed.2);
        spelled =
            ap (λ z. byte "\\" ∷ byte "u" ∷ z) (append_assoc ds (byte "\\" ∷ byte "u" ∷ es) (spelling qs))
            ∙ ap (λ z. byte "\\" ∷ byte "u" ∷ (ds ++ z)) (ap spelling (sym is) ∙ r.spelled);
        way =
            ap (λ z. option_and_then (λ q. part_steps b step q qs) (option_and_then (λ q. step q (number_lexeme unit_form (hex_number es))) z)) k
            ∙ ap (part_steps b step u) (sym is) ∙ r.way;
      }

  -- `\u` and four digits before what is read
  unit_before : (s u : S) (ds cs : List ℕ) → IsEscape (unit_code ds) → step s (number_lexeme unit_form (hex_number ds)) ≡ Some u → (r : Parted b step u t cs)
      → TrailView r.parts → (z : Bool) → is_lead (hex_number ds) ≡ z → Parted b step s t ((byte "\\" ∷ byte "u" ∷ ds) ++ cs)
  unit_before s u ds cs f k r (inl v) true e = pair_before s u ds v.0 v.1 cs f e v.3 k r v.2
  unit_before s u ds cs f k r v false e =
      prepend s u (leaf (coded (unit_code ds))) (number_lexeme unit_form (hex_number ds)) (byte "\\" ∷ byte "u" ∷ ds) cs f refl refl k r
      (ap (λ z. z && begins_with_trail r.parts) e)
  unit_before s u ds cs f k r (inr v) true e =
      prepend s u (leaf (coded (unit_code ds))) (number_lexeme unit_form (hex_number ds)) (byte "\\" ∷ byte "u" ∷ ds) cs f refl refl k r
      (and_false (is_lead (hex_number ds)) (begins_with_trail r.parts) v)

  -- and any part
  before : (s u : S) (p : Part) (l : Lexeme) (w cs : List ℕ) → IsPart p → Stops p cs → part_spelling p ≡ w → lexemes b p ≡ single l → step s l ≡ Some u
      → Parted b step u t cs → Parted b step s t (w ++ cs)
  before s u bar l w cs f m is e k r = prepend s u bar l w cs f is e k r tt
  before s u (edge x) l w cs f m is e k r = prepend s u (edge x) l w cs f is e k r tt
  before s u (leaf (plain c)) l w cs f m is e k r = prepend s u (leaf (plain c)) l w cs f is e k r tt
  before s u (leaf dot) l w cs f m is e k r = prepend s u (leaf dot) l w cs f is e k r tt
  before s u (leaf (escaped c)) l w cs f m is e k r = prepend s u (leaf (escaped c)) l w cs f is e k r tt
  before s u (leaf (control_escape c)) l w cs f m is e k r = prepend s u (leaf (control_escape c)) l w cs f is e k r tt
  before s u (leaf (set_escape c)) l w cs f m is e k r = prepend s u (leaf (set_escape c)) l w cs f is e k r tt
  before s u (leaf (coded null_code)) l w cs f m is e k r = prepend s u (leaf (coded null_code)) l w cs f is e k r refl
  before s u (leaf (coded (letter_code c))) l w cs f m is e k r = prepend s u (leaf (coded (letter_code c))) l w cs f is e k r refl
  before s u (leaf (coded (byte_code ds))) l w cs f m is e k r = prepend s u (leaf (coded (byte_code ds))) l w cs f is e k r refl
  before s u (leaf (coded (pair_code ds es))) l w cs f m is e k r = prepend s u (leaf (coded (pair_code ds es))) l w cs f is e k r refl
  before s u (leaf (coded (point_code ds))) l w cs f m is e k r = prepend s u (leaf (coded (point_code ds))) l w cs f is e k r refl
  before s u (leaf (property_escape n x)) l w cs f m is e k r = prepend s u (leaf (property_escape n x)) l w cs f is e k r tt
  before s u (leaf (numbered ds)) l w cs f m is e k r = prepend s u (leaf (numbered ds)) l w cs f is e k r (subst (λ z. begins_with_digit z ≡ false) (sym r.spelled) m)
  before s u (leaf (calls_for n)) l w cs f m is e k r = prepend s u (leaf (calls_for n)) l w cs f is e k r tt
  before s u (leaf (bracketed n x z)) l w cs f m is e k r = prepend s u (leaf (bracketed n x z)) l w cs f is e k r tt
  before s u (opens x) l w cs f m is e k r = prepend s u (opens x) l w cs f is e k r tt
  before s u closes l w cs f m is e k r = prepend s u closes l w cs f is e k r tt
  before s u (repeats q) l w cs f m is e k r = prepend s u (repeats q) l w cs f is e k r tt
  before s u (leaf (coded (unit_code ds))) l w cs f m is e k r =
      same_read s _ _ (ap (λ z. z ++ cs) is)
      (unit_before s u ds cs f (ap (take_lexemes step s) e ∙ k) r (trail_view r.parts) (is_lead (hex_number ds)) refl)

  -- the rest of a text that is read, behind whatever has been read
  abbrev Claim : List ℕ → Type 0
  Claim cs = (s : S) (m : Mode) (w : List ℕ) → Written b m w → run b step s m cs ≡ Some t → Parted b step s t (w ++ cs)

  -- a part, and the rest behind its step
  with_part : (s : S) (p : Part) (l : Lexeme) (w cs : List ℕ) → Claim cs → IsPart p → Stops p cs → part_spelling p ≡ w → lexemes b p ≡ single l
      → (o : Option S) → step s l ≡ o → stepped b step o between cs ≡ Some t → Parted b step s t (w ++ cs)
  with_part s p l w cs ih f m is e None k h = absurd (none_some t h)
  with_part s p l w cs ih f m is e (Some u) k h = before s u p l w cs f m is e k (ih u between [] refl h)

  -- so it is with one more character, where the rest is read behind what comes of it
  finish : (s : S) (w : List ℕ) (c : ℕ) (cs : List ℕ) → Claim cs → (x : Lexed) → Follows b (w ++ c ∷ []) x → past b step s x cs ≡ Some t
      → Parted b step s t (w ++ c ∷ cs)
  finish s w c cs ih refused h is = absurd (none_some t is)
  finish s w c cs ih (under_way m) h is = same_read s _ _ (append_assoc w (c ∷ []) cs) (ih s m (w ++ c ∷ []) h is)
  finish s w c cs ih (lexed l m) h is =
      let p = h.0.0 in
      same_read s _ _ (append_assoc w (c ∷ []) cs)
      (with_part s p l (w ++ c ∷ []) cs ih h.0.1 (stops p cs h.0.2) h.0.3 h.0.4 (step s l) refl
      (sym (past_lexed b step s l between cs) ∙ ap (λ z. past b step s (lexed l z) cs) (sym h.1) ∙ is))
  finish s w c cs ih (lexed_both l k m) h is = absurd h

  -- one more character between parts
  between_more : (c : ℕ) (cs : List ℕ) → Claim cs → (s : S) (w : List ℕ) → Written b between w → run b step s between (c ∷ cs) ≡ Some t
      → Parted b step s t (w ++ c ∷ cs)
  between_more c cs ih s w h is = finish s w c cs ih (lex_next b between c) (next_follows b between w c tt h) is

  -- a part that ended before the character
  ended_before : (c : ℕ) (cs : List ℕ) → Claim cs → (s : S) (p : Part) (l : Lexeme) (w : List ℕ) → IsPart p → Stops p (c ∷ cs) → part_spelling p ≡ w
      → lexemes b p ≡ single l → (o : Option S) → step s l ≡ o → stepped b step o between (c ∷ cs) ≡ Some t → Parted b step s t (w ++ c ∷ cs)
  ended_before c cs ih s p l w f m is e None k h = absurd (none_some t h)
  ended_before c cs ih s p l w f m is e (Some u) k h =
      before s u p l w (c ∷ cs) f m is e k (between_more c cs ih u [] refl h)

  -- behind `(`, whatever follows
  from_opening : (c : ℕ) (cs : List ℕ) → Claim cs → (s : S) (z : Bool) → (c == byte "?") ≡ z → past b step s (on_group c z) cs ≡ Some t
      → Parted b step s t (byte "(" ∷ c ∷ cs)
  from_opening c cs ih s false e is =
      ended_before c cs ih s (opens (group_of capturing)) (begins capture) (byte "(" ∷ []) tt tt refl refl (step s (begins capture)) refl
      (sym (goes_before b step s (begins capture) c cs) ∙ is)
  from_opening c cs ih s true e is =
      finish s (byte "(" ∷ []) c cs ih (under_way extending) (ap (λ z. byte "(" ∷ z ∷ []) (sym (same_char c (byte "?") e))) is

  -- in a back reference by a number
  from_reference : (c : ℕ) (cs : List ℕ) → Claim cs → (s : S) (ds : List ℕ) → AreDecimal ds → begins_with_zero ds ≡ false → (z : Bool) → is_digit c ≡ z
      → past b step s (on_referring (cap_number (number ds)) c z) cs ≡ Some t → Parted b step s t (byte "\\" ∷ (ds ++ c ∷ cs))
  from_reference c cs ih s ds h z false e is =
      ended_before c cs ih s (leaf (numbered ds)) (reference (cap_number (number ds))) (byte "\\" ∷ ds) (h, z) e refl refl
      (step s (reference (cap_number (number ds)))) refl (sym (goes_before b step s (reference (cap_number (number ds))) c cs) ∙ is)
  from_reference c cs ih s ds h z true e is =
      let longer = more_digits ds c h e z in
      finish s (byte "\\" ∷ ds) c cs ih (under_way (referring (cap_number (cap_number (number ds) * 10 + (c - byte "0"))))) (
        ds ++ c ∷ [],
        longer.0,
        longer.1,
        ap cap_number (number_push 0 ds c) ∙ held_push (number ds) (c - byte "0"),
        refl,
      ) is

  -- one more character, in any mode in which nothing waits for it
  waits_not : (c : ℕ) (cs : List ℕ) → Claim cs → (s : S) (m : Mode) (w : List ℕ) → IsWaiting m → Written b m w → run b step s m (c ∷ cs) ≡ Some t
      → Parted b step s t (w ++ c ∷ cs)
  waits_not c cs ih s m w i h is = finish s w c cs ih (lex_next b m c) (next_follows b m w c i h) is

  -- and in any mode
  one_more : (c : ℕ) (cs : List ℕ) → Claim cs → (s : S) (m : Mode) (w : List ℕ) → Written b m w → run b step s m (c ∷ cs) ≡ Some t
      → Parted b step s t (w ++ c ∷ cs)
  one_more c cs ih s opening w h is =
      same_read s _ _ (ap (λ z. z ++ c ∷ cs) (sym h)) (from_opening c cs ih s (c == byte "?") refl is)
  one_more c cs ih s (referring n) w h is =
      same_read s _ _ (ap (λ z. z ++ c ∷ cs) (sym h.4))
      (from_reference c cs ih s h.0 h.1 h.2 (is_digit c) refl
      (ap (λ z. past b step s (on_referring z c (is_digit c)) cs) h.3 ∙ is))
  one_more c cs ih s between w h is = waits_not c cs ih s between w tt h is
  one_more c cs ih s escaping w h is = waits_not c cs ih s escaping w tt h is
  one_more c cs ih s extending w h is = waits_not c cs ih s extending w tt h is
  one_more c cs ih s class_opened w h is = waits_not c cs ih s class_opened w tt h is
  one_more c cs ih s calling w h is = waits_not c cs ih s calling w tt h is
  one_more c cs ih s (counting n) w h is = waits_not c cs ih s (counting n) w tt h is
  one_more c cs ih s (numbering k) w h is = waits_not c cs ih s (numbering k) w tt h is
  one_more c cs ih s (in_class p) w h is = waits_not c cs ih s (in_class p) w tt h is
  one_more c cs ih s (class_escaping p) w h is = waits_not c cs ih s (class_escaping p) w tt h is
  one_more c cs ih s (class_numbering p k) w h is = waits_not c cs ih s (class_numbering p k) w tt h is
  one_more c cs ih s (in_property k) w h is = waits_not c cs ih s (in_property k) w tt h is
  one_more c cs ih s (in_class_property p k) w h is = waits_not c cs ih s (in_class_property p k) w tt h is
  one_more c cs ih s (naming g n) w h is = waits_not c cs ih s (naming g n) w tt h is
  one_more c cs ih s (name_escaping g n) w h is = waits_not c cs ih s (name_escaping g n) w tt h is
  one_more c cs ih s (name_coding g n k) w h is = waits_not c cs ih s (name_coding g n k) w tt h is

  -- at the end nothing is under way, or a back reference by a number
  ends_here : (s : S) (m : Mode) (w : List ℕ) → Written b m w → read_end step s m ≡ Some t → Parted b step s t (w ++ [])
  ends_here s between w h is =
      same_read s _ _ (ap (λ z. z ++ []) (sym h)) (record { parts = []; formed = tt; spelled = refl; way = is })
  ends_here s (referring n) w h is = record {
    parts = leaf (numbered h.0) ∷ [];
    formed = ((h.1, h.2), refl, tt);
    spelled = ap (λ z. z ++ []) (sym h.4);
    way = ap (λ z. option_and_then (λ q. Some q) (step s (reference z))) h.3 ∙ ap (option_and_then (λ q. Some q)) is;
  }
  ends_here s escaping w h is = absurd (none_some t is)
  ends_here s opening w h is = absurd (none_some t is)
  ends_here s extending w h is = absurd (none_some t is)
  ends_here s class_opened w h is = absurd (none_some t is)
  ends_here s calling w h is = absurd (none_some t is)
  ends_here s (counting n) w h is = absurd (none_some t is)
  ends_here s (numbering k) w h is = absurd (none_some t is)
  ends_here s (in_class p) w h is = absurd (none_some t is)
  ends_here s (class_escaping p) w h is = absurd (none_some t is)
  ends_here s (class_numbering p k) w h is = absurd (none_some t is)
  ends_here s (in_property k) w h is = absurd (none_some t is)
  ends_here s (in_class_property p k) w h is = absurd (none_some t is)
  ends_here s (naming g n) w h is = absurd (none_some t is)
  ends_here s (name_escaping g n) w h is = absurd (none_some t is)
  ends_here s (name_coding g n k) w h is = absurd (none_some t is)

  -- so the rest of a text that is read is made of parts
  claim : (cs : List ℕ) → Claim cs
  claim [] s m w h is = ends_here s m w h is
  claim (c ∷ cs) s m w h is = one_more c cs (claim cs) s m w h is

  -- and so is a whole text, between parts at its beginning
  pub sound : (s : S) (text : List ℕ) → run b step s between text ≡ Some t → Parted b step s t text
  sound s text is = claim text s between [] refl is
