-- Escapes with `\u` in a name: each is read from its spelling, and what is read is spelled so and gives a character.
use Rattle.std.proofs.Common.{◌≡◌, ℕ, ◌+◌, ◌*◌, ◌≤◌, ◌==◌, Bool, true, false, List, [], ◌∷◌, ◌++◌, Option, Some, None, length, refl, sym, ap, subst}
use Rattle.std.proofs.Common.{◌∙◌, true≢false, append_assoc, arith}
use Rattle.std.proofs.lemmas.List.{append-nil, length_push}
use Rattle.std.proofs.lemmas.Bool.{le-leb}
use Rattle.std.proofs.lemmas.Bool.Decides.{nat_tests}
use Rattle.std.specs.Char.{digit_value}
use Rattle.std.specs.Str.{byte}
use Rattle.strkw_regex_grammar.specs.Codes.{Code, null_code, letter_code, byte_code, unit_code, pair_code, point_code, is_hex_digit, are_hex_digits}
use Rattle.strkw_regex_grammar.specs.Codes.{hex_number_from, hex_number, max_code_point, is_lead, is_trail, is_scalar, has_digits, code_spelling}
use Rattle.strkw_regex_grammar.specs.Codes.{code_value, AreDigits, AreCodeDigits, IsCode}
use Rattle.strkw_regex_grammar.specs.Names.{is_unicode}
use Rattle.strkw_regex_grammar.specs.machine.CodeReading.{Width, unit_width, trail_width, Wanted, one_more, two_more, three_more}
use Rattle.strkw_regex_grammar.specs.machine.CodeReading.{four_more, Coding, unit_opened, digits_of, lead_read, lead_escaped}
use Rattle.strkw_regex_grammar.specs.machine.CodeReading.{point_opened, Coded, fails, goes, makes, value_or, coded_if, make, with_lead, read_all}
use Rattle.strkw_regex_grammar.specs.machine.CodeReading.{read_digit, digit_or_none, on_digit, on_unit, point_digit, on_point, coding_next}
use Rattle.strkw_charset.proofs.Booleans.{and_true, and_left, and_right}
use Rattle.strkw_regex_grammar.proofs.Letters.{same_char, is_not}
use Rattle.strkw_regex_grammar.specs.machine.CodeMakers.{value_if, is_next_digit, code_trees}

-- what holds where no digit is taken, and of what comes of one that is, holds of what comes of it under a test
digit_when : (P : Coded code_trees → Type 0) (w : Width code_trees) (n : Wanted) (ds : List ℕ) (b : Bool) → P fails
    → (b ≡ true → P (read_digit w n ds)) → P (digit_or_none w n (value_if b ds))
digit_when P w n ds false f h = f
digit_when P w n ds true f h = h refl

-- and so it is between braces
point_when : (P : Coded code_trees → Type 0) (ds : List ℕ) (b : Bool) → P fails → (b ≡ true → P (goes (point_opened (Some ds))))
    → P (point_digit (value_if b ds))
point_when P ds false f h = f
point_when P ds true f h = h refl

-- what has been read, behind the backslash
abbrev width_spelling : Width code_trees → List ℕ → List ℕ
width_spelling unit_width ds = byte "u" ∷ ds
width_spelling (trail_width ds) es = byte "u" ∷ (ds ++ byte "\\" ∷ byte "u" ∷ es)

-- the same of any part of an escape by a number
abbrev pub coding_spelling : Coding code_trees → List ℕ
coding_spelling unit_opened = byte "u" ∷ []
coding_spelling (digits_of w n ds) = width_spelling w ds
coding_spelling (lead_read ds) = byte "u" ∷ ds
coding_spelling (lead_escaped ds) = byte "u" ∷ (ds ++ byte "\\" ∷ [])
coding_spelling (point_opened o) = byte "u" ∷ byte "{" ∷ value_or [] o

-- what comes of a character, a part or the whole, is spelled so
abbrev pub IsCodedAs : Coded code_trees → List ℕ → Type 0
IsCodedAs fails t = Unit {0}
IsCodedAs (goes k) t = coding_spelling k ≡ t
IsCodedAs (makes d) t = code_spelling d ≡ t

-- what comes of a character under a test is spelled so, if it is where the test holds
if_as : (b : Bool) (k : Coded code_trees) (t : List ℕ) → (b ≡ true → IsCodedAs k t) → IsCodedAs (coded_if b k) t
if_as false k t h = tt
if_as true k t h = h refl

-- what is made of a whole escape is spelled as the escape
made_as : (d : Code) (t : List ℕ) → code_spelling d ≡ t → IsCodedAs (make d) t
made_as d t h = if_as (is_scalar (code_value d)) (makes d) t (λ _. h)

-- what is made of the digits behind `\u`, of a leading surrogate or not, is spelled as they are
lead_as : (ds : List ℕ) (b : Bool) (t : List ℕ) → byte "u" ∷ ds ≡ t → IsCodedAs (with_lead ds b) t
lead_as ds false t h = made_as (unit_code ds) t h
lead_as ds true t h = h

-- what is made of all digits of a number is spelled as they are
all_read_as : (w : Width code_trees) (ds t : List ℕ) → width_spelling w ds ≡ t → IsCodedAs (read_all w ds) t
all_read_as unit_width ds t h = lead_as ds (is_lead (hex_number ds)) t h
all_read_as (trail_width ds) es t h = if_as (is_trail (hex_number es)) (make (pair_code ds es)) t (λ _. made_as (pair_code ds es) t h)

-- and so is what is made of digits, where more may be to come
digit_read_as : (w : Width code_trees) (n : Wanted) (ds t : List ℕ) → width_spelling w ds ≡ t → IsCodedAs (read_digit w n ds) t
digit_read_as w one_more ds t h = all_read_as w ds t h
digit_read_as w two_more ds t h = h
digit_read_as w three_more ds t h = h
digit_read_as w four_more ds t h = h

-- digits with one more are spelled with that behind them
width_push : (w : Width code_trees) (ds : List ℕ) (c : ℕ) → width_spelling w (ds ++ c ∷ []) ≡ width_spelling w ds ++ c ∷ []
width_push unit_width ds c = refl
width_push (trail_width ds) es c = ap (λ z. byte "u" ∷ z) (sym (append_assoc ds (byte "\\" ∷ byte "u" ∷ es) (c ∷ [])))

-- what comes of a character among the digits is spelled with it
on_digit_as : (w : Width code_trees) (n : Wanted) (ds : List ℕ) (c : ℕ) → IsCodedAs (on_digit w n ds c) (width_spelling w ds ++ c ∷ [])
on_digit_as w n ds c =
    digit_when (λ k. IsCodedAs k (width_spelling w ds ++ c ∷ [])) w n (ds ++ c ∷ []) (is_next_digit ds c) tt
    (λ _. digit_read_as w n (ds ++ c ∷ []) _ (width_push w ds c))

-- and so is what comes of one behind `\u`
unit_as : (c : ℕ) (b : Bool) → (c == byte "{") ≡ b → IsCodedAs (on_unit c b) (byte "u" ∷ c ∷ [])
unit_as c false e = on_digit_as unit_width four_more [] c
unit_as c true e = ap (λ z. byte "u" ∷ z ∷ []) (same_char c (byte "{") e)

-- and what comes of one behind `\u{` and digits
point_as : (o : Option (List ℕ)) (c : ℕ) (b : Bool) → (c == byte "}") ≡ b
    → IsCodedAs (on_point o c b) (byte "u" ∷ byte "{" ∷ (value_or [] o ++ c ∷ []))
point_as o c false e =
    let ds = value_or [] o ++ c ∷ [] in
    point_when (λ k. IsCodedAs k (byte "u" ∷ byte "{" ∷ ds)) ds (is_next_digit (value_or [] o) c) tt (λ _. refl)
point_as None c true e = tt
point_as (Some ds) c true e =
    made_as (point_code ds) _ (ap (λ z. byte "u" ∷ byte "{" ∷ (ds ++ z ∷ [])) (same_char c (byte "}") e))

-- so what comes of the next character of an escape by a number is spelled with it
pub coding_as : (k : Coding code_trees) (c : ℕ) → IsCodedAs (coding_next k c) (coding_spelling k ++ c ∷ [])
coding_as unit_opened c = unit_as c (c == byte "{") refl
coding_as (digits_of w n ds) c = on_digit_as w n ds c
coding_as (lead_read ds) c =
    if_as (c == byte "\\") (goes (lead_escaped ds)) _ (λ e. ap (λ z. byte "u" ∷ (ds ++ z ∷ [])) (same_char c (byte "\\") e))
coding_as (lead_escaped ds) c =
    if_as (c == byte "u") (goes (digits_of (trail_width ds) four_more [])) _
    (λ e. ap (λ z. byte "u" ∷ (ds ++ byte "\\" ∷ z ∷ [])) (same_char c (byte "u") e)
    ∙ ap (λ z. byte "u" ∷ z) (sym (append_assoc ds (byte "\\" ∷ []) (c ∷ []))))
coding_as (point_opened o) c = point_as o c (c == byte "}") refl

-- what may have been read
-- how many digits are still to come
abbrev pub wanted_count : Wanted → ℕ
wanted_count one_more = 1
wanted_count two_more = 2
wanted_count three_more = 3
wanted_count four_more = 4

-- four digits that make a leading surrogate
abbrev IsLead : List ℕ → Type 0
IsLead ds = AreDigits 4 ds × (is_lead (hex_number ds) ≡ true)

-- what stands before a trailing surrogate is a leading one
abbrev IsWidth : Width code_trees → Type 0
IsWidth unit_width = Unit {0}
IsWidth (trail_width ds) = IsLead ds

-- what stands between braces is digits
abbrev IsPoint : Option (List ℕ) → Type 0
IsPoint None = Unit {0}
IsPoint (Some ds) = AreCodeDigits (point_code ds)

-- this part of an escape by a number may have been read
abbrev pub IsCoding : Coding code_trees → Type 0
IsCoding unit_opened = Unit {0}
IsCoding (digits_of w n ds) = IsWidth w × (are_hex_digits ds ≡ true) × (length ds + wanted_count n ≡ 4)
IsCoding (lead_read ds) = IsLead ds
IsCoding (lead_escaped ds) = IsLead ds
IsCoding (point_opened o) = IsPoint o

-- what comes of a character, if anything, is such a part, or an escape with `\u` that gives a character
abbrev pub IsCoded : Coded code_trees → Type 0
IsCoded fails = Unit {0}
IsCoded (goes k) = IsCoding k
IsCoded (makes d) = (is_unicode d ≡ true) × IsCode d

-- what comes of a character under a test is such, if it is where the test holds
if_formed : (b : Bool) (k : Coded code_trees) → (b ≡ true → IsCoded k) → IsCoded (coded_if b k)
if_formed false k h = tt
if_formed true k h = h refl

-- what is made of an escape with the digits of one is such
made_formed : (d : Code) → is_unicode d ≡ true → AreCodeDigits d → IsCoded (make d)
made_formed d u h = if_formed (is_scalar (code_value d)) (makes d) (λ e. (u, (h, e)))

-- and what is made of four digits behind `\u`, of a leading surrogate or not
lead_formed : (ds : List ℕ) (b : Bool) → is_lead (hex_number ds) ≡ b → AreDigits 4 ds → IsCoded (with_lead ds b)
lead_formed ds false e h = made_formed (unit_code ds) refl h
lead_formed ds true e h = (h, e)

-- and what is made of all digits of a number
all_read_formed : (w : Width code_trees) (ds : List ℕ) → IsWidth w → AreDigits 4 ds → IsCoded (read_all w ds)
all_read_formed unit_width ds v h = lead_formed ds _ refl h
all_read_formed (trail_width ds) es v h =
    if_formed (is_trail (hex_number es)) (make (pair_code ds es)) (λ e. made_formed (pair_code ds es) refl (v, h, e))

-- and what is made of digits with one more, as many of them as there may be
digit_read_formed : (w : Width code_trees) (n : Wanted) (ds : List ℕ) → IsWidth w → are_hex_digits ds ≡ true
    → length ds + wanted_count n ≡ 5 → IsCoded (read_digit w n ds)
digit_read_formed w one_more ds v h e = all_read_formed w ds v (h, omega (arith, e))
digit_read_formed w two_more ds v h e = (v, h, omega (arith, e))
digit_read_formed w three_more ds v h e = (v, h, omega (arith, e))
digit_read_formed w four_more ds v h e = (v, h, omega (arith, e))

-- digits with one more are digits
pub hex_push_digit : (ds : List ℕ) (c : ℕ) → are_hex_digits ds ≡ true → is_hex_digit c ≡ true → are_hex_digits (ds ++ c ∷ []) ≡ true
hex_push_digit [] c h e = and_true _ _ e refl
hex_push_digit (d ∷ ds) c h e = and_true _ _ (and_left (is_hex_digit d) _ h) (hex_push_digit ds c (and_right (is_hex_digit d) _ h) e)

-- what comes of a character among the digits is a part that may have been read, or an escape
on_digit_formed : (w : Width code_trees) (n : Wanted) (ds : List ℕ) (c : ℕ) → IsWidth w → are_hex_digits ds ≡ true
    → length ds + wanted_count n ≡ 4 → IsCoded (on_digit w n ds c)
on_digit_formed w n ds c v h e =
    digit_when IsCoded w n (ds ++ c ∷ []) (is_next_digit ds c) tt
    (λ t. digit_read_formed w n (ds ++ c ∷ []) v (hex_push_digit ds c h (and_left (is_hex_digit c) _ t)) (omega (arith, length_push ds c, e)))

-- and so is what comes of one behind `\u`
unit_formed : (c : ℕ) (b : Bool) → IsCoded (on_unit c b)
unit_formed c false = on_digit_formed unit_width four_more [] c tt refl refl
unit_formed c true = tt

-- what stands between braces is digits
point_digits : (o : Option (List ℕ)) → IsPoint o → are_hex_digits (value_or [] o) ≡ true
point_digits None h = refl
point_digits (Some ds) h = h.0

-- behind one more digit there are digits
has_pushed : (ds : List ℕ) (c : ℕ) → has_digits (ds ++ c ∷ []) ≡ true
has_pushed [] c = refl
has_pushed (d ∷ ds) c = refl

-- and what comes of one behind `\u{` and digits
point_formed : (o : Option (List ℕ)) (c : ℕ) (b : Bool) → IsPoint o → IsCoded (on_point o c b)
point_formed o c false h =
    let ds = value_or [] o in
    point_when IsCoded (ds ++ c ∷ []) (is_next_digit ds c) tt
    (λ t. (hex_push_digit ds c (point_digits o h) (and_left (is_hex_digit c) _ t), has_pushed ds c))
point_formed None c true h = tt
point_formed (Some ds) c true h = made_formed (point_code ds) refl h

-- so what comes of a character behind a part that may have been read is such a part, or an escape
pub coding_formed : (k : Coding code_trees) (c : ℕ) → IsCoding k → IsCoded (coding_next k c)
coding_formed unit_opened c h = unit_formed c (c == byte "{")
coding_formed (digits_of w n ds) c h = on_digit_formed w n ds c h.0 h.1 h.2
coding_formed (lead_read ds) c h = if_formed (c == byte "\\") (goes (lead_escaped ds)) (λ e. h)
coding_formed (lead_escaped ds) c h =
    if_formed (c == byte "u") (goes (digits_of (trail_width ds) four_more [])) (λ e. (h, refl, refl))
coding_formed (point_opened o) c h = point_formed o c (c == byte "}") h

-- numbers
-- the number of digits, and others behind them, goes on from the number of the first
hex_append : (v : ℕ) (ds es : List ℕ) → hex_number_from v (ds ++ es) ≡ hex_number_from (hex_number_from v ds) es
hex_append v [] es = refl
hex_append v (d ∷ ds) es = hex_append (v * 16 + digit_value d) ds es

-- more digits make no smaller number
pub hex_grows : (v : ℕ) (ds : List ℕ) → v ≤ hex_number_from v ds
hex_grows v [] = omega arith
hex_grows v (d ∷ ds) =
    let next : v * 16 + digit_value d ≤ hex_number_from v (d ∷ ds) = hex_grows (v * 16 + digit_value d) ds in
    smaller v (digit_value d) _ next
  where
    -- what is sixteen times a number or more is no smaller than it
    smaller : (v d n : ℕ) → v * 16 + d ≤ n → v ≤ n
    smaller v d n h = omega (arith, h)

-- where a number is not above the greatest, that of its first digits is not
front_small : (ds es : List ℕ) → hex_number (ds ++ es) ≤ max_code_point → hex_number ds ≤ max_code_point
front_small ds es h =
    let whole : hex_number (ds ++ es) ≡ hex_number_from (hex_number ds) es = hex_append 0 ds es in
    omega (arith, whole, hex_grows (hex_number ds) es, h)

-- a code point that a text can have is not above the greatest
pub scalar_small : (n : ℕ) → is_scalar n ≡ true → n ≤ max_code_point
scalar_small n h = grind (arith, nat_tests)

-- nor is a leading surrogate
pub lead_small : (n : ℕ) → is_lead n ≡ true → n ≤ max_code_point
lead_small n h = grind (arith, nat_tests)

-- nor a trailing one
pub trail_small : (n : ℕ) → is_trail n ≡ true → n ≤ max_code_point
trail_small n h = grind (arith, nat_tests)

-- a code point that a text can have is no leading surrogate
no_lead : (n : ℕ) (b : Bool) → is_lead n ≡ b → is_scalar n ≡ true → b ≡ false
no_lead n false e h = refl
no_lead n true e h = grind (arith, nat_tests)

-- the rest of a pattern that is read, behind a part of an escape and behind a whole one
abbrev pub Behind : Type 0 → Type 0 → Type 0
Behind B A = A → List ℕ → Option B

-- the same behind what comes of a character, which may be nothing
abbrev pub follow : {B : Type 0} → Behind B (Coding code_trees) → Behind B Code → Behind B (Coded code_trees)
follow F G fails cs = None
follow F G (goes k) cs = F k cs
follow F G (makes d) cs = G d cs

-- behind the letter of an escape
abbrev pub code_tail : Code → List ℕ
code_tail null_code = []
code_tail (letter_code c) = c ∷ []
code_tail (byte_code ds) = ds
code_tail (unit_code ds) = ds
code_tail (pair_code ds es) = ds ++ byte "\\" ∷ byte "u" ∷ es
code_tail (point_code ds) = byte "{" ∷ (ds ++ byte "}" ∷ [])

-- there is always a digit still to come
pub no_digits : (n : Wanted) → 0 ≡ wanted_count n → ⊥
no_digits one_more e = omega (arith, e)
no_digits two_more e = omega (arith, e)
no_digits three_more e = omega (arith, e)
no_digits four_more e = omega (arith, e)

module _ {B : Type 0} (F : Behind B (Coding code_trees)) (G : Behind B Code) (turn : (k : Coding code_trees) (c : ℕ) (cs : List ℕ) → F k (c ∷ cs) ≡ follow F G (coding_next k c) cs) where
  -- an escape whose character a text can have is read as a whole one
  made_follows : (d : Code) → is_scalar (code_value d) ≡ true → (cs : List ℕ) → follow F G (make d) cs ≡ G d cs
  made_follows d h cs = ap (λ (b : Bool). follow F G (coded_if b (makes d)) cs) h

  -- a digit that makes no number above the greatest is read, and added to those before
  one_digit : (w : Width code_trees) (n : Wanted) (ds : List ℕ) (d : ℕ) (cs : List ℕ) → is_hex_digit d ≡ true → hex_number (ds ++ d ∷ []) ≤ max_code_point
      → F (digits_of w n ds) (d ∷ cs) ≡ follow F G (read_digit w n (ds ++ d ∷ [])) cs
  one_digit w n ds d cs h m =
      turn (digits_of w n ds) d cs
      ∙ ap (λ (b : Bool). follow F G (digit_or_none w n (value_if b (ds ++ d ∷ []))) cs)
      (and_true _ _ h (le-leb (hex_number (ds ++ d ∷ [])) max_code_point m))

  -- a number not above the greatest is not above it with the brackets among its digits moved
  shifted : (ds : List ℕ) (d : ℕ) (es : List ℕ) → hex_number (ds ++ d ∷ es) ≤ max_code_point → hex_number ((ds ++ d ∷ []) ++ es) ≤ max_code_point
  shifted ds d es m = subst (λ (z : List ℕ). hex_number z ≤ max_code_point) (sym (append_assoc ds (d ∷ []) es)) m

  -- where the digits behind one are read to the last, they are with that one in front
  joins : (w : Width code_trees) (n : Wanted) (ds : List ℕ) (d : ℕ) (es cs : List ℕ) → is_hex_digit d ≡ true → hex_number (ds ++ d ∷ es) ≤ max_code_point
      → follow F G (read_digit w n (ds ++ d ∷ [])) (es ++ cs) ≡ follow F G (read_all w ((ds ++ d ∷ []) ++ es)) cs
      → F (digits_of w n ds) (d ∷ (es ++ cs)) ≡ follow F G (read_all w (ds ++ d ∷ es)) cs
  joins w n ds d es cs h m rest =
      one_digit w n ds d (es ++ cs) h (front_small (ds ++ d ∷ []) es (shifted ds d es m)) ∙ rest
      ∙ ap (λ (z : List ℕ). follow F G (read_all w z) cs) (append_assoc ds (d ∷ []) es)

  -- digits are read to the last, where there are as many as are to come
  reads_digits : (w : Width code_trees) (n : Wanted) (ds es : List ℕ) → are_hex_digits es ≡ true → length es ≡ wanted_count n
      → hex_number (ds ++ es) ≤ max_code_point → (cs : List ℕ) → F (digits_of w n ds) (es ++ cs) ≡ follow F G (read_all w (ds ++ es)) cs
  reads_digits w n ds [] h e m cs = absurd (no_digits n e)
  reads_digits w one_more ds (d ∷ []) h e m cs = one_digit w one_more ds d cs (and_left (is_hex_digit d) _ h) m
  reads_digits w one_more ds (d ∷ f ∷ fs) h e m cs = absurd (omega (arith, e))
  reads_digits w two_more ds (d ∷ es) h e m cs =
      joins w two_more ds d es cs (and_left (is_hex_digit d) _ h) m
      (reads_digits w one_more (ds ++ d ∷ []) es (and_right (is_hex_digit d) _ h) (omega (arith, e)) (shifted ds d es m) cs)
  reads_digits w three_more ds (d ∷ es) h e m cs =
      joins w three_more ds d es cs (and_left (is_hex_digit d) _ h) m
      (reads_digits w two_more (ds ++ d ∷ []) es (and_right (is_hex_digit d) _ h) (omega (arith, e)) (shifted ds d es m) cs)
  reads_digits w four_more ds (d ∷ es) h e m cs =
      joins w four_more ds d es cs (and_left (is_hex_digit d) _ h) m
      (reads_digits w three_more (ds ++ d ∷ []) es (and_right (is_hex_digit d) _ h) (omega (arith, e)) (shifted ds d es m) cs)

  -- behind `\u` the first digit is no brace
  -- four digits there are read as those of a number of four
  opens : (ds : List ℕ) → AreDigits 4 ds → (cs : List ℕ) → F unit_opened (ds ++ cs) ≡ F (digits_of unit_width four_more []) (ds ++ cs)
  opens [] h cs = absurd (no_digits four_more h.1)
  opens (d ∷ ds) h cs =
      turn unit_opened d (ds ++ cs)
      ∙ ap (λ (b : Bool). follow F G (on_unit d b) (ds ++ cs)) (is_not is_hex_digit d (byte "{") (d == byte "{") refl (and_left (is_hex_digit d) _ h.0) refl)
      ∙ sym (turn (digits_of unit_width four_more []) d (ds ++ cs))

  -- behind `\u{`, a digit is read and added to those before, up to the greatest number
  point_step : (o : Option (List ℕ)) (d : ℕ) → is_hex_digit d ≡ true → hex_number (value_or [] o ++ d ∷ []) ≤ max_code_point → (cs : List ℕ)
      → F (point_opened o) (d ∷ cs) ≡ F (point_opened (Some (value_or [] o ++ d ∷ []))) cs
  point_step o d h m cs =
      let ds = value_or [] o in
      turn (point_opened o) d cs
      ∙ ap (λ (b : Bool). follow F G (on_point o d b) cs) (is_not is_hex_digit d (byte "}") (d == byte "}") refl h refl)
      ∙ ap (λ (b : Bool). follow F G (point_digit (value_if b (ds ++ d ∷ []))) cs)
      (and_true _ _ h (le-leb (hex_number (ds ++ d ∷ [])) max_code_point m))

  -- and so are several, one behind the other
  point_more : (ds es : List ℕ) → are_hex_digits es ≡ true → hex_number (ds ++ es) ≤ max_code_point → (cs : List ℕ)
      → F (point_opened (Some ds)) (es ++ cs) ≡ F (point_opened (Some (ds ++ es))) cs
  point_more ds [] h m cs = ap (λ (z : List ℕ). F (point_opened (Some z)) cs) (sym (append-nil ds))
  point_more ds (d ∷ es) h m cs =
      point_step (Some ds) d (and_left (is_hex_digit d) _ h) (front_small (ds ++ d ∷ []) es (shifted ds d es m)) (es ++ cs)
      ∙ point_more (ds ++ d ∷ []) es (and_right (is_hex_digit d) _ h) (shifted ds d es m) cs
      ∙ ap (λ (z : List ℕ). F (point_opened (Some z)) cs) (append_assoc ds (d ∷ []) es)

  -- all of them are read, where there are any
  reads_point : (ds : List ℕ) → AreCodeDigits (point_code ds) → hex_number ds ≤ max_code_point → (cs : List ℕ)
      → F (point_opened None) (ds ++ cs) ≡ F (point_opened (Some ds)) cs
  reads_point [] h m cs = absurd (true≢false (sym h.1))
  reads_point (d ∷ ds) h m cs =
      point_step None d (and_left (is_hex_digit d) _ h.0) (front_small (d ∷ []) ds m) (ds ++ cs)
      ∙ point_more (d ∷ []) ds (and_right (is_hex_digit d) _ h.0) m cs

  -- of four digits
  -- behind `\u` they are read, as those of a leading surrogate or of a character
  reads_unit : (ds : List ℕ) → AreDigits 4 ds → hex_number ds ≤ max_code_point → (b : Bool) → is_lead (hex_number ds) ≡ b → (cs : List ℕ)
      → F unit_opened (ds ++ cs) ≡ follow F G (with_lead ds b) cs
  reads_unit ds h m b e cs =
      opens ds h cs ∙ reads_digits unit_width four_more [] ds h.0 h.1 m cs ∙ ap (λ (b : Bool). follow F G (with_lead ds b) cs) e

  -- behind its backslash and letter, each escape with `\u` is read from the rest of its spelling
  pub reads_code : (d : Code) → is_unicode d ≡ true → IsCode d → (cs : List ℕ) → F unit_opened (code_tail d ++ cs) ≡ G d cs
  reads_code null_code u h cs = absurd (true≢false (sym u))
  reads_code (letter_code c) u h cs = absurd (true≢false (sym u))
  reads_code (byte_code ds) u h cs = absurd (true≢false (sym u))
  reads_code (unit_code ds) u h cs =
      reads_unit ds h.0 (scalar_small (hex_number ds) h.1) false (no_lead (hex_number ds) (is_lead (hex_number ds)) refl h.1) cs
      ∙ made_follows (unit_code ds) h.1 cs
  reads_code (pair_code ds es) u h cs =
      let rest = byte "\\" ∷ byte "u" ∷ (es ++ cs) in
      ap (F unit_opened) (append_assoc ds (byte "\\" ∷ byte "u" ∷ es) cs)
      ∙ reads_unit ds h.0.0.0 (lead_small (hex_number ds) h.0.0.1) true h.0.0.1 rest
      ∙ turn (lead_read ds) (byte "\\") (byte "u" ∷ (es ++ cs)) ∙ turn (lead_escaped ds) (byte "u") (es ++ cs)
      ∙ reads_digits (trail_width ds) four_more [] es h.0.1.0 h.0.1.1 (trail_small (hex_number es) h.0.2) cs
      ∙ ap (λ (b : Bool). follow F G (coded_if b (make (pair_code ds es))) cs) h.0.2 ∙ made_follows (pair_code ds es) h.1 cs
  reads_code (point_code ds) u h cs =
      turn unit_opened (byte "{") ((ds ++ byte "}" ∷ []) ++ cs) ∙ ap (F (point_opened None)) (append_assoc ds (byte "}" ∷ []) cs)
      ∙ reads_point ds h.0 (scalar_small (hex_number ds) h.1) (byte "}" ∷ cs) ∙ turn (point_opened (Some ds)) (byte "}") cs
      ∙ made_follows (point_code ds) h.1 cs
