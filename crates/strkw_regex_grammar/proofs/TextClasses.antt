-- What a class is spelled from can be told from its text.
use Rattle.std.proofs.Common.{◌≡◌, ℕ, ◌==◌, Bool, true, false, ◌&&◌, List, [], ◌∷◌, ◌++◌, Option, Some, None, refl, sym, ap, subst, ◌∙◌, append_assoc}
use Rattle.std.proofs.Common.{if◌then◌else◌, arith}
use Rattle.std.specs.Str.{byte}
use Rattle.std.proofs.lemmas.Bool.Decides.{nat_tests}
use Rattle.strkw_charset.specs.Properties.{Expression}
use Rattle.strkw_charset.proofs.Booleans.{and_true}
use Rattle.strkw_regex_grammar.specs.Codes.{Code, null_code, letter_code, byte_code, unit_code, pair_code, point_code, is_lead, is_trail, hex_number, AreCodeDigits}
use Rattle.strkw_regex_grammar.specs.Escapes.{Escape, itself, control, set, boundary, property}
use Rattle.strkw_regex_grammar.specs.Escapes.{no_property}
use Rattle.strkw_regex_grammar.specs.Classes.{ClassAtom, class_plain, hyphen, class_escaped, class_control, class_set, backspace, class_coded}
use Rattle.strkw_regex_grammar.specs.Classes.{class_property, Ranges, no_ranges, with_one, with_range, class_atom_spelling, ranges_spelling}
use Rattle.strkw_regex_grammar.specs.Classes.{ending_spelling, ClassToken, closing_bracket, class_escaper, dash, class_char, class_token, class_escape}
use Rattle.strkw_regex_grammar.specs.Classes.{is_hyphen, is_caret, MayBegin, MayFollow, MayEnd}
use Rattle.strkw_regex_grammar.specs.Regex.{IsClassItem, is_trail_item, ends_in_lead, MayStandBehind, AreItems}
use Rattle.strkw_regex_grammar.proofs.LexerItems.{and_false}
use Rattle.strkw_regex_grammar.proofs.TextPieces.{take_code, takes_code, take_expression, takes_expression, take_all, Each, all_are}

-- of one atom, where a pair of surrogates is two
abbrev coded_atom : Option (Code × List ℕ) → Option (ClassAtom × List ℕ)
coded_atom None = None
coded_atom (Some r) = Some (class_coded r.0, r.1)

abbrev property_atom : Bool → Option (Expression × List ℕ) → Option (ClassAtom × List ℕ)
property_atom n None = None
property_atom n (Some r) = Some (class_property n r.0, r.1)

abbrev escape_by : Escape → ℕ → List ℕ → Option (ClassAtom × List ℕ)
escape_by itself c cs = Some (class_escaped c, cs)
escape_by control c cs = Some (class_control c, cs)
escape_by set c cs = Some (class_set c, cs)
escape_by boundary c cs = Some (backspace, cs)
escape_by property c cs = property_atom false (take_expression cs)
escape_by no_property c cs = property_atom true (take_expression cs)
escape_by k c cs = coded_atom (take_code false (c ∷ cs))

abbrev take_escape : List ℕ → Option (ClassAtom × List ℕ)
take_escape [] = None
take_escape (c ∷ cs) = escape_by (class_escape c) c cs

abbrev atom_by : ClassToken → ℕ → List ℕ → Option (ClassAtom × List ℕ)
atom_by closing_bracket c cs = None
atom_by class_escaper c cs = take_escape cs
atom_by dash c cs = Some (hyphen, cs)
atom_by class_char c cs = Some (class_plain c, cs)

abbrev take_atom : List ℕ → Option (ClassAtom × List ℕ)
take_atom [] = None
take_atom (c ∷ cs) = atom_by (class_token c) c cs

-- the atom, of a pair the two, before others
abbrev units : ClassAtom → List ClassAtom → List ClassAtom
units (class_coded (pair_code ds es)) xs = class_coded (unit_code ds) ∷ class_coded (unit_code es) ∷ xs
units x xs = x ∷ xs

abbrev atoms_spelling : List ClassAtom → List ℕ
atoms_spelling [] = []
atoms_spelling (x ∷ xs) = class_atom_spelling x ++ atoms_spelling xs

-- those of a class before others, with the `-` of a range as one of them
abbrev flat : Ranges → List ClassAtom → List ClassAtom
flat no_ranges xs = xs
flat (with_one r x) xs = flat r (units x xs)
flat (with_range r x y) xs = flat r (units x (hyphen ∷ units y xs))

-- they are told
abbrev AreTold : List ClassAtom → List ℕ → Type 0
AreTold = Each class_atom_spelling atoms_spelling take_atom

-- an escape by a number
told_code : (k : Code) → AreCodeDigits k → (cs : List ℕ) → (xs : List ClassAtom) → AreTold xs cs → AreTold (units (class_coded k) xs) cs
told_code null_code h cs xs e = (refl, omega arith, e)
told_code (letter_code c) h cs xs e = (refl, omega arith, e)
told_code (byte_code ds) h cs xs e = (ap coded_atom (takes_code false (byte_code ds) h tt (atoms_spelling xs ++ cs)), omega arith, e)
told_code (unit_code ds) h cs xs e = (ap coded_atom (takes_code false (unit_code ds) h refl (atoms_spelling xs ++ cs)), omega arith, e)
told_code (pair_code ds es) h cs xs e = (
  ap coded_atom (takes_code false (unit_code ds) h.0.0 refl (atoms_spelling (class_coded (unit_code es) ∷ xs) ++ cs)),
  omega arith,
  (ap coded_atom (takes_code false (unit_code es) h.1 refl (atoms_spelling xs ++ cs)), omega arith, e),
)
told_code (point_code ds) h cs xs e = (ap coded_atom (takes_code false (point_code ds) h tt (atoms_spelling xs ++ cs)), omega arith, e)

-- any atom
told_atom : (x : ClassAtom) → IsClassItem x → (cs : List ℕ) → (xs : List ClassAtom) → AreTold xs cs → AreTold (units x xs) cs
told_atom (class_plain c) h cs xs e = (ap (λ t. atom_by t c (atoms_spelling xs ++ cs)) h, omega arith, e)
told_atom hyphen h cs xs e = (refl, omega arith, e)
told_atom (class_escaped c) h cs xs e = (ap (λ t. escape_by t c (atoms_spelling xs ++ cs)) h, omega arith, e)
told_atom (class_control c) h cs xs e = (ap (λ t. escape_by t c (atoms_spelling xs ++ cs)) h, omega arith, e)
told_atom (class_set c) h cs xs e = (ap (λ t. escape_by t c (atoms_spelling xs ++ cs)) h, omega arith, e)
told_atom backspace h cs xs e = (refl, omega arith, e)
told_atom (class_coded k) h cs xs e = told_code k h.0 cs xs e
told_atom (class_property false v) h cs xs e = (ap (property_atom false) (takes_expression v h.0 (atoms_spelling xs ++ cs)), omega arith, e)
told_atom (class_property true v) h cs xs e = (ap (property_atom true) (takes_expression v h.0 (atoms_spelling xs ++ cs)), omega arith, e)

-- and all of a class
told_flat : (n : Bool) (r : Ranges) → AreItems n r → (cs : List ℕ) → (xs : List ClassAtom) → AreTold xs cs → AreTold (flat r xs) cs
told_flat n no_ranges h cs xs e = e
told_flat n (with_one r x) h cs xs e = told_flat n r h.0 cs (units x xs) (told_atom x h.1 cs xs e)
told_flat n (with_range r x y) h cs xs e =
    told_flat n r h.0 cs (units x (hyphen ∷ units y xs))
    (told_atom x h.1.0 cs (hyphen ∷ units y xs) (refl, omega arith, told_atom y h.2 cs xs e))

-- and spelled as before
units_spelled : (x : ClassAtom) (xs : List ClassAtom) → atoms_spelling (units x xs) ≡ class_atom_spelling x ++ atoms_spelling xs
units_spelled (class_plain c) xs = refl
units_spelled hyphen xs = refl
units_spelled (class_escaped c) xs = refl
units_spelled (class_control c) xs = refl
units_spelled (class_set c) xs = refl
units_spelled backspace xs = refl
units_spelled (class_coded null_code) xs = refl
units_spelled (class_coded (letter_code c)) xs = refl
units_spelled (class_coded (byte_code ds)) xs = refl
units_spelled (class_coded (unit_code ds)) xs = refl
units_spelled (class_coded (pair_code ds es)) xs =
    ap (λ z. byte "\\" ∷ byte "u" ∷ z) (sym (append_assoc ds (byte "\\" ∷ byte "u" ∷ es) (atoms_spelling xs)))
units_spelled (class_coded (point_code ds)) xs = refl
units_spelled (class_property n e) xs = refl

-- so is the whole
flat_spelled : (r : Ranges) (xs : List ClassAtom) → atoms_spelling (flat r xs) ≡ ranges_spelling r ++ atoms_spelling xs
flat_spelled no_ranges xs = refl
flat_spelled (with_one r x) xs =
    flat_spelled r (units x xs) ∙ ap (λ z. ranges_spelling r ++ z) (units_spelled x xs)
    ∙ sym (append_assoc (ranges_spelling r) (class_atom_spelling x) (atoms_spelling xs))
flat_spelled (with_range r x y) xs =
    flat_spelled r (units x (hyphen ∷ units y xs))
    ∙ ap (λ z. ranges_spelling r ++ z) (units_spelled x (hyphen ∷ units y xs) ∙ ap (λ z. class_atom_spelling x ++ byte "-" ∷ z) (units_spelled y xs))
    ∙ sym (append_assoc (ranges_spelling r) (class_atom_spelling x) (byte "-" ∷ (class_atom_spelling y ++ atoms_spelling xs)))
    ∙ sym (append_assoc (ranges_spelling r ++ class_atom_spelling x) (byte "-" ∷ class_atom_spelling y) (atoms_spelling xs))

-- of ranges, and a `-` that may be that of a range
abbrev is_one : Ranges → Bool
is_one no_ranges = false
is_one (with_one r x) = true
is_one (with_range r x y) = false

abbrev pair_of : ClassAtom → ClassAtom → ClassAtom
pair_of (class_coded (unit_code ds)) (class_coded (unit_code es)) = class_coded (pair_code ds es)
pair_of x y = x

abbrev paired : Ranges → ClassAtom → Ranges
paired no_ranges y = no_ranges
paired (with_one r x) y = with_one r (pair_of x y)
paired (with_range r x z) y = with_range r x (pair_of z y)

abbrev ranged : Ranges → ClassAtom → Ranges
ranged no_ranges y = no_ranges
ranged (with_one r x) y = with_range r x y
ranged (with_range r x z) y = with_range r x z

abbrev grow : Ranges → Bool → ClassAtom → Ranges × Bool
grow r true y = (ranged r y, false)
grow r false y =
    if is_hyphen y && is_one r then (r, true)
    else if ends_in_lead r && is_trail_item y then (paired r y, false)
    else (with_one r y, false)

abbrev grown : List ClassAtom → Ranges × Bool → Ranges × Bool
grown [] s = s
grown (x ∷ xs) s = grown xs (grow s.0 s.1 x)

-- a `-` that begins a range is no atom of its own
no_range : (n : Bool) (r : Ranges) (x : ClassAtom) → MayFollow n r x → (is_hyphen x && is_one r) ≡ false
no_range n no_ranges x h = and_false (is_hyphen x) false refl
no_range n (with_one r y) x h = ap (λ b. b && true) h
no_range n (with_range r y z) x h = and_false (is_hyphen x) false refl

-- an atom that is no part of a pair
grows_one : (n : Bool) (r : Ranges) (x : ClassAtom) → MayStandBehind n r x → grow r false x ≡ (with_one r x, false)
grows_one n r x h =
    ap (λ b. if b then (r, true) else if ends_in_lead r && is_trail_item x then (paired r x, false) else (with_one r x, false)) (no_range n r x h.0)
    ∙ ap (λ b. if b then (paired r x, false) else (with_one r x, false)) h.1

-- no leading surrogate is a trailing one
lead_no_trail : (n : ℕ) → is_lead n ≡ true → is_trail n ≡ false
lead_no_trail n h = grind (arith, nat_tests)

-- a trailing surrogate behind a leading one
grows_pair : (r : Ranges) (es : List ℕ) → ends_in_lead r ≡ true → is_trail (hex_number es) ≡ true
    → grow r false (class_coded (unit_code es)) ≡ (paired r (class_coded (unit_code es)), false)
grows_pair r es h k =
    ap (λ b. if b then (paired r (class_coded (unit_code es)), false) else (with_one r (class_coded (unit_code es)), false))
    (and_true _ _ h k)

-- an atom, which may be a pair, behind what it may stand behind
grows_atom : (n : Bool) (r : Ranges) (x : ClassAtom) → IsClassItem x → MayStandBehind n r x → (xs : List ClassAtom)
    → grown (units x xs) (r, false) ≡ grown xs (with_one r x, false)
grows_atom n r (class_plain c) i h xs = ap (grown xs) (grows_one n r (class_plain c) h)
grows_atom n r hyphen i h xs = ap (grown xs) (grows_one n r hyphen h)
grows_atom n r (class_escaped c) i h xs = ap (grown xs) (grows_one n r (class_escaped c) h)
grows_atom n r (class_control c) i h xs = ap (grown xs) (grows_one n r (class_control c) h)
grows_atom n r (class_set c) i h xs = ap (grown xs) (grows_one n r (class_set c) h)
grows_atom n r backspace i h xs = ap (grown xs) (grows_one n r backspace h)
grows_atom n r (class_coded null_code) i h xs = ap (grown xs) (grows_one n r (class_coded null_code) h)
grows_atom n r (class_coded (letter_code c)) i h xs = ap (grown xs) (grows_one n r (class_coded (letter_code c)) h)
grows_atom n r (class_coded (byte_code ds)) i h xs = ap (grown xs) (grows_one n r (class_coded (byte_code ds)) h)
grows_atom n r (class_coded (unit_code ds)) i h xs = ap (grown xs) (grows_one n r (class_coded (unit_code ds)) h)
grows_atom n r (class_coded (pair_code ds es)) i h xs =
    ap (λ s. grown (class_coded (unit_code es) ∷ xs) s)
    (grows_one n r (class_coded (unit_code ds))
    (follows r h.0, and_false (ends_in_lead r) (is_trail (hex_number ds)) (lead_no_trail (hex_number ds) i.0.0.1)))
    ∙ ap (grown xs) (grows_pair (with_one r (class_coded (unit_code ds))) es i.0.0.1 i.0.2)
  where
    -- the first of them may stand there
    begins : (n : Bool) → MayBegin n (class_coded (pair_code ds es)) → MayBegin n (class_coded (unit_code ds))
    begins true h = tt
    begins false h = refl

    -- behind anything
    follows : (r : Ranges) → MayFollow n r (class_coded (pair_code ds es)) → MayFollow n r (class_coded (unit_code ds))
    follows no_ranges h = begins n h
    follows (with_one r y) h = refl
    follows (with_range r y z) h = tt
grows_atom n r (class_coded (point_code ds)) i h xs = ap (grown xs) (grows_one n r (class_coded (point_code ds)) h)
grows_atom n r (class_property b e) i h xs = ap (grown xs) (grows_one n r (class_property b e) h)

-- the end of a range, which may be a pair
grows_range : (r : Ranges) (x y : ClassAtom) → IsClassItem y → (xs : List ClassAtom) → grown (units y xs) (with_one r x, true) ≡ grown xs (with_range r x y, false)
grows_range r x (class_plain c) i xs = refl
grows_range r x hyphen i xs = refl
grows_range r x (class_escaped c) i xs = refl
grows_range r x (class_control c) i xs = refl
grows_range r x (class_set c) i xs = refl
grows_range r x backspace i xs = refl
grows_range r x (class_coded null_code) i xs = refl
grows_range r x (class_coded (letter_code c)) i xs = refl
grows_range r x (class_coded (byte_code ds)) i xs = refl
grows_range r x (class_coded (unit_code ds)) i xs = refl
grows_range r x (class_coded (pair_code ds es)) i xs =
    ap (grown xs) (grows_pair (with_range r x (class_coded (unit_code ds))) es i.0.0.1 i.0.2)
grows_range r x (class_coded (point_code ds)) i xs = refl
grows_range r x (class_property n e) i xs = refl

-- ranges grow from their atoms
grows_flat : (n : Bool) (r : Ranges) → AreItems n r → (xs : List ClassAtom) → grown (flat r xs) (no_ranges, false) ≡ grown xs (r, false)
grows_flat n no_ranges h xs = refl
grows_flat n (with_one r x) h xs = grows_flat n r h.0 (units x xs) ∙ grows_atom n r x h.1 h.2 xs
grows_flat n (with_range r x y) h xs =
    grows_flat n r h.0 (units x (hyphen ∷ units y xs)) ∙ grows_atom n r x h.1.0 h.1.1 (hyphen ∷ units y xs) ∙ grows_range r x y h.2 xs

-- the `-` before the closing bracket
abbrev last_dash : Bool → List ClassAtom
last_dash false = []
last_dash true = hyphen ∷ []

-- grows to it
ends_so : (r : Ranges) (e : Bool) → MayEnd e r → grown (last_dash e) (r, false) ≡ (r, e)
ends_so r false h = refl
ends_so no_ranges true h = absurd h
ends_so (with_one r x) true h = refl
ends_so (with_range r x y) true h = absurd h

-- of a class
abbrev class_of : Bool → List ClassAtom × List ℕ → Option ((Bool × Ranges × Bool) × List ℕ)
class_of n (xs, []) = None
class_of n (xs, c ∷ cs) =
    let s = grown xs (no_ranges, false) in
    Some ((n, s.0, s.1), cs)

abbrev class_by : Bool → List ℕ → List ℕ → Option ((Bool × Ranges × Bool) × List ℕ)
class_by true text cs = class_of true (take_all class_atom_spelling atoms_spelling take_atom cs)
class_by false text cs = class_of false (take_all class_atom_spelling atoms_spelling take_atom text)

-- whether it is negated, what is in it, and whether a `-` ends it, behind its bracket
abbrev pub take_class : List ℕ → Option ((Bool × Ranges × Bool) × List ℕ)
take_class [] = None
take_class (c ∷ cs) = class_by (c == byte "^") (c ∷ cs) cs

-- its contents are told
takes_contents : (n : Bool) (r : Ranges) (e : Bool) → AreItems n r → MayEnd e r → (cs : List ℕ)
    → class_of n (take_all class_atom_spelling atoms_spelling take_atom (ranges_spelling r ++ (ending_spelling e ++ cs))) ≡ Some ((n, r, e), cs)
takes_contents n r e h w cs =
    let xs = flat r (last_dash e) in
    ap (λ z. class_of n (take_all class_atom_spelling atoms_spelling take_atom z)) (sym (spelled e))
    ∙ ap (class_of n)
    (all_are class_atom_spelling atoms_spelling take_atom refl (λ x xs. refl) xs (byte "]" ∷ cs)
    (told_flat n r h (byte "]" ∷ cs) (last_dash e) (told_dash e)) refl)
    ∙ ap (λ s. Some ((n, s.0, s.1), cs)) (grows_flat n r h (last_dash e) ∙ ends_so r e w)
  where
    -- as they are spelled
    spelled : (e : Bool) → atoms_spelling (flat r (last_dash e)) ++ byte "]" ∷ cs ≡ ranges_spelling r ++ (ending_spelling e ++ cs)
    spelled false = ap (λ z. z ++ byte "]" ∷ cs) (flat_spelled r []) ∙ append_assoc (ranges_spelling r) [] (byte "]" ∷ cs)
    spelled true = ap (λ z. z ++ byte "]" ∷ cs) (flat_spelled r (hyphen ∷ [])) ∙ append_assoc (ranges_spelling r) (byte "-" ∷ []) (byte "]" ∷ cs)

    -- the last `-` is told
    told_dash : (e : Bool) → AreTold (last_dash e) (byte "]" ∷ cs)
    told_dash false = tt
    told_dash true = (refl, omega arith, tt)

-- the text does not begin with a `^`
abbrev NoCaret : List ℕ → Type 0
NoCaret [] = ⊥
NoCaret (c ∷ cs) = (c == byte "^") ≡ false

-- an atom that is none does not
atom_begins : (x : ClassAtom) → is_caret x ≡ false → (v : List ℕ) → NoCaret (class_atom_spelling x ++ v)
atom_begins (class_plain c) h v = h
atom_begins hyphen h v = refl
atom_begins (class_escaped c) h v = refl
atom_begins (class_control c) h v = refl
atom_begins (class_set c) h v = refl
atom_begins backspace h v = refl
atom_begins (class_coded k) h v = refl
atom_begins (class_property n e) h v = refl

-- a class that has nothing is followed by no such text
abbrev StartsSo : Ranges → List ℕ → Type 0
StartsSo no_ranges v = NoCaret v
StartsSo r v = Unit {0}

-- the first atom does not begin with one
first_begins : (r : Ranges) (x : ClassAtom) (v : List ℕ) → MayFollow false r x → StartsSo r (class_atom_spelling x ++ v)
first_begins no_ranges x v h = atom_begins x h v
first_begins (with_one r y) x v h = tt
first_begins (with_range r y z) x v h = tt

-- nor does a class that is not negated
contents_begin : (r : Ranges) → AreItems false r → (v : List ℕ) → StartsSo r v → NoCaret (ranges_spelling r ++ v)
contents_begin no_ranges h v w = w
contents_begin (with_one r x) h v w =
    subst NoCaret (sym (append_assoc (ranges_spelling r) (class_atom_spelling x) v))
    (contents_begin r h.0 (class_atom_spelling x ++ v) (first_begins r x v h.2.0))
contents_begin (with_range r x y) h v w =
    let u = byte "-" ∷ (class_atom_spelling y ++ v) in
    subst NoCaret
    (sym (append_assoc (ranges_spelling r ++ class_atom_spelling x) (byte "-" ∷ class_atom_spelling y) v
    ∙ append_assoc (ranges_spelling r) (class_atom_spelling x) u))
    (contents_begin r h.0 (class_atom_spelling x ++ u) (first_begins r x u h.1.1.0))

-- behind its bracket
plain_class : (v : List ℕ) → NoCaret v → take_class v ≡ class_of false (take_all class_atom_spelling atoms_spelling take_atom v)
plain_class [] h = absurd h
plain_class (c ∷ cs) h = ap (λ b. class_by b (c ∷ cs) cs) h

-- what stands behind the bracket
abbrev pub behind_bracket : Bool → List ℕ → List ℕ
behind_bracket false v = v
behind_bracket true v = byte "^" ∷ v

-- so a class is told
pub takes_class : (n : Bool) (r : Ranges) (e : Bool) → AreItems n r → MayEnd e r → (cs : List ℕ)
    → take_class (behind_bracket n ((ranges_spelling r ++ ending_spelling e) ++ cs)) ≡ Some ((n, r, e), cs)
takes_class true r e h w cs =
    ap (λ z. take_class (byte "^" ∷ z)) (append_assoc (ranges_spelling r) (ending_spelling e) cs) ∙ takes_contents true r e h w cs
takes_class false r e h w cs =
    ap take_class (append_assoc (ranges_spelling r) (ending_spelling e) cs)
    ∙ plain_class (ranges_spelling r ++ (ending_spelling e ++ cs)) (contents_begin r h (ending_spelling e ++ cs) (starts r e)) ∙ takes_contents false r e h w cs
  where
    -- nor does the end
    ends : (e : Bool) → NoCaret (ending_spelling e ++ cs)
    ends false = refl
    ends true = refl

    -- by whether there is something before it
    starts : (r : Ranges) (e : Bool) → StartsSo r (ending_spelling e ++ cs)
    starts no_ranges e = ends e
    starts (with_one r y) e = tt
    starts (with_range r y z) e = tt
