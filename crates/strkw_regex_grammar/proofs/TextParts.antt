-- The parts of a pattern can be told from its text.
use Rattle.std.proofs.Common.{◌≡◌, ℕ, ◌==◌, Bool, true, false, ◌&&◌, List, [], ◌∷◌, ◌++◌, Option, Some, None, refl, sym, ap, subst, ◌∙◌, append_assoc}
use Rattle.std.proofs.Common.{true≢false, arith}
use Rattle.std.specs.Prelude.{option_and_then}
use Rattle.std.specs.Str.{byte}
use Rattle.std.proofs.lemmas.List.{append-nil}
use Rattle.std.proofs.lemmas.Bool.Decides.{nat_tests}
use Rattle.strkw_charset.specs.Properties.{Expression}
use Rattle.strkw_charset.proofs.Booleans.{and_left, and_true}
use Rattle.strkw_regex_grammar.specs.Codes.{Code, null_code, letter_code, byte_code, unit_code, pair_code, point_code, is_lead, is_trail, hex_number, AreCodeDigits}
use Rattle.strkw_regex_grammar.specs.Escapes.{Escape, itself, control, set, boundary, no_boundary, property}
use Rattle.strkw_regex_grammar.specs.Escapes.{no_property, unknown, escape}
use Rattle.strkw_regex_grammar.specs.Classes.{Ranges}
use Rattle.strkw_regex_grammar.specs.Names.{NameChar, verbatim, by_code, name_spelling, Extension, uncaptured, name_opening, look_equals, look_negation}
use Rattle.strkw_regex_grammar.specs.Names.{no_extension, extension, NameToken, name_equals, name_negation}
use Rattle.strkw_regex_grammar.specs.Names.{name_token, IsName, is_name_start}
use Rattle.strkw_regex_grammar.specs.Numbers.{is_digit}
use Rattle.strkw_regex_grammar.specs.Syntax as token
use Rattle.strkw_regex_grammar.specs.Syntax.{Token, Quantifier, zero_or_more, one_or_more, zero_or_one, exactly, at_least, from_to, capturing, plain_group, named}
use Rattle.strkw_regex_grammar.specs.Syntax.{of_group, of_lookbehind, of_lookahead}
use Rattle.strkw_regex_grammar.specs.Regex.{at_start, at_end, at_boundary, at_no_boundary, Leaf, plain, dot, escaped, control_escape, set_escape}
use Rattle.strkw_regex_grammar.specs.Regex.{coded, property_escape, numbered, called as calls_for, bracketed, Part, bar, edge, leaf, opens, closes}
use Rattle.strkw_regex_grammar.specs.Regex.{repeats, part_spelling, spelling, IsLeaf, IsPart, MayPrecede, AreParts, begins_with_digit}
use Rattle.strkw_regex_grammar.specs.Regex.{is_lead_code, begins_with_trail, IsRepetition}
use Rattle.strkw_regex_grammar.specs.machine.Recognising.{Last, none}
use Rattle.strkw_regex_grammar.proofs.RegexTrees.{Shape, shape_step, shapes, is_closed_shape}
use Rattle.strkw_regex_grammar.proofs.LexerComplete.{Begins, parts_begin}
use Rattle.strkw_regex_grammar.proofs.LexerReads.{escape_of_digit}
use Rattle.strkw_regex_grammar.proofs.NameParts.{token_of_name, start_apart}
use Rattle.strkw_regex_grammar.proofs.TextPieces.{span, starts, take_code, takes_code, take_expression, takes_expression, take_name, takes_name, take_count}
use Rattle.strkw_regex_grammar.proofs.TextPieces.{digit_span, takes_exactly, takes_at_least, takes_from_to, take_all, Each, all_are}
use Rattle.strkw_regex_grammar.proofs.TextClasses.{take_class, takes_class}

-- of one part, where a pair of surrogates is two
abbrev Taken : Type 0
Taken = Option (Part × List ℕ)

abbrev coded_part : Option (Code × List ℕ) → Taken
coded_part None = None
coded_part (Some r) = Some (leaf (coded r.0), r.1)

abbrev property_part : Bool → Option (Expression × List ℕ) → Taken
property_part n None = None
property_part n (Some r) = Some (leaf (property_escape n r.0), r.1)

abbrev class_part : Option ((Bool × Ranges × Bool) × List ℕ) → Taken
class_part None = None
class_part (Some r) = Some (leaf (bracketed r.0.0 r.0.1 r.0.2), r.1)

abbrev count_part : Option (Quantifier × List ℕ) → Taken
count_part None = None
count_part (Some r) = Some (repeats r.0, r.1)

abbrev call_part : Option (List NameChar × List ℕ) → Taken
call_part None = None
call_part (Some r) = Some (leaf (calls_for r.0), r.1)

abbrev named_part : Option (List NameChar × List ℕ) → Taken
named_part None = None
named_part (Some r) = Some (opens (of_group (named r.0)), r.1)

abbrev number_part : List ℕ × List ℕ → Taken
number_part r = Some (leaf (numbered r.0), r.1)

-- behind `\k`
abbrev take_call : List ℕ → Taken
take_call [] = None
take_call (c ∷ cs) = call_part (take_name cs)

abbrev reference_by : Bool → ℕ → List ℕ → Taken
reference_by true c cs = number_part (span is_digit (c ∷ cs))
reference_by false c cs = take_call cs

abbrev escape_by : Escape → ℕ → List ℕ → Taken
escape_by itself c cs = Some (leaf (escaped c), cs)
escape_by control c cs = Some (leaf (control_escape c), cs)
escape_by set c cs = Some (leaf (set_escape c), cs)
escape_by boundary c cs = Some (edge at_boundary, cs)
escape_by no_boundary c cs = Some (edge at_no_boundary, cs)
escape_by property c cs = property_part false (take_expression cs)
escape_by no_property c cs = property_part true (take_expression cs)
escape_by unknown c cs = reference_by (is_digit c) c cs
escape_by k c cs = coded_part (take_code false (c ∷ cs))

-- behind a backslash
abbrev take_escape : List ℕ → Taken
take_escape [] = None
take_escape (c ∷ cs) = escape_by (escape c) c cs

abbrev behind_by : NameToken → List ℕ → List ℕ → Taken
behind_by name_equals text cs = Some (opens (of_lookbehind false), cs)
behind_by name_negation text cs = Some (opens (of_lookbehind true), cs)
behind_by k text cs = named_part (take_name text)

-- behind `(?<`
abbrev take_behind : List ℕ → Taken
take_behind [] = None
take_behind (c ∷ cs) = behind_by (name_token c) (c ∷ cs) cs

abbrev extension_by : Extension → List ℕ → Taken
extension_by uncaptured cs = Some (opens (of_group plain_group), cs)
extension_by look_equals cs = Some (opens (of_lookahead false), cs)
extension_by look_negation cs = Some (opens (of_lookahead true), cs)
extension_by name_opening cs = take_behind cs
extension_by no_extension cs = None

-- behind `(?`
abbrev take_extension : List ℕ → Taken
take_extension [] = None
take_extension (c ∷ cs) = extension_by (extension c) cs

abbrev group_by : Bool → List ℕ → List ℕ → Taken
group_by true text cs = take_extension cs
group_by false text cs = Some (opens (of_group capturing), text)

-- behind `(`
abbrev take_group : List ℕ → Taken
take_group [] = None
take_group (c ∷ cs) = group_by (c == byte "?") (c ∷ cs) cs

abbrev part_by : Token → ℕ → List ℕ → Taken
part_by token.bar c cs = Some (bar, cs)
part_by token.asterisk c cs = Some (repeats zero_or_more, cs)
part_by token.plus c cs = Some (repeats one_or_more, cs)
part_by token.question c cs = Some (repeats zero_or_one, cs)
part_by token.caret c cs = Some (edge at_start, cs)
part_by token.dollar c cs = Some (edge at_end, cs)
part_by token.opening c cs = take_group cs
part_by token.closing c cs = Some (closes, cs)
part_by token.point c cs = Some (leaf dot, cs)
part_by token.backslash c cs = take_escape cs
part_by token.bracket c cs = class_part (take_class cs)
part_by token.brace c cs = count_part (take_count cs)
part_by token.character c cs = Some (leaf (plain c), cs)
part_by token.other c cs = None

-- the part that a text begins with, and the rest
abbrev take_part : List ℕ → Taken
take_part [] = None
take_part (c ∷ cs) = part_by (token.token c) c cs

-- the part, of a pair the two, before others
abbrev units : Part → List Part → List Part
units (leaf (coded (pair_code ds es))) ps = leaf (coded (unit_code ds)) ∷ leaf (coded (unit_code es)) ∷ ps
units p ps = p ∷ ps

abbrev flat : List Part → List Part
flat [] = []
flat (p ∷ ps) = units p (flat ps)

-- they are told at the beginning of a text
abbrev AreTold : List Part → Type 0
AreTold ps = Each part_spelling spelling take_part ps []

-- behind a text that these are spelled so
abbrev Told : Part → List Part → Type 0
Told p ps = AreTold ps → AreTold (units p ps)

-- the text of parts at the end
ends : (ps : List Part) → spelling ps ++ [] ≡ spelling ps
ends ps = append-nil (spelling ps)

-- an escape by a number is told
told_code : (k : Code) → AreCodeDigits k → (ps : List Part) → Told (leaf (coded k)) ps
told_code null_code h ps e = (refl, omega arith, e)
told_code (letter_code c) h ps e = (refl, omega arith, e)
told_code (byte_code ds) h ps e = (ap coded_part (takes_code false (byte_code ds) h tt (spelling ps ++ [])), omega arith, e)
told_code (unit_code ds) h ps e = (ap coded_part (takes_code false (unit_code ds) h refl (spelling ps ++ [])), omega arith, e)
told_code (pair_code ds es) h ps e = (
  ap coded_part (takes_code false (unit_code ds) h.0.0 refl (spelling (leaf (coded (unit_code es)) ∷ ps) ++ [])),
  omega arith,
  (ap coded_part (takes_code false (unit_code es) h.1 refl (spelling ps ++ [])), omega arith, e),
)
told_code (point_code ds) h ps e = (ap coded_part (takes_code false (point_code ds) h tt (spelling ps ++ [])), omega arith, e)

-- a leaf is
told_leaf : (l : Leaf) → IsLeaf l → (ps : List Part) → MayPrecede (leaf l) ps → begins_with_digit (spelling (flat ps)) ≡ begins_with_digit (spelling ps)
    → Told (leaf l) (flat ps)
told_leaf (plain c) h ps m w e = (ap (λ t. part_by t c (spelling (flat ps) ++ [])) h, omega arith, e)
told_leaf dot h ps m w e = (refl, omega arith, e)
told_leaf (escaped c) h ps m w e = (ap (λ t. escape_by t c (spelling (flat ps) ++ [])) h, omega arith, e)
told_leaf (control_escape c) h ps m w e = (ap (λ t. escape_by t c (spelling (flat ps) ++ [])) h, omega arith, e)
told_leaf (set_escape c) h ps m w e = (ap (λ t. escape_by t c (spelling (flat ps) ++ [])) h, omega arith, e)
told_leaf (coded k) h ps m w e = told_code k h.0 (flat ps) e
told_leaf (property_escape false v) h ps m w e = (ap (property_part false) (takes_expression v h.0 (spelling (flat ps) ++ [])), omega arith, e)
told_leaf (property_escape true v) h ps m w e = (ap (property_part true) (takes_expression v h.0 (spelling (flat ps) ++ [])), omega arith, e)
told_leaf (numbered []) h ps m w e = absurd (true≢false (sym h.0.1))
told_leaf (numbered (d ∷ ds)) h ps m w e =
    let cs = spelling (flat ps) ++ [] in
    let is = and_left (is_digit d) _ h.0.0 in (
      ap (λ t. escape_by t d (ds ++ cs)) (escape_of_digit d is h.1) ∙ ap (λ b. reference_by b d (ds ++ cs)) is
          ∙ ap number_part (digit_span (d ∷ ds) cs h.0.0 (first cs (ap begins_with_digit (ends (flat ps)) ∙ w ∙ m))),
      omega arith,
      e,
    )
  where
    -- no digit is first
    first : (cs : List ℕ) → begins_with_digit cs ≡ false → starts is_digit cs ≡ false
    first [] h = refl
    first (c ∷ cs) h = h
told_leaf (calls_for n) h ps m w e = (ap call_part (takes_name n h (spelling (flat ps) ++ [])), omega arith, e)
told_leaf (bracketed false r z) h ps m w e =
    (ap class_part (takes_class false r z h.0 h.1 (spelling (flat ps) ++ [])), omega arith, e)
told_leaf (bracketed true r z) h ps m w e =
    (ap class_part (takes_class true r z h.0 h.1 (spelling (flat ps) ++ [])), omega arith, e)

-- a name behind `(?<`
told_name : (n : List NameChar) → IsName n → (cs : List ℕ)
    → take_behind ((name_spelling n ++ byte ">" ∷ []) ++ cs) ≡ Some (opens (of_group (named n)), cs)
told_name [] h cs = absurd h
told_name (verbatim c ∷ n) h cs =
    let text = (name_spelling (verbatim c ∷ n) ++ byte ">" ∷ []) ++ cs in
    ap (λ t. behind_by t text ((name_spelling n ++ byte ">" ∷ []) ++ cs)) (token_of_name is_name_start start_apart c h.0)
    ∙ ap named_part (takes_name (verbatim c ∷ n) h cs)
told_name (by_code k ∷ n) h cs = ap named_part (takes_name (by_code k ∷ n) h cs)

-- what opens a group that captures, before a text that begins with no question mark
told_capture : (cs : List ℕ) → Begins cs → take_group cs ≡ Some (opens (of_group capturing), cs)
told_capture [] h = absurd h
told_capture (c ∷ cs) h = ap (λ b. group_by b (c ∷ cs) cs) h

-- a quantifier
told_quantifier : (q : Quantifier) → IsRepetition q → (ps : List Part) → Told (repeats q) ps
told_quantifier zero_or_more h ps e = (refl, omega arith, e)
told_quantifier one_or_more h ps e = (refl, omega arith, e)
told_quantifier zero_or_one h ps e = (refl, omega arith, e)
told_quantifier (exactly ds) h ps e = (ap count_part (takes_exactly ds h.0 (spelling ps ++ [])), omega arith, e)
told_quantifier (at_least ds) h ps e = (ap count_part (takes_at_least ds h.0 (spelling ps ++ [])), omega arith, e)
told_quantifier (from_to ds []) h ps e = absurd (true≢false (sym h.1.1))
told_quantifier (from_to ds (d ∷ es)) h ps e = (ap count_part (takes_from_to ds d es h.0.0 h.1.0 (spelling ps ++ [])), omega arith, e)

-- the parts are spelled as before
units_spelled : (p : Part) (ps : List Part) → spelling (units p ps) ≡ part_spelling p ++ spelling ps
units_spelled bar ps = refl
units_spelled (edge e) ps = refl
units_spelled (leaf (plain c)) ps = refl
units_spelled (leaf dot) ps = refl
units_spelled (leaf (escaped c)) ps = refl
units_spelled (leaf (control_escape c)) ps = refl
units_spelled (leaf (set_escape c)) ps = refl
units_spelled (leaf (coded null_code)) ps = refl
units_spelled (leaf (coded (letter_code c))) ps = refl
units_spelled (leaf (coded (byte_code ds))) ps = refl
units_spelled (leaf (coded (unit_code ds))) ps = refl
units_spelled (leaf (coded (pair_code ds es))) ps =
    ap (λ z. byte "\\" ∷ byte "u" ∷ z) (sym (append_assoc ds (byte "\\" ∷ byte "u" ∷ es) (spelling ps)))
units_spelled (leaf (coded (point_code ds))) ps = refl
units_spelled (leaf (property_escape n e)) ps = refl
units_spelled (leaf (numbered ds)) ps = refl
units_spelled (leaf (calls_for n)) ps = refl
units_spelled (leaf (bracketed n r e)) ps = refl
units_spelled (opens e) ps = refl
units_spelled closes ps = refl
units_spelled (repeats q) ps = refl

-- all of them
flat_spelled : (ps : List Part) → spelling (flat ps) ≡ spelling ps
flat_spelled [] = refl
flat_spelled (p ∷ ps) = units_spelled p (flat ps) ∙ ap (λ z. part_spelling p ++ z) (flat_spelled ps)

-- parts that close what they open are told
told_parts : (gs : List Bool) (x : Last) (ps : List Part) → AreParts ps → is_closed_shape (shapes gs x ps) ≡ true → AreTold (flat ps)
told_parts gs x [] h w = tt
told_parts gs x (p ∷ ps) h w = by_shape (λ hs y v. told_parts hs y ps h.2 v) (shape_step gs x p) refl w
  where
    -- a part that may stand there is, where the rest are
    told : (p : Part) → IsPart p → MayPrecede p ps → is_closed_shape (option_and_then (λ (t : Shape). shapes t.0 t.1 ps) (shape_step gs x p)) ≡ true
        → Told p (flat ps)
    told bar h m w e = (refl, omega arith, e)
    told (edge at_start) h m w e = (refl, omega arith, e)
    told (edge at_end) h m w e = (refl, omega arith, e)
    told (edge at_boundary) h m w e = (refl, omega arith, e)
    told (edge at_no_boundary) h m w e = (refl, omega arith, e)
    told (leaf l) h m w e = told_leaf l h ps m (ap begins_with_digit (flat_spelled ps)) e
    told (opens (of_group capturing)) i m w e = (
      told_capture (spelling (flat ps) ++ []) (subst Begins (sym (ends (flat ps) ∙ flat_spelled ps)) (parts_begin true gs ps h.2 w)),
      omega arith,
      e,
    )
    told (opens (of_group plain_group)) h m w e = (refl, omega arith, e)
    told (opens (of_group (named n))) h m w e = (told_name n h (spelling (flat ps) ++ []), omega arith, e)
    told (opens (of_lookbehind false)) h m w e = (refl, omega arith, e)
    told (opens (of_lookbehind true)) h m w e = (refl, omega arith, e)
    told (opens (of_lookahead false)) h m w e = (refl, omega arith, e)
    told (opens (of_lookahead true)) h m w e = (refl, omega arith, e)
    told closes h m w e = (refl, omega arith, e)
    told (repeats q) h m w e = told_quantifier q h (flat ps) e

    -- by the shape behind it
    by_shape : ((hs : List Bool) (y : Last) → is_closed_shape (shapes hs y ps) ≡ true → AreTold (flat ps))
        → (o : Option Shape) → shape_step gs x p ≡ o → is_closed_shape (option_and_then (λ (t : Shape). shapes t.0 t.1 ps) o) ≡ true
        → AreTold (units p (flat ps))
    by_shape f None e v = absurd (true≢false (sym v))
    by_shape f (Some t) e v = told p h.0 h.1 w (f t.0 t.1 v)

-- of pairs
abbrev joined_if : Bool → Part → List Part → List Part
joined_if true (leaf (coded (unit_code ds))) (leaf (coded (unit_code es)) ∷ ps) = leaf (coded (pair_code ds es)) ∷ ps
joined_if z p ps = p ∷ ps

-- whether it is a leading surrogate
abbrev is_lead_part : Part → Bool
is_lead_part (leaf (coded k)) = is_lead_code k
is_lead_part p = false

-- surrogates that make a pair are one part
abbrev joined : Part → List Part → List Part
joined p ps = joined_if (is_lead_part p && begins_with_trail ps) p ps

abbrev all_joined : List Part → List Part
all_joined [] = []
all_joined (p ∷ ps) = joined p (all_joined ps)

-- what may stand before others is not joined with them
stays : (p : Part) (ps : List Part) → (is_lead_part p && begins_with_trail ps) ≡ false → joined p ps ≡ p ∷ ps
stays p ps h = ap (λ b. joined_if b p ps) h

-- no leading surrogate is a trailing one
trail_no_lead : (n : ℕ) → is_trail n ≡ true → is_lead n ≡ false
trail_no_lead n h = grind (arith, nat_tests)

-- a part that is no leading surrogate may stand before any
no_pair : (b c : Bool) → b ≡ false → (b && c) ≡ false
no_pair b c h = ap (λ z. z && c) h

-- so the parts are joined again
joined_units : (p : Part) → IsPart p → (ps : List Part) → MayPrecede p ps → (qs : List Part) → all_joined qs ≡ ps → all_joined (units p qs) ≡ p ∷ ps
joined_units bar h ps m qs e = ap (λ z. bar ∷ z) e
joined_units (edge d) h ps m qs e = ap (λ z. edge d ∷ z) e
joined_units (leaf (plain c)) h ps m qs e = ap (λ z. leaf (plain c) ∷ z) e
joined_units (leaf dot) h ps m qs e = ap (λ z. leaf dot ∷ z) e
joined_units (leaf (escaped c)) h ps m qs e = ap (λ z. leaf (escaped c) ∷ z) e
joined_units (leaf (control_escape c)) h ps m qs e = ap (λ z. leaf (control_escape c) ∷ z) e
joined_units (leaf (set_escape c)) h ps m qs e = ap (λ z. leaf (set_escape c) ∷ z) e
joined_units (leaf (coded null_code)) h ps m qs e = ap (λ z. leaf (coded null_code) ∷ z) e
joined_units (leaf (coded (letter_code c))) h ps m qs e = ap (λ z. leaf (coded (letter_code c)) ∷ z) e
joined_units (leaf (coded (byte_code ds))) h ps m qs e = ap (λ z. leaf (coded (byte_code ds)) ∷ z) e
joined_units (leaf (coded (unit_code ds))) h ps m qs e =
    ap (joined (leaf (coded (unit_code ds)))) e ∙ stays (leaf (coded (unit_code ds))) ps m
joined_units (leaf (coded (pair_code ds es))) h ps m qs e =
    ap (λ z. joined (leaf (coded (unit_code ds))) (joined (leaf (coded (unit_code es))) z)) e
    ∙ ap (joined (leaf (coded (unit_code ds))))
    (stays (leaf (coded (unit_code es))) ps (no_pair (is_lead (hex_number es)) (begins_with_trail ps) (trail_no_lead (hex_number es) h.0.2)))
    ∙ ap (λ b. joined_if b (leaf (coded (unit_code ds))) (leaf (coded (unit_code es)) ∷ ps))
    (and_true _ _ h.0.0.1 h.0.2)
joined_units (leaf (coded (point_code ds))) h ps m qs e = ap (λ z. leaf (coded (point_code ds)) ∷ z) e
joined_units (leaf (property_escape n v)) h ps m qs e = ap (λ z. leaf (property_escape n v) ∷ z) e
joined_units (leaf (numbered ds)) h ps m qs e = ap (λ z. leaf (numbered ds) ∷ z) e
joined_units (leaf (calls_for n)) h ps m qs e = ap (λ z. leaf (calls_for n) ∷ z) e
joined_units (leaf (bracketed n r v)) h ps m qs e = ap (λ z. leaf (bracketed n r v) ∷ z) e
joined_units (opens v) h ps m qs e = ap (λ z. opens v ∷ z) e
joined_units closes h ps m qs e = ap (λ z. closes ∷ z) e
joined_units (repeats q) h ps m qs e = ap (λ z. repeats q ∷ z) e

-- all of them
joined_flat : (ps : List Part) → AreParts ps → all_joined (flat ps) ≡ ps
joined_flat [] h = refl
joined_flat (p ∷ ps) h = joined_units p h.0 ps h.1 (flat ps) (joined_flat ps h.2)

-- the parts of a text
abbrev pub parts_in : List ℕ → List Part
parts_in text = all_joined (take_all part_spelling spelling take_part text).0

-- are those that it is spelled from
pub parts_are : (ps : List Part) → AreParts ps → is_closed_shape (shapes [] none ps) ≡ true → parts_in (spelling ps) ≡ ps
parts_are ps h w =
    ap parts_in (sym (flat_spelled ps) ∙ sym (ends (flat ps)))
    ∙ ap (λ r. all_joined r.0) (all_are part_spelling spelling take_part refl (λ p ps. refl) (flat ps) [] (told_parts [] none ps h w) refl)
    ∙ joined_flat ps h
