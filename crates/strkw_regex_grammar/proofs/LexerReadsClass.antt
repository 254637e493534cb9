-- A class is read from its spelling.
use Rattle.std.proofs.Common.{◌≡◌, inl, inr, ℕ, Bool, true, false, ◌&&◌, List, [], ◌∷◌, ◌++◌, Option, None, refl, sym, ap, subst, ◌∙◌, append_assoc}
use Rattle.std.proofs.Common.{true≢false, arith}
use Rattle.std.proofs.lemmas.Bool.Decides.{nat_tests}
use Rattle.std.specs.Str.{byte}
use Rattle.strkw_regex_grammar.specs.Escapes.{Escape}
use Rattle.strkw_regex_grammar.specs.Codes.{Code, null_code, letter_code, byte_code, unit_code, pair_code, point_code, code_spelling, is_lead}
use Rattle.strkw_regex_grammar.specs.Codes.{is_trail, hex_number}
use Rattle.strkw_charset.specs.Properties.{Expression, property_of, expression_spelling, property_letter}
use Rattle.strkw_charset.specs.declared.tree.CharSet.{CharSet}
use Rattle.std.specs.Prelude.{option_map}
use Rattle.strkw_regex_grammar.specs.Classes.{ClassToken, ClassAtom, class_plain, hyphen, class_escaped, class_control, class_set, backspace}
use Rattle.strkw_regex_grammar.specs.Classes.{class_coded, class_property, Ranges, no_ranges, with_one, with_range, class_atom_spelling}
use Rattle.strkw_regex_grammar.specs.Classes.{ranges_spelling, negation_spelling, ending_spelling, is_hyphen, is_caret, MayEnd}
use Rattle.strkw_regex_grammar.specs.Regex.{IsEscape, is_property, IsPropertyExpression, IsClassItem, is_lead_item, is_trail_item, MayStandBehind}
use Rattle.strkw_regex_grammar.specs.Regex.{AreItems, bracketed, leaf_spelling, IsLeaf}
use Rattle.strkw_regex_grammar.specs.machine.CodeMakers.{pair_value}
use Rattle.strkw_charset.specs.machine.PropertyReading.{PropertyPart, brace_awaited, PropertyRead, no_property_read, property_goes, property_ends}
use Rattle.strkw_charset.specs.machine.PropertyReading.{property_next}
use Rattle.strkw_regex_grammar.specs.machine.Lexemes as lexeme
use Rattle.strkw_regex_grammar.specs.machine.Lexemes.{Lexeme, Form, Item, set_item, property_item, char_item, code_item, lead_item, trail_item, number_item}
use Rattle.strkw_regex_grammar.specs.machine.Lexemes.{item_of, item_sets, range_sets, keep, kept_from, ranges_sets, class_sets, hyphen_item}
use Rattle.strkw_regex_grammar.specs.machine.Lexing.{Mode, between, class_opened, in_class, class_numbering, in_class_property, Class, Pending, fresh}
use Rattle.strkw_regex_grammar.specs.machine.Lexing.{one, dashed, ranged, is_range, pending_if, took_behind, took_dashed, took_ranged}
use Rattle.strkw_regex_grammar.specs.machine.Lexing.{sets_behind, with_item, within, whole, known_if}
use Rattle.strkw_regex_grammar.specs.machine.Lexing.{class_property_lexed, on_class_token, on_class_escape, on_class_number, on_class_property}
use Rattle.strkw_regex_grammar.specs.machine.Lexing.{on_bracket, lexed_if}
use Rattle.strkw_regex_grammar.specs.machine.NumberReading.{NumberPart, NumberRead, no_number, number_goes, number_ends, number_next}
use Rattle.strkw_regex_grammar.specs.machine.NumberReading.{unit_opened}
use Rattle.strkw_regex_grammar.proofs.CodeReadings.{lead_small, trail_small}
use Rattle.strkw_regex_grammar.proofs.PropertyReadings.{follow_property, reads_property}
use Rattle.strkw_regex_grammar.proofs.LexerItems.{class_with, lead_value, LeadView, lead_view, TrailView, trail_view}
use Rattle.strkw_regex_grammar.proofs.LexerItems.{same_range, lead_sets, keep_none}
use Rattle.strkw_regex_grammar.proofs.LexerClasses.{lead_is, trail_is, value_is}
use Rattle.strkw_regex_grammar.proofs.LexerReads.{goes_whole, follow_number, reads_unit, reads_letter, reads_byte, reads_braces}
use Rattle.strkw_regex_grammar.proofs.LexerRuns.{run, past, stepped}

-- a trailing surrogate is no leading one
trail_alone : (n : ℕ) → is_trail n ≡ true → is_lead n ≡ false
trail_alone n h = grind (arith, nat_tests)

-- nothing is pending that a `-` would make a range of
abbrev IsNoAtom : Pending → Type 0
IsNoAtom fresh = Unit {0}
IsNoAtom (one x) = ⊥
IsNoAtom (dashed x) = Unit {0}
IsNoAtom (ranged x n) = Unit {0}

module _ {S : Type 0} (b : Bool) (step : S → Lexeme → Option S) (s : S) where
  -- where the rest leads, in a mode
  abbrev go : Mode → List ℕ → Option S
  go m cs = run b step s m cs

  -- in a class
  abbrev go_in : Class → List ℕ → Option S
  go_in k cs = go (in_class k) cs

  -- behind a class that may be missing
  abbrev then : Option Class → List ℕ → Option S
  then o cs = past b step s (within o) cs

  -- and behind an item
  abbrev with_one_more : Class → Item → List ℕ → Option S
  with_one_more k y cs = then (with_item k y) cs

  module _ (p : Class) where
    -- behind a part of an escape by a number in a class, and behind a whole one
    abbrev number_behind : NumberPart → List ℕ → Option S
    number_behind k cs = go (class_numbering p k) cs

    abbrev number_whole : Form → ℕ → List ℕ → Option S
    number_whole f n cs = with_one_more p (number_item f n) cs

    -- the rest leads where it does behind what comes of a character of one
    number_turns : (o : NumberRead) (cs : List ℕ) → past b step s (on_class_number p o) cs ≡ follow_number number_behind number_whole o cs
    number_turns no_number cs = refl
    number_turns (number_goes k) cs = refl
    number_turns (number_ends f n) cs = refl

    -- the same of a character
    turn : (k : NumberPart) (c : ℕ) (cs : List ℕ) → number_behind k (c ∷ cs) ≡ follow_number number_behind number_whole (number_next k c) cs
    turn k c cs = number_turns (number_next k c) cs

    -- behind a part of a property in a class, and behind a whole one
    abbrev property_behind : PropertyPart → List ℕ → Option S
    property_behind k cs = go (in_class_property p k) cs

    abbrev property_whole : Bool → Expression → List ℕ → Option S
    property_whole n e cs = past b step s (class_property_lexed p n (known_if (is_property e) (property_of e))) cs

    -- the rest leads where it does behind what comes of a character of one
    property_turns : (o : PropertyRead) (cs : List ℕ)
        → past b step s (on_class_property p o) cs ≡ follow_property property_behind property_whole o cs
    property_turns no_property_read cs = refl
    property_turns (property_goes k) cs = refl
    property_turns (property_ends n e) cs = refl

    -- behind the backslash and the letter a brace is awaited
    property_begins : (n : Bool) (cs : List ℕ)
        → go_in p (byte "\\" ∷ property_letter n ∷ cs) ≡ go (in_class_property p (brace_awaited n)) cs
    property_begins false cs = refl
    property_begins true cs = refl

    -- so a property is read from its spelling
    reads_class_property : (n : Bool) (e : Expression) → IsPropertyExpression e → (cs : List ℕ)
        → go_in p (class_atom_spelling (class_property n e) ++ cs) ≡ with_one_more p (property_item n (property_of e)) cs
    reads_class_property n e h cs =
        property_begins n (byte "{" ∷ ((expression_spelling e ++ byte "}" ∷ []) ++ cs))
        ∙ reads_property property_behind property_whole (λ k c cs. property_turns (property_next k c) cs) n e h.0 cs
        ∙ ap (λ (z : Bool). past b step s (class_property_lexed p n (known_if z (property_of e))) cs) h.1

    -- `\u` and four digits
    reads_class_unit : (ds : List ℕ) → IsEscape (unit_code ds) → (cs : List ℕ)
        → go_in p (byte "\\" ∷ byte "u" ∷ (ds ++ cs)) ≡ with_one_more p (item_of (class_coded (unit_code ds))) cs
    reads_class_unit ds h cs = reads_unit number_behind number_whole turn ds h cs

    -- a trailing surrogate
    reads_trail : (es : List ℕ) → IsEscape (unit_code es) → is_trail (hex_number es) ≡ true → (cs : List ℕ)
        → go_in p (byte "\\" ∷ byte "u" ∷ (es ++ cs)) ≡ with_one_more p (trail_item (hex_number es)) cs
    reads_trail es h t cs =
        reads_class_unit es h cs ∙ ap (λ i. with_one_more p i cs) (trail_is es (trail_alone (hex_number es) t) t)

  -- what an item that is no surrogate leaves of another before it
  one_behind : (o : Option (List CharSet)) (n : Bool) (x : Item) (m : ℕ) (cs : List ℕ)
      → with_one_more (class_with n o (one x)) (code_item m) cs ≡ go_in (class_with n (keep o (item_sets x)) (one (code_item m))) cs
  one_behind o n (set_item c) m cs = refl
  one_behind o n (property_item z p) m cs = refl
  one_behind o n (char_item c) m cs = refl
  one_behind o n (code_item c) m cs = refl
  one_behind o n (lead_item c) m cs = refl
  one_behind o n (trail_item c) m cs = refl

  -- so does a leading surrogate
  lead_behind : (o : Option (List CharSet)) (n : Bool) (x : Item) (m : ℕ) (cs : List ℕ)
      → with_one_more (class_with n o (one x)) (lead_item m) cs ≡ go_in (class_with n (keep o (item_sets x)) (one (lead_item m))) cs
  lead_behind o n (set_item c) m cs = refl
  lead_behind o n (property_item z p) m cs = refl
  lead_behind o n (char_item c) m cs = refl
  lead_behind o n (code_item c) m cs = refl
  lead_behind o n (lead_item c) m cs = refl
  lead_behind o n (trail_item c) m cs = refl

  -- behind a leading surrogate a trailing one makes one character with it
  pair_behind : (n : Bool) (o : Option (List CharSet)) (p : Pending) (m : ℕ) (es : List ℕ) → IsEscape (unit_code es) → is_trail (hex_number es) ≡ true
      → (cs : List ℕ)
      → with_one_more (class_with n o p) (lead_item m) (byte "\\" ∷ byte "u" ∷ (es ++ cs))
      ≡ with_one_more (class_with n o p) (code_item (pair_value m (hex_number es))) cs
  pair_behind n o fresh m es h t cs = reads_trail (class_with n o (one (lead_item m))) es h t cs
  pair_behind n o (one x) m es h t cs =
      lead_behind o n x m (byte "\\" ∷ byte "u" ∷ (es ++ cs)) ∙ reads_trail (class_with n (keep o (item_sets x)) (one (lead_item m))) es h t cs
      ∙ sym (one_behind o n x (pair_value m (hex_number es)) cs)
  pair_behind n o (dashed x) m es h t cs = reads_trail (class_with n o (ranged x m)) es h t cs
  pair_behind n o (ranged x k) m es h t cs = by_test (is_range x (lead_item k)) (reads_trail (class_with n None (one (lead_item m))) es h t cs)
    where
      -- by whether the range before is in order
      by_test : (z : Bool)
          → go_in (class_with n None (one (lead_item m))) (byte "\\" ∷ byte "u" ∷ (es ++ cs)) ≡ go_in (class_with n None (one (code_item (pair_value m (hex_number es))))) cs
          → then (option_map (class_with n None) (pending_if z (one (lead_item m)))) (byte "\\" ∷ byte "u" ∷ (es ++ cs))
          ≡ then (option_map (class_with n None) (pending_if z (one (code_item (pair_value m (hex_number es)))))) cs
      by_test false e = refl
      by_test true e = e

  -- an escape by a number is read from its spelling, and the class takes it where it may
  reads_class_code : (p : Class) (d : Code) → IsEscape d → (cs : List ℕ)
      → go_in p (byte "\\" ∷ (code_spelling d ++ cs)) ≡ with_one_more p (item_of (class_coded d)) cs
  reads_class_code p null_code h cs = refl
  reads_class_code p (letter_code c) h cs = reads_letter (number_behind p) (number_whole p) (turn p) c h cs
  reads_class_code p (byte_code ds) h cs = reads_byte (number_behind p) (number_whole p) (turn p) ds h cs
  reads_class_code p (unit_code ds) h cs = reads_class_unit p ds h cs
  reads_class_code p (pair_code ds es) h cs =
      let rest = byte "\\" ∷ byte "u" ∷ (es ++ cs) in
      ap (go (class_numbering p unit_opened)) (append_assoc ds (byte "\\" ∷ byte "u" ∷ es) cs)
      ∙ reads_class_unit p ds (h.0.0.0, lead_small (hex_number ds) h.0.0.1) rest
      ∙ ap (λ i. with_one_more p i rest) (lead_is ds h.0.0.1)
      ∙ pair_behind p.negated p.sets p.pending (hex_number ds) es (h.0.1, trail_small (hex_number es) h.0.2) h.0.2 cs
  reads_class_code p (point_code ds) h cs = reads_braces (number_behind p) (number_whole p) (turn p) ds h cs

  -- an atom that is no `-` is read from its spelling, and the class takes it where it may
  reads_inside : (p : Class) (y : ClassAtom) → IsClassItem y → is_hyphen y ≡ false → (cs : List ℕ)
      → go_in p (class_atom_spelling y ++ cs) ≡ with_one_more p (item_of y) cs
  reads_inside p (class_plain c) h w cs = ap (λ (k : ClassToken). past b step s (on_class_token p c k) cs) h
  reads_inside p hyphen h w cs = absurd (true≢false w)
  reads_inside p (class_escaped c) h w cs = ap (λ (k : Escape). past b step s (on_class_escape p c k) cs) h
  reads_inside p (class_control c) h w cs = ap (λ (k : Escape). past b step s (on_class_escape p c k) cs) h
  reads_inside p (class_set c) h w cs = ap (λ (k : Escape). past b step s (on_class_escape p c k) cs) h
  reads_inside p backspace h w cs = refl
  reads_inside p (class_coded d) h w cs = reads_class_code p d h cs
  reads_inside p (class_property n e) h w cs = reads_class_property p n e h cs

  -- so is a `-` where no atom is pending
  reads_hyphen : (n : Bool) (o : Option (List CharSet)) (p : Pending) → IsNoAtom p → (cs : List ℕ)
      → go_in (class_with n o p) (byte "-" ∷ cs) ≡ with_one_more (class_with n o p) hyphen_item cs
  reads_hyphen n o fresh h cs = refl
  reads_hyphen n o (one x) h cs = absurd h
  reads_hyphen n o (dashed x) h cs = refl
  reads_hyphen n o (ranged x m) h cs = refl

  -- and any atom there
  reads_any : (n : Bool) (o : Option (List CharSet)) (p : Pending) (y : ClassAtom) → IsNoAtom p → IsClassItem y → (cs : List ℕ)
      → go_in (class_with n o p) (class_atom_spelling y ++ cs) ≡ with_one_more (class_with n o p) (item_of y) cs
  reads_any n o p (class_plain c) a h cs = reads_inside (class_with n o p) (class_plain c) h refl cs
  reads_any n o p hyphen a h cs = reads_hyphen n o p a cs
  reads_any n o p (class_escaped c) a h cs = reads_inside (class_with n o p) (class_escaped c) h refl cs
  reads_any n o p (class_control c) a h cs = reads_inside (class_with n o p) (class_control c) h refl cs
  reads_any n o p (class_set c) a h cs = reads_inside (class_with n o p) (class_set c) h refl cs
  reads_any n o p backspace a h cs = reads_inside (class_with n o p) backspace h refl cs
  reads_any n o p (class_coded d) a h cs = reads_inside (class_with n o p) (class_coded d) h refl cs
  reads_any n o p (class_property m e) a h cs = reads_inside (class_with n o p) (class_property m e) h refl cs

  -- a class with nothing in it yet
  abbrev empty : Bool → Class
  empty n = class_with n (kept_from b) fresh

  -- behind `[`, an atom that is no `^` is read as one with nothing before it
  opens_class : (y : ClassAtom) → IsClassItem y → is_caret y ≡ false → (cs : List ℕ)
      → go class_opened (class_atom_spelling y ++ cs) ≡ go_in (empty false) (class_atom_spelling y ++ cs)
  opens_class (class_plain c) h w cs = ap (λ (z : Bool). past b step s (on_bracket b c z) cs) w
  opens_class hyphen h w cs = refl
  opens_class (class_escaped c) h w cs = refl
  opens_class (class_control c) h w cs = refl
  opens_class (class_set c) h w cs = refl
  opens_class backspace h w cs = refl
  opens_class (class_coded d) h w cs = refl
  opens_class (class_property false e) h w cs = refl
  opens_class (class_property true e) h w cs = refl

  -- behind the opening bracket and the `^`
  abbrev start : Bool → Mode
  start false = class_opened
  start true = in_class (empty true)

  -- behind a range, by whether it is up to a leading surrogate
  abbrev range_place : Bool → Ranges → ClassAtom → ClassAtom → Bool → Mode
  range_place n r x y false = in_class (class_with n (ranges_sets b (with_range r x y)) fresh)
  range_place n r x y true = in_class (class_with n (ranges_sets b r) (ranged (item_of x) (lead_value y)))

  -- behind the spelling of these
  abbrev place : Bool → Ranges → Mode
  place n no_ranges = start n
  place n (with_one r x) = in_class (class_with n (ranges_sets b r) (one (item_of x)))
  place n (with_range r x y) = range_place n r x y (is_lead_item y)

  -- behind these and one atom more
  abbrev one_place : Bool → Ranges → ClassAtom → Mode
  one_place n r y = in_class (class_with n (ranges_sets b r) (one (item_of y)))

  -- the first atom is read
  reads_start : (n : Bool) (y : ClassAtom) → IsClassItem y → MayStandBehind n no_ranges y → (cs : List ℕ)
      → go (start n) (class_atom_spelling y ++ cs) ≡ go (one_place n no_ranges y) cs
  reads_start false y h w cs = opens_class y h w.0 cs ∙ reads_any false (kept_from b) fresh y tt h cs
  reads_start true y h w cs = reads_any true (kept_from b) fresh y tt h cs

  -- an atom that is no trailing surrogate behind a leading one leaves the one before it as it is
  abbrev Stays : ClassAtom → ClassAtom → Type 0
  Stays x y =
      (o : Option (List CharSet))
      → (took_behind (item_of x) (item_of y) ≡ one (item_of y)) × (sets_behind (item_of x) (item_of y) o ≡ keep o (item_sets (item_of x)))

  -- two atoms that are no pair stay two
  stay_two : (x y : ClassAtom) → (is_lead_item x && is_trail_item y) ≡ false → LeadView x → TrailView y → Stays x y
  stay_two x y h (inr v) t o = (v.1.behind (item_of y), v.1.sets (item_of y) o)
  stay_two x y h (inl v) (inr t) o = (t.1.behind (item_of x), t.1.sets (item_of x) o)
  stay_two x y h (inl v) (inl t) o =
      absurd (true≢false (sym (ap (λ z. z && is_trail_item y) (ap is_lead_item v.1 ∙ v.2) ∙ ap is_trail_item t.1 ∙ t.2) ∙ h))

  -- a range up to a leading surrogate has no sets
  no_sets : (r : Ranges) (x z : ClassAtom) → is_lead_item z ≡ true → ranges_sets b (with_range r x z) ≡ None
  no_sets r x z l =
      ap (λ i. keep (ranges_sets b r) (range_sets (item_of x) i)) (value_is z (lead_view z) l)
      ∙ ap (keep (ranges_sets b r)) (lead_sets (item_of x) (lead_value z)) ∙ keep_none (ranges_sets b r)

  -- so an atom is read behind such a range, to whose surrogate it does not belong
  reads_ranged : (n : Bool) (r : Ranges) (x z y : ClassAtom) → is_lead_item z ≡ true → is_range (item_of x) (item_of z) ≡ true
      → (is_lead_item z && is_trail_item y) ≡ false → TrailView y → (cs : List ℕ)
      → with_one_more (class_with n (ranges_sets b r) (ranged (item_of x) (lead_value z))) (item_of y) cs ≡ go (one_place n (with_range r x z) y) cs
  reads_ranged n r x z y l m h (inr t) cs =
      ap (λ o. then (option_map (class_with n o) (took_ranged (item_of x) (lead_value z) (item_of y))) cs) (t.1.range_sets (item_of x) (lead_value z) (ranges_sets b r))
      ∙ ap (λ o. then (option_map (class_with n None) o) cs)
      (t.1.ranged (item_of x) (lead_value z)
      ∙ ap (λ u. pending_if u (one (item_of y))) (ap (is_range (item_of x)) (sym (value_is z (lead_view z) l)) ∙ m))
      ∙ ap (λ o. go_in (class_with n o (one (item_of y))) cs) (sym (no_sets r x z l))
  reads_ranged n r x z y l m h (inl t) cs =
      absurd (true≢false (sym (ap (λ u. u && is_trail_item y) l ∙ ap is_trail_item t.1 ∙ t.2) ∙ h))

  -- and behind any range
  reads_behind_range : (n : Bool) (r : Ranges) (x z y : ClassAtom) (u : Bool) → is_lead_item z ≡ u → is_range (item_of x) (item_of z) ≡ true
      → (is_lead_item z && is_trail_item y) ≡ false → IsClassItem y → (cs : List ℕ)
      → go (range_place n r x z u) (class_atom_spelling y ++ cs) ≡ go (one_place n (with_range r x z) y) cs
  reads_behind_range n r x z y false e m w h cs = reads_any n (ranges_sets b (with_range r x z)) fresh y tt h cs
  reads_behind_range n r x z y true e m w h cs =
      reads_any n (ranges_sets b r) (ranged (item_of x) (lead_value z)) y tt h cs ∙ reads_ranged n r x z y e m w (trail_view y) cs

  -- and behind any atoms and ranges
  reads_one : (n : Bool) (r : Ranges) (y : ClassAtom) → AreItems n r → IsClassItem y → MayStandBehind n r y → (cs : List ℕ)
      → go (place n r) (class_atom_spelling y ++ cs) ≡ go (one_place n r y) cs
  reads_one n no_ranges y a h w cs = reads_start n y h w cs
  reads_one n (with_one r x) y a h w cs =
      let stays = stay_two x y w.1 (lead_view x) (trail_view y) (ranges_sets b r) in
      reads_inside (class_with n (ranges_sets b r) (one (item_of x))) y h w.0 cs
      ∙ ap (λ p. go_in (class_with n (sets_behind (item_of x) (item_of y) (ranges_sets b r)) p) cs) stays.0
      ∙ ap (λ o. go_in (class_with n o (one (item_of y))) cs) stays.1
  reads_one n (with_range r x z) y a h w cs = reads_behind_range n r x z y (is_lead_item z) refl (same_range x z ∙ a.3) w.1 h cs

  -- the second atom of a range
  reads_second : (n : Bool) (r : Ranges) (x y : ClassAtom) → is_range (item_of x) (item_of y) ≡ true → LeadView y → (cs : List ℕ)
      → with_one_more (class_with n (ranges_sets b r) (dashed (item_of x))) (item_of y) cs ≡ go (range_place n r x y (is_lead_item y)) cs
  reads_second n r x y m (inl v) cs =
      subst (λ z. with_one_more (class_with n (ranges_sets b r) (dashed (item_of x))) (item_of z) cs ≡ go (range_place n r x z (is_lead_item z)) cs) (sym v.1)
      (ap (λ i. with_one_more (class_with n (ranges_sets b r) (dashed (item_of x))) i cs) (lead_is v.0 v.2)
      ∙ ap (λ z. go (range_place n r x (class_coded (unit_code v.0)) z) cs) (sym v.2))
  reads_second n r x y m (inr v) cs =
      ap (λ o. then (option_map (class_with n o) (took_dashed (item_of x) (item_of y))) cs) (v.1.range_sets (item_of x) (ranges_sets b r))
      ∙ ap (λ o. then (option_map (class_with n (ranges_sets b (with_range r x y))) o) cs) (v.1.dashed (item_of x) ∙ ap (λ z. pending_if z fresh) m)
      ∙ ap (λ z. go (range_place n r x y z) cs) (sym v.0)

  -- all atoms and ranges are read from their spelling
  reads_ranges : (n : Bool) (r : Ranges) → AreItems n r → (cs : List ℕ) → go (start n) (ranges_spelling r ++ cs) ≡ go (place n r) cs
  reads_ranges n no_ranges h cs = refl
  reads_ranges n (with_one r y) h cs =
      ap (go (start n)) (append_assoc (ranges_spelling r) (class_atom_spelling y) cs)
      ∙ reads_ranges n r h.0 (class_atom_spelling y ++ cs) ∙ reads_one n r y h.0 h.1 h.2 cs
  reads_ranges n (with_range r y z) h cs =
      let back = byte "-" ∷ class_atom_spelling z in
      ap (go (start n)) (append_assoc (ranges_spelling r ++ class_atom_spelling y) back cs
      ∙ append_assoc (ranges_spelling r) (class_atom_spelling y) (back ++ cs))
      ∙ reads_ranges n r h.0 (class_atom_spelling y ++ (back ++ cs)) ∙ reads_one n r y h.0 h.1.0 h.1.1 (back ++ cs)
      ∙ reads_any n (ranges_sets b r) (dashed (item_of y)) z tt h.2 cs ∙ reads_second n r y z (same_range y z ∙ h.3) (lead_view z) cs

  -- behind a whole class
  abbrev closed : Bool → Option (List CharSet) → List ℕ → Option S
  closed n o cs = stepped b step (step s (lexeme.class n o)) between cs

  -- the closing bracket behind a range
  closes_range : (n : Bool) (r : Ranges) (x z : ClassAtom) (u : Bool) → is_lead_item z ≡ u → is_range (item_of x) (item_of z) ≡ true → (cs : List ℕ)
      → go (range_place n r x z u) (byte "]" ∷ cs) ≡ closed n (ranges_sets b (with_range r x z)) cs
  closes_range n r x z false e m cs = goes_whole b step s (lexeme.class n (ranges_sets b (with_range r x z))) cs
  closes_range n r x z true e m cs =
      ap (λ u. past b step s (lexed_if u (whole (lexeme.class n None))) cs) (ap (is_range (item_of x)) (sym (value_is z (lead_view z) e)) ∙ m)
      ∙ goes_whole b step s (lexeme.class n None) cs ∙ ap (λ o. closed n o cs) (sym (no_sets r x z e))

  -- the end of a class is read
  reads_end : (n : Bool) (r : Ranges) (e : Bool) → AreItems n r → MayEnd e r → (cs : List ℕ)
      → go (place n r) (ending_spelling e ++ cs) ≡ closed n (class_sets b r e) cs
  reads_end false no_ranges false a h cs = goes_whole b step s (lexeme.class false (kept_from b)) cs
  reads_end true no_ranges false a h cs = goes_whole b step s (lexeme.class true (kept_from b)) cs
  reads_end n (with_one r y) false a h cs = goes_whole b step s (lexeme.class n (class_sets b (with_one r y) false)) cs
  reads_end n (with_range r y z) false a h cs = closes_range n r y z (is_lead_item z) refl (same_range y z ∙ a.3) cs
  reads_end n no_ranges true a h cs = absurd h
  reads_end n (with_one r y) true a h cs = goes_whole b step s (lexeme.class n (class_sets b (with_one r y) true)) cs
  reads_end n (with_range r y z) true a h cs = absurd h

  -- the opening bracket and the `^` are read
  begins : (n : Bool) (cs : List ℕ) → go between (negation_spelling n ++ cs) ≡ go (start n) cs
  begins false cs = refl
  begins true cs = refl

  -- so a class is read from its spelling
  pub reads_class : (n : Bool) (r : Ranges) (e : Bool) → IsLeaf (bracketed n r e) → (cs : List ℕ)
      → go between (leaf_spelling (bracketed n r e) ++ cs) ≡ closed n (class_sets b r e) cs
  reads_class n r e h cs =
      ap (go between) (append_assoc (negation_spelling n ++ ranges_spelling r) (ending_spelling e) cs
      ∙ append_assoc (negation_spelling n) (ranges_spelling r) (ending_spelling e ++ cs))
      ∙ begins n (ranges_spelling r ++ (ending_spelling e ++ cs)) ∙ reads_ranges n r h.0 (ending_spelling e ++ cs) ∙ reads_end n r e h.0 h.1 cs
