-- What is told of a pattern that is refused holds of its text.
use Rattle.std.proofs.Common.{◌≡◌, inl, inr, ℕ, ◌<◌, ◌≤◌, ◌==◌, nat_lt, nat_le, Bool, true, false, not, ◌&&◌, ◌||◌, List, [], ◌∷◌, ◌++◌, Option}
use Rattle.std.proofs.Common.{IfSome, length, refl, sym, ap, subst, ◌∙◌, append_assoc, true≢false, arith}
use Rattle.std.proofs.lemmas.Bool.Decides.{nat_tests}
use Rattle.std.specs.Str.{byte}
use Rattle.strkw_charset.specs.Properties.{has_property_chars, property_letter, expression_spelling, is_unknown}
use Rattle.strkw_charset.specs.machine.PropertyReading.{PropertyPart, brace_awaited, in_braces}
use Rattle.strkw_charset.proofs.Booleans.{and_left, and_right}
use Rattle.strkw_regex_grammar.specs.Codes.{has_digits}
use Rattle.strkw_regex_grammar.specs.Names.{name_spelling}
use Rattle.strkw_regex_grammar.specs.Numbers.{is_digit, are_digits, number}
use Rattle.strkw_regex_grammar.specs.Regex.{opens, IsPart, begins_with_zero}
use Rattle.strkw_regex_grammar.specs.Syntax.{Enclosing}
use Rattle.strkw_regex_grammar.specs.Syntax.{enclosing_spelling, of_group as group_of, capturing}
use Rattle.strkw_regex_grammar.specs.machine.Lexemes.{cap_number}
use Rattle.strkw_regex_grammar.specs.machine.Lexing.{Count, low, high, Mode, between, escaping, opening, extending, class_opened, calling, counting}
use Rattle.strkw_regex_grammar.specs.machine.Lexing.{numbering, in_class, class_escaping, class_numbering, in_property, in_class_property, naming}
use Rattle.strkw_regex_grammar.specs.machine.Lexing.{name_escaping, name_coding, referring}
use Rattle.strkw_regex_grammar.specs.machine.Lexing.{held}
use Rattle.strkw_regex_grammar.specs.declared.lexer.naming.Naming.TheVariants as namings
use Rattle.strkw_regex_grammar.proofs.Letters.{same_char}
use Rattle.strkw_regex_grammar.proofs.CodeReadings.{coding_spelling}
use Rattle.strkw_regex_grammar.proofs.LexerFollows.{Written}
use Rattle.strkw_regex_grammar.proofs.PropertyReadings.{part_spelling as property_part_spelling}
use Rattle.strkw_regex_reader.specs.Limits.{max_count, max_nesting}
use Rattle.strkw_regex_reader.specs.Refusals.{is_reference, is_needlessly_escaped, IsReason}
use Rattle.strkw_regex_reader.specs.declared.refusals.PatternRefusal.{PatternRefusal}
use Rattle.strkw_regex_reader.specs.declared.refusals.PatternRefusal.TheVariants.{BackReference, IdentityEscape, Property as UnknownProperty, TooDeep}
use Rattle.strkw_regex_reader.specs.declared.refusals.PatternRefusal.TheVariants.{CountTooGreat}
use Rattle.strkw_regex_reader.specs.machine.Building.{Builder}
use Rattle.strkw_regex_reader.specs.machine.Building.{is_great}
use Rattle.strkw_regex_reader.specs.machine.RefusalParts.{told_if, one_deeper, count_refusal, mode_refusal, property_refusal}
use Rattle.strkw_regex_reader.specs.machine.RefusalParts.{unless, behind, refusal_in}
use Rattle.strkw_regex_reader.proofs.Builds.{held_great}
use Rattle.strkw_regex_reader.proofs.Standing.{Base, Standing}
use Rattle.strkw_regex_reader.proofs.Terms.{at_term}

-- a count is great where its number is
pub great_number : (m : ℕ) → is_great (cap_number m) ≡ true → max_count < m
great_number m e = by_test (nat_le m max_count) refl (sym (held_great m) ∙ e)
  where
    -- by whether it is
    by_test : (z : Bool) → nat_le m max_count ≡ z → not z ≡ true → max_count < m
    by_test true k h = absurd (true≢false (sym h))
    by_test false k h = grind (arith, nat_tests)

-- and else it is not
pub small_number : (m : ℕ) → is_great (cap_number m) ≡ false → nat_le m max_count ≡ true
small_number m e = by_test (nat_le m max_count) (sym (held_great m) ∙ e)
  where
    -- by whether it is
    by_test : (z : Bool) → not z ≡ false → z ≡ true
    by_test true h = refl
    by_test false h = absurd (true≢false h)

-- so it is not above the greatest
pub small_at_most : (m : ℕ) → nat_le m max_count ≡ true → m ≤ max_count
small_at_most m h = grind (arith, nat_tests)

-- where it is not less, it is at least as great
not_less : (n m : ℕ) → nat_lt n m ≡ false → m ≤ n
not_less n m h = grind (arith, nat_tests)

-- and where it is not at most so great, it is greater
pub not_at_most : (n m : ℕ) → nat_le n m ≡ false → m < n
not_at_most n m h = grind (arith, nat_tests)

-- a digit that is no zero begins a back reference
digit_refers : (c : ℕ) → is_digit c ≡ true → (c == byte "0") ≡ false → is_reference c ≡ true
digit_refers c h k = grind (arith, nat_tests)

module _ (text : List ℕ) where
  -- what is told holds of the text
  abbrev pub Told : Option PatternRefusal → Type 0
  Told w = IfSome w (IsReason text)

  -- so it is where it is told under a test
  told_under : (z : Bool) (r : PatternRefusal) → (z ≡ true → IsReason text r) → Told (told_if z r)
  told_under false r h = tt
  told_under true r h = h refl

  module _ (s : Builder) (front : List ℕ) (b : Base s front) where
    -- a count, as far as it has been read
    count_told : (n : Count) (under suffix : List ℕ) → Written true (counting n) under → front ++ (under ++ suffix) ≡ text → Told (count_refusal n)
    count_told (low ds) under suffix h e =
        told_under (is_great (held ds)) CountTooGreat (λ k. (
          ds,
          h.0,
          great_number (number ds) k,
          inl (length s.groups, at_term s front b (byte "{" ∷ ds) suffix text (ap (λ z. front ++ (z ++ suffix)) (sym h.1) ∙ e)),
        ))
    count_told (high ds es) under suffix h e = by_tests (is_great (held ds)) (is_great (held es)) refl refl
      where
        -- the text, with both numbers
        both : front ++ ((byte "{" ∷ (ds ++ byte "," ∷ es)) ++ suffix) ≡ text
        both = ap (λ z. front ++ (z ++ suffix)) (sym h.2) ∙ e

        -- by which is great
        by_tests : (x y : Bool) → is_great (held ds) ≡ x → is_great (held es) ≡ y → Told (told_if (x || y) CountTooGreat)
        by_tests true y k l = (
          ds,
          h.0.0,
          great_number (number ds) k,
          inl (
            length s.groups,
            at_term s front b (byte "{" ∷ ds) (byte "," ∷ (es ++ suffix)) text
                (ap (λ z. front ++ byte "{" ∷ z) (sym (append_assoc ds (byte "," ∷ es) suffix)) ∙ both),
          ),
        )
        by_tests false true k l = (
          es,
          h.1,
          great_number (number es) l,
          inr (
            ds,
            h.0,
            small_at_most (number ds) (small_number (number ds) k),
            (length s.groups, at_term s front b (byte "{" ∷ (ds ++ byte "," ∷ es)) suffix text both),
          ),
        )
        by_tests false false k l = tt

    -- a back reference by a number
    pub reference_told : (ds suffix : List ℕ) → has_digits ds ≡ true → are_digits ds ≡ true → begins_with_zero ds ≡ false
        → front ++ byte "\\" ∷ (ds ++ suffix) ≡ text → IsReason text BackReference
    reference_told [] suffix h f z e = absurd (true≢false (sym h))
    reference_told (d ∷ ds) suffix h f z e =
        (d, digit_refers d (and_left (is_digit d) _ f) z, (length s.groups, at_term s front b (byte "\\" ∷ d ∷ []) (ds ++ suffix) text e))

    -- and by a name
    pub call_told : (suffix : List ℕ) → front ++ byte "\\" ∷ byte "k" ∷ suffix ≡ text → IsReason text BackReference
    call_told suffix e = (byte "k", refl, (length s.groups, at_term s front b (byte "\\" ∷ byte "k" ∷ []) suffix text e))

    -- what is under way, whatever comes next
    pub mode_told : (m : Mode) (under suffix : List ℕ) → Written true m under → front ++ (under ++ suffix) ≡ text → Told (mode_refusal m)
    mode_told between under suffix h e = tt
    mode_told escaping under suffix h e = tt
    mode_told opening under suffix h e = tt
    mode_told extending under suffix h e = tt
    mode_told class_opened under suffix h e = tt
    mode_told calling under suffix h e = call_told suffix (ap (λ z. front ++ (z ++ suffix)) (sym h) ∙ e)
    mode_told (counting n) under suffix h e = count_told n under suffix h e
    mode_told (numbering k) under suffix h e = tt
    mode_told (in_class k) under suffix h e = tt
    mode_told (class_escaping k) under suffix h e = tt
    mode_told (class_numbering k j) under suffix h e = tt
    mode_told (in_property k) under suffix h e = tt
    mode_told (in_class_property k j) under suffix h e = tt
    mode_told (naming namings.Group n) under suffix h e = tt
    mode_told (naming namings.Reference n) under suffix h e =
        call_told (byte "<" ∷ (name_spelling h.0 ++ suffix)) (ap (λ z. front ++ (z ++ suffix)) (sym h.3) ∙ e)
    mode_told (name_escaping namings.Group n) under suffix h e = tt
    mode_told (name_escaping namings.Reference n) under suffix h e =
        call_told _ (ap (λ z. front ++ ((z ++ byte "\\" ∷ []) ++ suffix)) (sym h.1.3) ∙ ap (λ z. front ++ (z ++ suffix)) (sym h.2) ∙ e)
    mode_told (name_coding namings.Group n k) under suffix h e = tt
    mode_told (name_coding namings.Reference n k) under suffix h e =
        call_told _ (ap (λ z. front ++ ((z ++ byte "\\" ∷ coding_spelling h.1) ++ suffix)) (sym h.2.3) ∙ ap (λ z. front ++ (z ++ suffix)) (sym h.5) ∙ e)
    mode_told (referring n) under suffix h e =
        reference_told h.0 suffix h.1.1 h.1.0 h.2 (ap (λ z. front ++ (z ++ suffix)) (sym h.4) ∙ e)

    -- one group or lookaround more
    pub deeper_told : (g : Enclosing) (after : List ℕ) → IsPart (opens g) → front ++ (enclosing_spelling g ++ after) ≡ text
        → nat_lt (length s.groups) max_nesting ≡ false → IsReason text TooDeep
    deeper_told g after f e k =
        (length s.groups, g, not_less (length s.groups) max_nesting k, f, at_term s front b (enclosing_spelling g) after text e)

    -- under the test of how deep it is
    depth_told : (after : List ℕ) → front ++ byte "(" ∷ after ≡ text → (z : Bool) → nat_lt (length s.groups) max_nesting ≡ z → Told (one_deeper z)
    depth_told after e false k = deeper_told (group_of capturing) after tt e k
    depth_told after e true k = tt

    -- the next character, by what is under way
    pub next_told : (m : Mode) (under : List ℕ) (c : ℕ) (rest : List ℕ) → Written true m under → front ++ (under ++ c ∷ rest) ≡ text → Told (refusal_in s m c)
    next_told escaping under c rest h e =
        told_under (is_needlessly_escaped c) (IdentityEscape c) (λ k.
        (k, (length s.groups, at_term s front b (byte "\\" ∷ c ∷ []) rest text (ap (λ z. front ++ (z ++ c ∷ rest)) (sym h) ∙ e))))
    next_told opening under c rest h e =
        depth_told (c ∷ rest) (ap (λ z. front ++ (z ++ c ∷ rest)) (sym h) ∙ e) (nat_lt (length s.groups) max_nesting) refl
    next_told between under c rest h e = tt
    next_told extending under c rest h e = tt
    next_told class_opened under c rest h e = tt
    next_told calling under c rest h e = mode_told calling under (c ∷ rest) h e
    next_told (counting n) under c rest h e = mode_told (counting n) under (c ∷ rest) h e
    next_told (numbering k) under c rest h e = tt
    next_told (in_class k) under c rest h e = tt
    next_told (class_escaping k) under c rest h e = tt
    next_told (class_numbering k j) under c rest h e = tt
    next_told (in_property k) under c rest h e = tt
    next_told (in_class_property k j) under c rest h e = tt
    next_told (naming g n) under c rest h e = mode_told (naming g n) under (c ∷ rest) h e
    next_told (name_escaping g n) under c rest h e = mode_told (name_escaping g n) under (c ∷ rest) h e
    next_told (name_coding g n k) under c rest h e = mode_told (name_coding g n k) under (c ∷ rest) h e
    next_told (referring n) under c rest h e = mode_told (referring n) under (c ∷ rest) h e

  -- what is told where no leading surrogate stands last holds, and behind one nothing is told
  pub behind_told : (s : Builder) (front : List ℕ) (w : Option PatternRefusal) → Standing s front → (Base s front → Told w) → Told (behind s.last w)
  behind_told s front w (inl b) f = subst (λ z. Told (unless z w)) (sym b.whole) (f b)
  behind_told s front w (inr l) f = subst (λ x. Told (behind x w)) (sym l.last) tt

  -- the characters of a property
  abbrev pub has_chars : PropertyPart → Type 0
  has_chars (brace_awaited n) = Unit {0}
  has_chars (in_braces n x) = has_property_chars x ≡ true

  -- a property that is not known
  pub property_told : (k : PropertyPart) (c : ℕ) (before rest : List ℕ) → has_chars k → before ++ byte "\\" ∷ (property_part_spelling k ++ c ∷ rest) ≡ text
      → Told (property_refusal k c)
  property_told (brace_awaited n) c before rest h e = tt
  property_told (in_braces n x) c before rest h e =
      told_under (c == byte "}" && is_unknown x) UnknownProperty (λ k. (
        n,
        x,
        h,
        and_right (c == byte "}") _ k,
        (
          before,
          rest,
          ap (λ z. before ++ byte "\\" ∷ property_letter n ∷ byte "{" ∷ z) (append_assoc (expression_spelling x) (byte "}" ∷ []) rest)
              ∙ ap (λ z. before ++ byte "\\" ∷ property_letter n ∷ byte "{" ∷ (expression_spelling x ++ z ∷ rest))
              (same_char c (byte "}") (and_left (c == byte "}") _ k))
              ∙ e,
        ),
      ))
