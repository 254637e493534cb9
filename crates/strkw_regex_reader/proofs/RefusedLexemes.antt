-- What is told where the builder refuses a lexeme, or the lexer a character.
use Rattle.std.proofs.Common.{◌≡◌, inl, inr, ℕ, ◌*◌, ◌<◌, ◌==◌, nat_lt, nat_le, Bool, true, false, ◌&&◌, ◌||◌, List, [], ◌∷◌, ◌++◌, Option, Some, None}
use Rattle.std.proofs.Common.{length, refl, sym, ap, subst, ◌∙◌, append_assoc, true≢false}
use Rattle.std.proofs.lemmas.List.{append-nil}
use Rattle.std.specs.Str.{byte}
use Rattle.strkw_charset.specs.Properties.{property_of}
use Rattle.strkw_charset.specs.declared.properties.Property.{Property}
use Rattle.strkw_charset.specs.declared.tree.CharSet.{CharSet}
use Rattle.strkw_regex_core.specs.Size.{max_term_steps}
use Rattle.strkw_regex_core.specs.machine.ProgramSteps.{steps}
use Rattle.strkw_regex_core.specs.machine.Times.{times_of, Times, copies}
use Rattle.strkw_regex_core.specs.machine.MarkedPattern.{MarkedPattern}
use Rattle.strkw_regex_grammar.specs.Codes.{null_code, letter_code, byte_code, unit_code, pair_code, point_code, hex_number, is_lead, is_trail, is_scalar}
use Rattle.strkw_regex_grammar.specs.machine.CodeMakers.{pair_value}
use Rattle.strkw_regex_grammar.specs.Names.{name_spelling, name_value}
use Rattle.strkw_regex_grammar.specs.Numbers.{is_digit, number}
use Rattle.strkw_regex_grammar.specs.Regex.{plain, dot, escaped, control_escape, set_escape, coded, property_escape, numbered, called, bracketed, Part}
use Rattle.strkw_regex_grammar.specs.Regex.{bar, edge, leaf, opens, closes, repeats, part_spelling, IsPart, atom_parts, spelling}
use Rattle.strkw_regex_grammar.specs.Syntax.{Quantifier, zero_or_more, one_or_more, zero_or_one, exactly, at_least, from_to, Enclosing, quantifier_spelling}
use Rattle.strkw_regex_grammar.specs.Syntax.{of_group as group_of, capturing, plain_group, named, of_lookbehind, of_lookahead, token}
use Rattle.strkw_regex_grammar.specs.machine.Lexemes as lexeme
use Rattle.strkw_regex_grammar.specs.machine.Lexemes.{Lexeme, Lexemes, single, double, lexemes, class_sets, cap_number}
use Rattle.strkw_regex_grammar.specs.machine.Lexing.{Mode, between, escaping, opening, extending, class_opened, calling, counting, numbering, in_class}
use Rattle.strkw_regex_grammar.specs.machine.Lexing.{class_escaping, class_numbering, in_property, in_class_property, naming, name_escaping}
use Rattle.strkw_regex_grammar.specs.machine.Lexing.{name_coding, referring, Lexed, refused, under_way, lexed, lexed_both, lexed_behind, Read, at}
use Rattle.strkw_regex_grammar.specs.machine.Lexing.{on_token, on_group, on_referring, lex_next}
use Rattle.strkw_regex_grammar.specs.declared.lexer.numbers.Form.{Form}
use Rattle.strkw_regex_grammar.specs.declared.lexer.numbers.Form.TheVariants.{Unit as unit_form, Other as other_form}
use Rattle.strkw_regex_grammar.proofs.Letters.{char_of_token}
use Rattle.strkw_regex_grammar.proofs.LexerFollows.{Written, Follows, is_number, token_follows}
use Rattle.strkw_regex_grammar.proofs.LexerSound.{IsWaiting, next_follows}
use Rattle.strkw_charset.specs.machine.PropertyReading.{PropertyPart, brace_awaited, in_braces}
use Rattle.strkw_regex_grammar.proofs.PropertyReadings.{part_spelling as property_part_spelling, IsPart as IsPropertyPart}
use Rattle.strkw_regex_reader.specs.Limits.{max_nesting}
use Rattle.strkw_regex_reader.specs.machine.Times.{times}
use Rattle.strkw_regex_reader.specs.Refusals.{IsReason}
use Rattle.strkw_regex_reader.specs.declared.refusals.PatternRefusal.{PatternRefusal}
use Rattle.strkw_regex_reader.specs.declared.refusals.PatternRefusal.TheVariants.{CountTooGreat, TermTooLarge}
use Rattle.strkw_regex_reader.specs.machine.Building.{Last, none, atom, lead, counted, Open, Builder, Built, takes, refuses, build, build_one, build_trail}
use Rattle.strkw_regex_reader.specs.machine.Building.{build_behind, is_great, number_if, lead_if, trail_if, property_built, class_built, open_if, opened}
use Rattle.strkw_regex_reader.specs.machine.Building.{close_in, whole_level, quantify_behind, question_behind, count_behind, small_if, great_if, with_name}
use Rattle.strkw_regex_reader.specs.machine.Reading.{Outcome, goes_on, stops, built_at, both_at, outcome_of_lexed, next}
use Rattle.strkw_regex_reader.specs.machine.RefusalParts.{refusal_at, unless, has_surrogate, property_refusal, property_at, char_refusal, refusal_at_end}
use Rattle.strkw_regex_reader.specs.declared.builder.Enclosing.{Enclosing as CodeEnclosing}
use Rattle.strkw_regex_reader.specs.declared.builder.Enclosing.TheVariants as enclosings
use Rattle.strkw_regex_reader.proofs.Builds.{one_of, held_small}
use Rattle.strkw_regex_reader.proofs.Standing.{Base, Standing}
use Rattle.strkw_regex_reader.proofs.Stands.{Stands, group_stands, reference_refused}
use Rattle.strkw_regex_reader.proofs.Terms.{at_term, last_atom}
use Rattle.strkw_regex_reader.proofs.Reasons.{great_number, small_number, small_at_most, not_at_most, Told, mode_told, deeper_told, next_told, call_told, reference_told}
use Rattle.strkw_regex_reader.proofs.Reasons.{behind_told, property_told, has_chars}
use Rattle.strkw_regex_core.specs.Size as size
use Rattle.strkw_regex_core.proofs.Terms.{copies_of}
use Rattle.strkw_regex_reader.specs.Patterns.{least, most}
use Rattle.strkw_regex_reader.proofs.TreeTerms.{atom_steps}

module _ (text : List ℕ) where
  -- what is told where something is refused
  abbrev Refuses : Built → Type 0
  Refuses (takes s) = Unit {0}
  Refuses (refuses w) = Told text w

  -- the same of a character
  abbrev pub Stops : Outcome → Type 0
  Stops (goes_on r) = Unit {0}
  Stops (stops w) = Told text w

  -- behind a leading surrogate no reason is told
  led_refuses : (s : Builder) (n : ℕ) (l : Lexeme) → Refuses (build_trail s n l)
  led_refuses s n lexeme.bar = tt
  led_refuses s n (lexeme.edge e) = tt
  led_refuses s n (lexeme.char c) = tt
  led_refuses s n lexeme.dot = tt
  led_refuses s n (lexeme.set c) = tt
  led_refuses s n (lexeme.property m o) = tt
  led_refuses s n (lexeme.class m o) = tt
  led_refuses s n (lexeme.reference m) = tt
  led_refuses s n (lexeme.call m) = tt
  led_refuses s n (lexeme.begins o) = tt
  led_refuses s n lexeme.ends = tt
  led_refuses s n (lexeme.repeats b) = tt
  led_refuses s n lexeme.question = tt
  led_refuses s n (lexeme.number unit_form m) = by_test (is_trail m && is_scalar (pair_value n m))
    where
      -- by whether it is one that may stand there
      by_test : (z : Bool) → Refuses (trail_if s n m z)
      by_test false = tt
      by_test true = tt
  led_refuses s n (lexeme.number other_form m) = tt

  module _ (s : Builder) where
    -- numbers, properties and classes are refused for no reason that is told
    lead_refuses : (n : ℕ) (z : Bool) → Refuses (lead_if s n z)
    lead_refuses n false = tt
    lead_refuses n true = tt

    number_refuses : (f : Form) (n : ℕ) (z : Bool) → Refuses (number_if s f n z)
    number_refuses f n true = tt
    number_refuses unit_form n false = lead_refuses n (is_lead n)
    number_refuses other_form n false = tt

    property_refuses : (n : Bool) (o : Option Property) → Refuses (property_built s n o)
    property_refuses n None = tt
    property_refuses n (Some p) = tt

    class_refuses : (n : Bool) (o : Option (List CharSet)) → Refuses (class_built s n o)
    class_refuses n None = tt
    class_refuses n (Some rs) = tt

    -- nor is what closes nothing
    close_refuses : (gs : List Open) (ns : List (List ℕ)) (p : MarkedPattern) → Refuses (close_in gs ns p)
    close_refuses [] ns p = tt
    close_refuses (o ∷ os) ns p = tt

    -- nor a quantifier behind no atom
    quantify_refuses : (x : Last) (t : Times) → Refuses (quantify_behind s x t)
    quantify_refuses none t = tt
    quantify_refuses (atom p) t = tt
    quantify_refuses (lead n) t = tt
    quantify_refuses (counted p) t = tt

    question_refuses : (x : Last) → Refuses (question_behind s x)
    question_refuses none = tt
    question_refuses (atom p) = tt
    question_refuses (lead n) = tt
    question_refuses (counted p) = tt

    module _ (front : List ℕ) (b : Base s front) (after : List ℕ) where
      -- a group or a lookaround that is too deep
      open_refuses : (c : CodeEnclosing) (u : Builder) (g : Enclosing) → IsPart (opens g) → front ++ (part_spelling (opens g) ++ after) ≡ text
          → (z : Bool) → nat_lt (length s.groups) max_nesting ≡ z → Refuses (open_if z (opened u c))
      open_refuses c u g f e true k = tt
      open_refuses c u g f e false k = deeper_told text s front b g after f e k

      -- a term that is too large
      term_refuses : (q : Quantifier) → IsPart (repeats q) → front ++ (quantifier_spelling q ++ after) ≡ text → (p : MarkedPattern) → s.last ≡ atom p
          → nat_le (copies (times q) * steps p) max_term_steps ≡ false → IsReason text TermTooLarge
      term_refuses q f e p k m =
          let last = last_atom s front b p k in (
            length s.groups,
            last.0,
            q,
            last.3,
            last.4,
            f,
            subst (λ z. max_term_steps < z)
                (ap (λ c. c * steps p) (copies_of (least q) (most q)) ∙ ap (λ z. size.copies (least q) (most q) * z) (ap steps (sym last.5) ∙ atom_steps last.0))
                (not_at_most (copies (times q) * steps p) max_term_steps m),
            (
              last.1,
              after,
              last.2,
              ap (λ z. last.1 ++ z) (append_assoc (spelling (atom_parts last.0)) (quantifier_spelling q) after)
                  ∙ sym (append_assoc last.1 (spelling (atom_parts last.0)) (quantifier_spelling q ++ after))
                  ∙ ap (λ z. z ++ (quantifier_spelling q ++ after)) last.6 ∙ e,
            ),
          )

      -- so it is with a count
      count_refuses : (q : Quantifier) → IsPart (repeats q) → front ++ (quantifier_spelling q ++ after) ≡ text → (x : Last) → s.last ≡ x
          → Refuses (count_behind s x (times q))
      count_refuses q f e none k = tt
      count_refuses q f e (lead n) k = tt
      count_refuses q f e (counted p) k = tt
      count_refuses q f e (atom p) k = by_test (nat_le (copies (times q) * steps p) max_term_steps) refl
        where
          -- by whether the term is small
          by_test : (z : Bool) → nat_le (copies (times q) * steps p) max_term_steps ≡ z → Refuses (small_if z (quantify_behind s (atom p) (times q)))
          by_test true m = tt
          by_test false m = term_refuses q f e p k m

      -- where it is not too great
      great_refuses : (z : Bool) (o : Built) → (z ≡ true → IsReason text CountTooGreat) → (z ≡ false → Refuses o) → Refuses (great_if z o)
      great_refuses false o f g = g refl
      great_refuses true o f g = f refl

      -- digits of a count that is too great
      exact_refuses : (ds rest : List ℕ) → IsPart (repeats (exactly ds)) → front ++ byte "{" ∷ (ds ++ rest) ≡ text → is_great (cap_number (number ds)) ≡ true
          → IsReason text CountTooGreat
      exact_refuses ds rest f e k =
          (ds, f.0, great_number (number ds) k, inl (length s.groups, at_term s front b (byte "{" ∷ ds) rest text e))

      -- what is told of each part, where it is refused
      abbrev RefusesAll : Lexemes → Type 0
      RefusesAll (single l) = Refuses (build_one s l)
      RefusesAll (double l k) = Unit {0}

      one_refuses : (p : Part) → IsPart p → is_number p ≡ false → front ++ (part_spelling p ++ after) ≡ text → RefusesAll (lexemes true p)
      one_refuses bar f i e = tt
      one_refuses (edge g) f i e = tt
      one_refuses (leaf (plain c)) f i e = tt
      one_refuses (leaf dot) f i e = tt
      one_refuses (leaf (escaped c)) f i e = tt
      one_refuses (leaf (control_escape c)) f i e = tt
      one_refuses (leaf (set_escape c)) f i e = tt
      one_refuses (leaf (coded null_code)) f i e = number_refuses other_form 0 (is_scalar 0)
      one_refuses (leaf (coded (letter_code c))) f i e = number_refuses other_form _ _
      one_refuses (leaf (coded (byte_code ds))) f i e = number_refuses other_form _ _
      one_refuses (leaf (coded (unit_code ds))) f i e = number_refuses unit_form (hex_number ds) (is_scalar (hex_number ds))
      one_refuses (leaf (coded (pair_code ds es))) f i e = tt
      one_refuses (leaf (coded (point_code ds))) f i e = number_refuses other_form _ _
      one_refuses (leaf (property_escape n x)) f i e = property_refuses n (property_of x)
      one_refuses (leaf (numbered ds)) f i e = absurd (true≢false i)
      one_refuses (leaf (called m)) f i e = call_told text s front b (byte "<" ∷ ((name_spelling m ++ byte ">" ∷ []) ++ after)) e
      one_refuses (leaf (bracketed n r x)) f i e = class_refuses n (class_sets true r x)
      one_refuses (opens (group_of capturing)) f i e = open_refuses enclosings.Group s (group_of capturing) f e _ refl
      one_refuses (opens (group_of plain_group)) f i e = open_refuses enclosings.Group s (group_of plain_group) f e _ refl
      one_refuses (opens (group_of (named m))) f i e = open_refuses enclosings.Group (with_name s (name_value m)) (group_of (named m)) f e _ refl
      one_refuses (opens (of_lookbehind n)) f i e = open_refuses (enclosings.Behind n) s (of_lookbehind n) f e _ refl
      one_refuses (opens (of_lookahead n)) f i e = open_refuses (enclosings.Ahead n) s (of_lookahead n) f e _ refl
      one_refuses closes f i e = close_refuses s.groups s.names (whole_level s.level s.last)
      one_refuses (repeats zero_or_more) f i e = quantify_refuses s.last _
      one_refuses (repeats one_or_more) f i e = quantify_refuses s.last _
      one_refuses (repeats zero_or_one) f i e = question_refuses s.last
      one_refuses (repeats (exactly ds)) f i e =
          great_refuses (is_great (cap_number (number ds))) _
          (λ k. exact_refuses ds (byte "}" ∷ after) f (ap (λ z. front ++ byte "{" ∷ z) (sym (append_assoc ds (byte "}" ∷ []) after)) ∙ e) k)
          (λ k. subst (λ n. Refuses (count_behind s s.last (times_of n (Some n)))) (sym (held_small (number ds) (small_number (number ds) k)))
          (count_refuses (exactly ds) f e s.last refl))
      one_refuses (repeats (at_least ds)) f i e =
          great_refuses (is_great (cap_number (number ds))) _
          (λ k. exact_refuses ds (byte "," ∷ byte "}" ∷ after) f
          (ap (λ z. front ++ byte "{" ∷ z) (sym (append_assoc ds (byte "," ∷ byte "}" ∷ []) after)) ∙ e) k)
          (λ k. subst (λ n. Refuses (count_behind s s.last (times_of n None))) (sym (held_small (number ds) (small_number (number ds) k)))
          (count_refuses (at_least ds) f e s.last refl))
      one_refuses (repeats (from_to ds es)) f i e = by_tests (is_great (cap_number (number ds))) (is_great (cap_number (number es))) refl refl
        where
          -- the text, with both numbers
          both : front ++ ((byte "{" ∷ (ds ++ byte "," ∷ es)) ++ byte "}" ∷ after) ≡ text
          both =
              ap (λ z. front ++ byte "{" ∷ z)
              (append_assoc ds (byte "," ∷ es) (byte "}" ∷ after) ∙ ap (λ z. ds ++ byte "," ∷ z) (sym (append_assoc es (byte "}" ∷ []) after))
              ∙ sym (append_assoc ds (byte "," ∷ (es ++ byte "}" ∷ [])) after)) ∙ e

          -- by which is great
          by_tests : (x y : Bool) → is_great (cap_number (number ds)) ≡ x → is_great (cap_number (number es)) ≡ y
              → Refuses (great_if (x || y) (count_behind s s.last (times_of (cap_number (number ds)) (Some (cap_number (number es))))))
          by_tests true y k l =
              exact_refuses ds (byte "," ∷ (es ++ byte "}" ∷ after)) f.0
              (ap (λ z. front ++ byte "{" ∷ z) (sym (append_assoc ds (byte "," ∷ es) (byte "}" ∷ after))) ∙ both) k
          by_tests false true k l = (
            es,
            f.1.0,
            great_number (number es) l,
            inr (
              ds,
              f.0,
              small_at_most (number ds) (small_number (number ds) k),
              (length s.groups, at_term s front b (byte "{" ∷ (ds ++ byte "," ∷ es)) (byte "}" ∷ after) text both),
            ),
          )
          by_tests false false k l =
              subst (λ n. Refuses (count_behind s s.last (times_of n (Some (cap_number (number es)))))) (sym (held_small (number ds) (small_number (number ds) k)))
              (subst (λ n. Refuses (count_behind s s.last (times_of (number ds) (Some n)))) (sym (held_small (number es) (small_number (number es) l)))
              (count_refuses (from_to ds es) f e s.last refl))

    -- so it is behind whatever stands
    part_refuses : (front : List ℕ) → Standing s front → (after : List ℕ) (p : Part) (l : Lexeme) → IsPart p → is_number p ≡ false → lexemes true p ≡ single l
        → front ++ (part_spelling p ++ after) ≡ text → Refuses (build s l)
    part_refuses front (inl b) after p l f i k e =
        subst Refuses (sym (one_of s s.last l b.whole)) (subst (RefusesAll front b after) k (one_refuses front b after p f i e))
    part_refuses front (inr d) after p l f i k e = subst (λ x. Refuses (build_behind s x l)) (sym d.last) (led_refuses s _ l)

  -- what comes of a lexeme at the character
  built_stops : (m : Mode) (o : Built) → Refuses o → Stops (built_at m o)
  built_stops m (takes s) h = tt
  built_stops m (refuses w) h = h

  module _ (s : Builder) (front : List ℕ) (h : Standing s front) (after : List ℕ) where
    -- of what the lexer makes of it
    lexed_stops : (u : List ℕ) (x : Lexed) → Follows true u x → front ++ (u ++ after) ≡ text → Stops (outcome_of_lexed s x)
    lexed_stops u refused f e = tt
    lexed_stops u (under_way m) f e = tt
    lexed_stops u (lexed l m) f e =
        built_stops m (build s l)
        (part_refuses s front h after f.0.0 l f.0.1 f.0.2 f.0.4 (ap (λ z. front ++ (z ++ after)) f.0.3 ∙ e))
    lexed_stops u (lexed_both l k m) f e = absurd f

  module _ (s : Builder) (front : List ℕ) (h : Standing s front) (c : ℕ) (rest : List ℕ) (e : front ++ byte "(" ∷ c ∷ rest ≡ text) where
    -- the beginning of a group is refused only where it is too deep
    group_refuses : Refuses (build s (lexeme.begins lexeme.capture))
    group_refuses = part_refuses s front h (c ∷ rest) (opens (group_of capturing)) (lexeme.begins lexeme.capture) tt refl refl e

    -- behind `(`, what belongs to the group
    group_stops : (y : Lexed) → Follows true (c ∷ []) y → (o : Built) → build s (lexeme.begins lexeme.capture) ≡ o
        → Stops (outcome_of_lexed s (lexed_behind (lexeme.begins lexeme.capture) y))
    group_stops refused f o k = tt
    group_stops (under_way m) f o k = built_stops m (build s (lexeme.begins lexeme.capture)) group_refuses
    group_stops (lexed l m) f (refuses w) k =
        subst (λ z. Stops (both_at m z (λ t. build t l))) (sym k) (subst Refuses k group_refuses)
    group_stops (lexed l m) f (takes t) k =
        subst (λ z. Stops (both_at m z (λ t. build t l))) (sym k)
        (lexed_stops t (front ++ byte "(" ∷ []) (group_stands s t front h k) rest (c ∷ []) (lexed l m) f
        (append_assoc front (byte "(" ∷ []) (c ∷ rest) ∙ e))
    group_stops (lexed_both j l m) f o k = absurd f

    -- and any character
    opening_stops : (z : Bool) → Stops (outcome_of_lexed s (on_group c z))
    opening_stops false = group_stops (on_token c (token c)) (token_follows true c (token c) refl (char_of_token c)) (build s (lexeme.begins lexeme.capture)) refl
    opening_stops true = tt

  -- behind a back reference by a number
  module _ (s : Builder) (front : List ℕ) (h : Standing s front) (n : ℕ) (under suffix : List ℕ) (w : Written true (referring n) under)
      (e : front ++ (under ++ suffix) ≡ text) where
    -- it is refused
    reference_refuses : Refuses (build s (lexeme.reference n))
    reference_refuses = by_standing h
      where
        -- by whether a leading surrogate stands before it
        by_standing : Standing s front → Refuses (build s (lexeme.reference n))
        by_standing (inl b) =
            subst Refuses (sym (one_of s s.last (lexeme.reference n) b.whole))
            (reference_told text s front b w.0 suffix w.1.1 w.1.0 w.2 (ap (λ z. front ++ (z ++ suffix)) (sym w.4) ∙ e))
        by_standing (inr d) = subst (λ x. Refuses (build_behind s x (lexeme.reference n))) (sym d.last) tt

    -- whatever comes next
    referring_stops : (y : Lexed) → Stops (outcome_of_lexed s (lexed_behind (lexeme.reference n) y))
    referring_stops refused = tt
    referring_stops (under_way m) = built_stops m (build s (lexeme.reference n)) reference_refuses
    referring_stops (lexed l m) =
        let r = reference_refused s front n h in
        subst (λ z. Stops (both_at m z (λ t. build t l))) (sym r.1) (subst Refuses r.1 reference_refuses)
    referring_stops (lexed_both j l m) = tt

  -- at any character, what is told where it is refused
  module _ (s : Builder) (c : ℕ) (rest done : List ℕ) (e : done ++ c ∷ rest ≡ text) where
    -- the text, by what is under way
    text_of : (front under : List ℕ) → front ++ under ≡ done → front ++ (under ++ c ∷ rest) ≡ text
    text_of front under k = sym (append_assoc front under (c ∷ rest)) ∙ ap (λ z. z ++ c ∷ rest) k ∙ e

    -- in a mode in which nothing waits for it
    waits_stops : (m : Mode) → IsWaiting m → Stands (at m s) done → Stops (next (at m s) c)
    waits_stops m i h =
        lexed_stops s h.text h.standing rest (h.under ++ c ∷ []) (lex_next true m c) (next_follows true m h.under c i h.written)
        (ap (λ z. h.text ++ z) (append_assoc h.under (c ∷ []) rest) ∙ text_of h.text h.under h.spelled)

    -- and in any
    mode_stops : (m : Mode) → Stands (at m s) done → Stops (next (at m s) c)
    mode_stops opening h =
        opening_stops s h.text h.standing c rest (ap (λ z. h.text ++ (z ++ c ∷ rest)) (sym h.written) ∙ text_of h.text h.under h.spelled) (c == byte "?")
    mode_stops (referring n) h = by_digit (is_digit c)
      where
        -- by whether it is a digit more
        by_digit : (z : Bool) → Stops (outcome_of_lexed s (on_referring n c z))
        by_digit false =
            referring_stops s h.text h.standing n h.under (c ∷ rest) h.written (text_of h.text h.under h.spelled) (on_token c (token c))
        by_digit true = tt
    mode_stops between h = waits_stops between tt h
    mode_stops escaping h = waits_stops escaping tt h
    mode_stops extending h = waits_stops extending tt h
    mode_stops class_opened h = waits_stops class_opened tt h
    mode_stops calling h = waits_stops calling tt h
    mode_stops (counting n) h = waits_stops (counting n) tt h
    mode_stops (numbering k) h = waits_stops (numbering k) tt h
    mode_stops (in_class p) h = waits_stops (in_class p) tt h
    mode_stops (class_escaping p) h = waits_stops (class_escaping p) tt h
    mode_stops (class_numbering p k) h = waits_stops (class_numbering p k) tt h
    mode_stops (in_property k) h = waits_stops (in_property k) tt h
    mode_stops (in_class_property p k) h = waits_stops (in_class_property p k) tt h
    mode_stops (naming g n) h = waits_stops (naming g n) tt h
    mode_stops (name_escaping g n) h = waits_stops (name_escaping g n) tt h
    mode_stops (name_coding g n k) h = waits_stops (name_coding g n k) tt h

  -- so what is told of the next character holds, by what comes of it
  pub next_stops : (r : Read Builder) (c : ℕ) (rest done : List ℕ) → done ++ c ∷ rest ≡ text → Stands r done → Stops (next r c)
  next_stops r c rest done e h = mode_stops r.state c rest done e r.mode h

  -- by what is under way
  pub refusal_holds : (r : Read Builder) (c : ℕ) (rest done : List ℕ) → done ++ c ∷ rest ≡ text → Stands r done → Told text (refusal_at r c)
  refusal_holds r c rest done e h =
      behind_told text r.state h.text _ h.standing
      (λ b. next_told text r.state h.text b r.mode h.under c rest h.written (text_of r.state c rest done e h.text h.under h.spelled))

  -- what is told holds under a test too
  unless_told : (b : Bool) (w : Option PatternRefusal) → Told text w → Told text (unless b w)
  unless_told false w h = h
  unless_told true w h = tt

  -- whatever comes of it
  property_holds : (r : Read Builder) (m : Mode) (c : ℕ) (rest front under : List ℕ) → Written true m under → front ++ (under ++ c ∷ rest) ≡ text
      → Told text (property_at m c)
  property_holds r (in_property k) c rest front under h e =
      property_told text k c front rest (property_chars k h.0) (ap (λ z. front ++ (z ++ c ∷ rest)) (sym h.1) ∙ e)
    where
      -- a property that has been read has the characters of one
      property_chars : (k : PropertyPart) → IsPropertyPart k → has_chars text k
      property_chars (brace_awaited n) i = tt
      property_chars (in_braces n x) i = i
  property_holds r (in_class_property p k) c rest front under h e =
      unless_told (has_surrogate p) (property_refusal k c)
      (property_told text k c (front ++ h.0) rest (property_chars k h.2)
      (append_assoc front h.0 _ ∙ ap (λ z. front ++ z) (sym (append_assoc h.0 (byte "\\" ∷ property_part_spelling k) (c ∷ rest)))
      ∙ ap (λ z. front ++ (z ++ c ∷ rest)) (sym h.3) ∙ e))
    where
      -- a property that has been read has the characters of one
      property_chars : (k : PropertyPart) → IsPropertyPart k → has_chars text k
      property_chars (brace_awaited n) i = tt
      property_chars (in_braces n x) i = i
  property_holds r between c rest front under h e = tt
  property_holds r escaping c rest front under h e = tt
  property_holds r opening c rest front under h e = tt
  property_holds r extending c rest front under h e = tt
  property_holds r class_opened c rest front under h e = tt
  property_holds r calling c rest front under h e = tt
  property_holds r (counting n) c rest front under h e = tt
  property_holds r (numbering k) c rest front under h e = tt
  property_holds r (in_class p) c rest front under h e = tt
  property_holds r (class_escaping p) c rest front under h e = tt
  property_holds r (class_numbering p k) c rest front under h e = tt
  property_holds r (naming g n) c rest front under h e = tt
  property_holds r (name_escaping g n) c rest front under h e = tt
  property_holds r (name_coding g n k) c rest front under h e = tt
  property_holds r (referring n) c rest front under h e = tt

  pub char_holds : (r : Read Builder) (c : ℕ) (rest done : List ℕ) → done ++ c ∷ rest ≡ text → Stands r done → Told text (char_refusal r c)
  char_holds r c rest done e h =
      behind_told text r.state h.text _ h.standing
      (λ b. property_holds r r.mode c rest h.text h.under h.written (text_of r.state c rest done e h.text h.under h.spelled))

  -- and at the end of the text
  pub end_holds : (r : Read Builder) (done : List ℕ) → done ≡ text → Stands r done → Told text (refusal_at_end r)
  end_holds r done e h =
      behind_told text r.state h.text _ h.standing
      (λ b. mode_told text r.state h.text b r.mode h.under [] h.written
      (ap (λ z. h.text ++ z) (append-nil h.under) ∙ h.spelled ∙ e))
