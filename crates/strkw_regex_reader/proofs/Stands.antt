-- What stands behind what has been read, and behind one more character.
use Rattle.std.proofs.Common.{◌≡◌, inl, inr, ℕ, ◌*◌, ◌+◌, ◌-◌, ◌==◌, Bool, true, false, List, [], ◌∷◌, ◌++◌, Option, Some, None, refl, sym, ap, subst}
use Rattle.std.proofs.Common.{◌∙◌, append_assoc, suc, ◌<◌, length, get_or, take, drop, arith}
use Rattle.std.proofs.lemmas.List.{append-nil, take-append-drop, take_more}
use Rattle.strkw_charset.proofs.Lists.{at_place}
use Rattle.std.specs.Str.{byte}
use Rattle.strkw_regex_grammar.specs.Numbers.{is_digit, number}
use Rattle.strkw_regex_grammar.specs.Regex.{opens, part_spelling}
use Rattle.strkw_regex_grammar.specs.Syntax.{token, capturing, of_group as group_of}
use Rattle.strkw_regex_grammar.specs.machine.Lexemes as lexeme
use Rattle.strkw_regex_grammar.specs.machine.Lexemes.{lexemes, cap_number}
use Rattle.strkw_regex_grammar.specs.machine.Lexing.{Mode, between, escaping, opening, extending, class_opened, calling, counting, numbering, in_class}
use Rattle.strkw_regex_grammar.specs.machine.Lexing.{class_escaping, class_numbering, in_property, in_class_property, naming, name_escaping}
use Rattle.strkw_regex_grammar.specs.machine.Lexing.{name_coding, referring, Lexed, refused, under_way, lexed, lexed_both, lexed_behind, Read, at}
use Rattle.strkw_regex_grammar.specs.machine.Lexing.{on_token, on_group, on_referring, lex_next}
use Rattle.strkw_regex_grammar.proofs.Letters.{same_char, char_of_token}
use Rattle.strkw_regex_grammar.proofs.Numbers.{number_push, held_push}
use Rattle.strkw_regex_grammar.proofs.LexerFollows.{Written, Follows, token_follows}
use Rattle.strkw_regex_grammar.proofs.LexerRuns.{take_lexemes}
use Rattle.strkw_regex_grammar.proofs.LexerSound.{IsWaiting, next_follows, more_digits}
use Rattle.strkw_regex_reader.specs.machine.Building.{Builder, Built, takes, refuses, build, build_behind, step, taken_of}
use Rattle.strkw_regex_reader.specs.machine.Reading.{built_at, both_at, outcome_of_lexed, next, goes_to, initial}
use Rattle.strkw_regex_reader.specs.declared.refusals.PatternRefusal.{PatternRefusal}
use Rattle.strkw_regex_reader.specs.declared.refusals.PatternRefusal.TheVariants.{BackReference}
use Rattle.strkw_regex_reader.proofs.Builds.{one_of}
use Rattle.strkw_regex_reader.proofs.Standing.{Standing, starts, is_double, none_some, part_stands}

-- what has been read is parts that have been built, and what is under way
pub record Stands (r : Read Builder) (done : List ℕ) : Type 0 where
  pub text : List ℕ
  pub under : List ℕ
  pub standing : Standing r.state text
  pub written : Written true r.mode under
  pub spelled : text ++ under ≡ done

-- the same of a text in other brackets
same_done : (r : Read Builder) (u v : List ℕ) → u ≡ v → Stands r u → Stands r v
same_done r u v e = subst (Stands r) e

-- where a reader goes on to the same place, it stands so there
same_place : (q r : Read Builder) (done : List ℕ) → Some q ≡ Some r → Stands q done → Stands r done
same_place q r done e h = subst (λ z. Stands z done) (ap (or_else q) e) h
  where
    -- the one that there is
    or_else : Read Builder → Option (Read Builder) → Read Builder
    or_else q None = q
    or_else q (Some r) = r

module _ (s : Builder) (text : List ℕ) (h : Standing s text) (r : Read Builder) where
  -- a part more, where it is taken
  of_part : (u : List ℕ) (l : lexeme.Lexeme) (m : Mode) → Follows true u (lexed l m) → (o : Built) → build s l ≡ o → goes_to (built_at m o) ≡ Some r
      → Stands r (text ++ u)
  of_part u l m f (refuses w) k e = absurd (none_some r e)
  of_part u l m f (takes t) k e =
      let p = f.0.0 in
      let stands =
      part_stands s t text p f.0.1 f.0.2 (ap is_double f.0.4) (ap (take_lexemes step s) f.0.4 ∙ ap taken_of k) h in
      same_place (at m t) r (text ++ u) e record {
        text = text ++ part_spelling p;
        under = [];
        standing = stands;
        written = subst (λ z. Written true z []) (sym f.1) refl;
        spelled = append-nil (text ++ part_spelling p) ∙ ap (λ z. text ++ z) f.0.3;
      }

  -- what comes of a character
  pub of_lexed : (u : List ℕ) (x : Lexed) → Follows true u x → goes_to (outcome_of_lexed s x) ≡ Some r → Stands r (text ++ u)
  of_lexed u refused f e = absurd (none_some r e)
  of_lexed u (under_way m) f e =
      same_place (at m s) r (text ++ u) e record { text = text; under = u; standing = h; written = f; spelled = refl }
  of_lexed u (lexed l m) f e = of_part u l m f (build s l) refl e
  of_lexed u (lexed_both l k m) f e = absurd f

-- a group that captures
pub group_stands : (s t : Builder) (text : List ℕ) → Standing s text → build s (lexeme.begins lexeme.capture) ≡ takes t → Standing t (text ++ byte "(" ∷ [])
group_stands s t text h k = part_stands s t text (opens (group_of capturing)) tt refl refl (ap taken_of k) h

module _ (s : Builder) (text : List ℕ) (h : Standing s text) (r : Read Builder) (c : ℕ) where
  -- behind `(` and a character that belongs to what is in the group
  of_group : (y : Lexed) → Follows true (c ∷ []) y → (o : Built) → build s (lexeme.begins lexeme.capture) ≡ o
      → goes_to (outcome_of_lexed s (lexed_behind (lexeme.begins lexeme.capture) y)) ≡ Some r → Stands r ((text ++ byte "(" ∷ []) ++ c ∷ [])
  of_group refused f o k e = absurd (none_some r e)
  of_group (under_way m) f (refuses w) k e = absurd (none_some r (sym (ap (λ z. goes_to (built_at m z)) k) ∙ e))
  of_group (under_way m) f (takes t) k e =
      same_place (at m t) r _ (sym (ap (λ z. goes_to (built_at m z)) k) ∙ e) record {
        text = text ++ byte "(" ∷ [];
        under = c ∷ [];
        standing = group_stands s t text h k;
        written = f;
        spelled = refl;
      }
  of_group (lexed l m) f (refuses w) k e = absurd (none_some r (sym (ap (λ z. goes_to (both_at m z (λ t. build t l))) k) ∙ e))
  of_group (lexed l m) f (takes t) k e =
      of_lexed t (text ++ byte "(" ∷ []) (group_stands s t text h k) r (c ∷ []) (lexed l m) f
      (sym (ap (λ z. goes_to (both_at m z (λ t. build t l))) k) ∙ e)
  of_group (lexed_both j l m) f o k e = absurd f

  -- behind `(` and any character
  of_opening : (z : Bool) → (c == byte "?") ≡ z → goes_to (outcome_of_lexed s (on_group c z)) ≡ Some r → Stands r ((text ++ byte "(" ∷ []) ++ c ∷ [])
  of_opening false k e = of_group (on_token c (token c)) (token_follows true c (token c) refl (char_of_token c)) (build s (lexeme.begins lexeme.capture)) refl e
  of_opening true k e =
      same_done r _ _ (sym (append_assoc text (byte "(" ∷ []) (c ∷ [])))
      (of_lexed s text h r (byte "(" ∷ c ∷ []) (under_way extending) (ap (λ z. byte "(" ∷ z ∷ []) (sym (same_char c (byte "?") k))) e)

-- a back reference by a number is not built
pub reference_refused : (s : Builder) (text : List ℕ) (n : ℕ) → Standing s text
    → (w : Option PatternRefusal) × (build s (lexeme.reference n) ≡ refuses w)
reference_refused s text n (inl b) = (Some BackReference, one_of s s.last (lexeme.reference n) b.whole)
reference_refused s text n (inr l) = (None, ap (λ x. build_behind s x (lexeme.reference n)) l.last)

module _ (s : Builder) (text : List ℕ) (h : Standing s text) (r : Read Builder) (c : ℕ) where
  -- so nothing goes on behind one
  no_reference : (n : ℕ) (y : Lexed) → goes_to (outcome_of_lexed s (lexed_behind (lexeme.reference n) y)) ≡ Some r → ⊥
  no_reference n refused e = none_some r e
  no_reference n (under_way m) e = none_some r (sym (ap (λ z. goes_to (built_at m z)) (reference_refused s text n h).1) ∙ e)
  no_reference n (lexed l m) e = none_some r (sym (ap (λ z. goes_to (both_at m z (λ t. build t l))) (reference_refused s text n h).1) ∙ e)
  no_reference n (lexed_both j l m) e = none_some r e

  -- but for a digit more
  of_referring : (n : ℕ) (under : List ℕ) → Written true (referring n) under → (z : Bool) → is_digit c ≡ z
      → goes_to (outcome_of_lexed s (on_referring n c z)) ≡ Some r → Stands r (text ++ (under ++ c ∷ []))
  of_referring n under w false k e = absurd (no_reference n (on_token c (token c)) e)
  of_referring n under w true k e =
      let longer = more_digits w.0 c w.1 k w.2 in
      of_lexed s text h r (under ++ c ∷ []) (under_way (referring (cap_number (n * 10 + (c - byte "0"))))) (
        w.0 ++ c ∷ [],
        longer.0,
        longer.1,
        ap cap_number (number_push 0 w.0 c) ∙ held_push (number w.0) (c - byte "0") ∙ ap (λ z. cap_number (z * 10 + (c - byte "0"))) w.3,
        ap (λ z. z ++ c ∷ []) w.4,
      ) e

-- behind one more character, in a mode in which nothing waits for it
waits_stands : (q r : Read Builder) (done : List ℕ) (c : ℕ) → (h : Stands q done) → IsWaiting q.mode → goes_to (next q c) ≡ Some r → Stands r (done ++ c ∷ [])
waits_stands q r done c h i e =
    same_done r _ _ (sym (append_assoc h.text h.under (c ∷ [])) ∙ ap (λ z. z ++ c ∷ []) h.spelled)
    (of_lexed q.state h.text h.standing r (h.under ++ c ∷ []) (lex_next true q.mode c) (next_follows true q.mode h.under c i h.written) e)

-- and in any mode
mode_stands : (s : Builder) (m : Mode) (r : Read Builder) (done : List ℕ) (c : ℕ) → (h : Stands (at m s) done) → goes_to (next (at m s) c) ≡ Some r
    → Stands r (done ++ c ∷ [])
mode_stands s opening r done c h e =
    same_done r _ _ (ap (λ z. z ++ c ∷ []) (ap (λ z. h.text ++ z) (sym h.written) ∙ h.spelled))
    (of_opening s h.text h.standing r c (c == byte "?") refl e)
mode_stands s (referring n) r done c h e =
    same_done r _ _ (sym (append_assoc h.text h.under (c ∷ [])) ∙ ap (λ z. z ++ c ∷ []) h.spelled)
    (of_referring s h.text h.standing r c n h.under h.written (is_digit c) refl e)
mode_stands s between r done c h e = waits_stands (at between s) r done c h tt e
mode_stands s escaping r done c h e = waits_stands (at escaping s) r done c h tt e
mode_stands s extending r done c h e = waits_stands (at extending s) r done c h tt e
mode_stands s class_opened r done c h e = waits_stands (at class_opened s) r done c h tt e
mode_stands s calling r done c h e = waits_stands (at calling s) r done c h tt e
mode_stands s (counting n) r done c h e = waits_stands (at (counting n) s) r done c h tt e
mode_stands s (numbering k) r done c h e = waits_stands (at (numbering k) s) r done c h tt e
mode_stands s (in_class p) r done c h e = waits_stands (at (in_class p) s) r done c h tt e
mode_stands s (class_escaping p) r done c h e = waits_stands (at (class_escaping p) s) r done c h tt e
mode_stands s (class_numbering p k) r done c h e = waits_stands (at (class_numbering p k) s) r done c h tt e
mode_stands s (in_property k) r done c h e = waits_stands (at (in_property k) s) r done c h tt e
mode_stands s (in_class_property p k) r done c h e = waits_stands (at (in_class_property p k) s) r done c h tt e
mode_stands s (naming g n) r done c h e = waits_stands (at (naming g n) s) r done c h tt e
mode_stands s (name_escaping g n) r done c h e = waits_stands (at (name_escaping g n) s) r done c h tt e
mode_stands s (name_coding g n k) r done c h e = waits_stands (at (name_coding g n k) s) r done c h tt e

-- so a reader stands so behind one more character
pub next_stands : (q r : Read Builder) (done : List ℕ) (c : ℕ) → Stands q done → goes_to (next q c) ≡ Some r → Stands r (done ++ c ∷ [])
next_stands q r done c h e = mode_stands q.state q.mode r done c h e

-- at the beginning nothing has been read
pub starts_so : Stands initial []
starts_so = record { text = []; under = []; standing = starts; written = refl; spelled = refl }

module _ (text : List ℕ) (k next c : ℕ) (within : k < length text) (is : c ≡ get_or text k c) (follows : next ≡ suc k) where
  -- the text, by the character at a place
  pub split : take k text ++ c ∷ drop next text ≡ text
  split = ap (λ z. take k text ++ z) (sym (at_place text k next c within is follows)) ∙ take-append-drop k text

  -- what has been read behind it
  pub taken_more : take next text ≡ take k text ++ c ∷ []
  taken_more =
      ap (λ n. take n text) (follows ∙ omega arith) ∙ take_more text k c within ∙ ap (λ z. take k text ++ z ∷ []) (sym is)
