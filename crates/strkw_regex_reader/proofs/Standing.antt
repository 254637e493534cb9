-- What has been built is of parts that are spelled as what has been read, and so it is with one more character.
use Rattle.std.proofs.Common.{◌≡◌, ◌⊎◌, inl, inr, ℕ, Bool, true, false, ◌&&◌, List, [], ◌∷◌, ◌++◌, Option, Some, None, IfSome, refl}
use Rattle.std.proofs.Common.{sym, ap, subst, ◌∙◌, append_assoc, true≢false}
use Rattle.std.specs.Prelude.{option_and_then, is_some}
use Rattle.std.proofs.lemmas.List.{append-nil}
use Rattle.std.specs.Str.{byte}
use Rattle.strkw_charset.specs.Properties.{property_of}
use Rattle.strkw_charset.specs.Sets.{control_char}
use Rattle.strkw_charset.specs.declared.properties.Property.{Property}
use Rattle.strkw_charset.specs.declared.tree.CharSet.{CharSet}
use Rattle.strkw_regex_core.specs.machine.Times.{Times}
use Rattle.strkw_regex_core.specs.machine.MarkedPattern.{MarkedPattern}
use Rattle.strkw_regex_grammar.specs.Codes.{null_code, letter_code, byte_code, unit_code, pair_code, point_code, hex_number, is_lead, is_trail, is_scalar}
use Rattle.strkw_regex_grammar.specs.Codes.{code_value}
use Rattle.strkw_regex_grammar.specs.Names.{name_value}
use Rattle.strkw_regex_grammar.specs.Regex.{plain, dot, escaped, control_escape, set_escape, coded, property_escape, numbered, called, bracketed, Part}
use Rattle.strkw_regex_grammar.specs.Regex.{bar, edge, leaf, opens, closes, repeats, part_spelling, spelling, begins_with_trail, IsEscape, IsPart, MayPrecede}
use Rattle.strkw_regex_grammar.specs.Regex.{AreParts}
use Rattle.strkw_regex_grammar.specs.Syntax.{zero_or_more, one_or_more, zero_or_one, exactly, at_least, from_to, of_group}
use Rattle.strkw_regex_grammar.specs.Syntax.{capturing, plain_group, named, of_lookbehind, of_lookahead}
use Rattle.strkw_regex_grammar.specs.machine.CodeMakers.{pair_value}
use Rattle.strkw_regex_grammar.specs.machine.Lexemes as lexeme
use Rattle.strkw_regex_grammar.specs.machine.Lexemes.{Lexeme, Lexemes, single, double, lexemes, class_sets, opening_of, quantifier_lexeme, cap_number}
use Rattle.strkw_regex_grammar.specs.declared.lexer.numbers.Form.TheVariants.{Unit as unit_form, Other as other_form}
use Rattle.strkw_regex_grammar.proofs.LexerFollows.{is_number}
use Rattle.strkw_regex_grammar.proofs.LexerItems.{pair_is_item}
use Rattle.strkw_regex_grammar.proofs.LexerRuns.{take_lexemes, part_steps}
use Rattle.strkw_regex_reader.specs.machine.Building.{Last, none, atom, lead, counted, Open, Builder, Built, with_last, opened, open_if, enclose}
use Rattle.strkw_regex_reader.specs.machine.Building.{at_level, build_one, build_behind, step, taken_of, is_lead_last, number_if, lead_if, trail_if}
use Rattle.strkw_regex_reader.specs.machine.Building.{property_built, class_built, close_in, whole_level, quantify_behind, question_behind, count_behind}
use Rattle.strkw_regex_reader.specs.machine.Building.{great_if, small_if, nothing_built}
use Rattle.strkw_regex_reader.specs.declared.builder.Enclosing.{Enclosing as CodeEnclosing}
use Rattle.strkw_regex_reader.specs.declared.builder.Enclosing.TheVariants as enclosings
use Rattle.strkw_regex_reader.proofs.Builds.{one_of, lead_no_scalar, pair_scalar}
use Rattle.strkw_regex_reader.proofs.Beginnings.{spelled_joined}

-- the parts may stand before any
abbrev AreSettled : List Part → Type 0
AreSettled [] = Unit {0}
AreSettled (p ∷ ps) = (IsPart p × ((qs : List Part) → MayPrecede p qs)) × AreSettled ps

-- so they may stand so
pub settled_formed : (ps : List Part) → AreSettled ps → AreParts ps
settled_formed [] h = tt
settled_formed (p ∷ ps) h = (h.0.0, h.0.1 ps, settled_formed ps h.1)

-- with one more of them
settled_push : (ps : List Part) (p : Part) → AreSettled ps → IsPart p → ((qs : List Part) → MayPrecede p qs) → AreSettled (ps ++ p ∷ [])
settled_push [] p h f m = ((f, m), tt)
settled_push (q ∷ ps) p h f m = (h.0, settled_push ps p h.1 f m)

-- one part more takes one more step
steps_push : (ps : List Part) (s : Builder) (p : Part)
    → part_steps true step s (ps ++ p ∷ []) ≡ option_and_then (λ t. take_lexemes step t (lexemes true p)) (part_steps true step s ps)
steps_push [] s p = last (take_lexemes step s (lexemes true p))
  where
    -- behind the last there is nothing
    last : (o : Option Builder) → option_and_then (λ t. Some t) o ≡ o
    last None = refl
    last (Some t) = refl
steps_push (q ∷ ps) s p = rest (λ t. steps_push ps t p) (take_lexemes step s (lexemes true q))
  where
    -- behind the first
    rest : ((t : Builder) → part_steps true step t (ps ++ p ∷ []) ≡ option_and_then (λ u. take_lexemes step u (lexemes true p)) (part_steps true step t ps))
        → (o : Option Builder)
        → option_and_then (λ t. part_steps true step t (ps ++ p ∷ [])) o
        ≡ option_and_then (λ u. take_lexemes step u (lexemes true p)) (option_and_then (λ t. part_steps true step t ps) o)
    rest f None = refl
    rest f (Some t) = f t

-- what has been built is of parts that are spelled so
pub record Base (s : Builder) (text : List ℕ) : Type 0 where
  pub parts : List Part
  pub settled : AreSettled parts
  pub spelled : spelling parts ≡ text
  pub way : part_steps true step nothing_built parts ≡ Some s
  pub whole : is_lead_last s.last ≡ false

-- or so it was before a leading surrogate
pub record Led (s : Builder) (text : List ℕ) : Type 0 where
  pub before : Builder
  pub front : List ℕ
  pub base : Base before front
  pub digits : List ℕ
  pub escape : IsEscape (unit_code digits)
  pub lead_is : is_lead (hex_number digits) ≡ true
  pub spelled : front ++ byte "\\" ∷ byte "u" ∷ digits ≡ text
  pub way : step before (lexeme.number unit_form (hex_number digits)) ≡ Some s
  pub last : s.last ≡ lead (hex_number digits)

-- one of the two
abbrev pub Standing : Builder → List ℕ → Type 0
Standing s text = Base s text ⊎ Led s text

-- nothing has been built at the beginning
pub starts : Standing nothing_built []
starts = inl record { parts = []; settled = tt; spelled = refl; way = refl; whole = refl }

-- with a part more
base_push : (s t : Builder) (text : List ℕ) (p : Part) → Base s text → IsPart p → ((qs : List Part) → MayPrecede p qs)
    → take_lexemes step s (lexemes true p) ≡ Some t → is_lead_last t.last ≡ false → Base t (text ++ part_spelling p)
base_push s t text p b f m k w = record {
  parts = b.parts ++ p ∷ [];
  settled = settled_push b.parts p b.settled f m;
  spelled = spelled_joined b.parts (p ∷ []) ∙ ap (λ z. spelling b.parts ++ z) (append-nil (part_spelling p)) ∙ ap (λ z. z ++ part_spelling p) b.spelled;
  way = steps_push b.parts nothing_built p ∙ ap (option_and_then (λ u. take_lexemes step u (lexemes true p))) b.way ∙ k;
  whole = w;
}

-- no leading surrogate stands last
abbrev IsWhole : Builder → Type 0
IsWhole t = is_lead_last t.last ≡ false

-- what comes of a lexeme is whole, where it may stand there
module _ (s : Builder) where
  -- a group or a lookaround opens
  whole_open : (c : CodeEnclosing) (z : Bool) → IfSome (taken_of (open_if z (opened s c))) IsWhole
  whole_open c false = tt
  whole_open c true = refl

  -- or closes
  whole_close : (gs : List Open) (ns : List (List ℕ)) (p : MarkedPattern) → IfSome (taken_of (close_in gs ns p)) IsWhole
  whole_close [] ns p = tt
  whole_close (o ∷ os) ns p = by_kind o.enclosing
    where
      -- by what it closes
      by_kind : (c : CodeEnclosing) → IsWhole (enclose (at_level os ns o.level) c p)
      by_kind enclosings.Group = refl
      by_kind (enclosings.Behind b) = refl
      by_kind (enclosings.Ahead b) = refl

  -- a term is repeated
  whole_quantify : (x : Last) (t : Times) → IfSome (taken_of (quantify_behind s x t)) IsWhole
  whole_quantify none t = tt
  whole_quantify (atom p) t = refl
  whole_quantify (lead n) t = tt
  whole_quantify (counted p) t = tt

  -- with a count
  whole_small : (o : Built) (z : Bool) → IfSome (taken_of o) IsWhole → IfSome (taken_of (small_if z o)) IsWhole
  whole_small o false h = tt
  whole_small o true h = h

  whole_great : (o : Built) (z : Bool) → IfSome (taken_of o) IsWhole → IfSome (taken_of (great_if z o)) IsWhole
  whole_great o false h = h
  whole_great o true h = tt

  whole_count : (x : Last) (t : Times) → IfSome (taken_of (count_behind s x t)) IsWhole
  whole_count none t = tt
  whole_count (atom p) t = whole_small (quantify_behind s (atom p) t) _ refl
  whole_count (lead n) t = tt
  whole_count (counted p) t = tt

  -- by `?`
  whole_question : (x : Last) → IfSome (taken_of (question_behind s x)) IsWhole
  whole_question none = tt
  whole_question (atom p) = refl
  whole_question (lead n) = tt
  whole_question (counted p) = refl

  -- a number that is no surrogate's
  whole_number : (n : ℕ) (z : Bool) → IfSome (taken_of (number_if s other_form n z)) IsWhole
  whole_number n false = tt
  whole_number n true = refl

  -- `\u` and four digits of no leading one
  whole_unit : (n : ℕ) (z : Bool) → is_lead n ≡ false → IfSome (taken_of (number_if s unit_form n z)) IsWhole
  whole_unit n false e = subst (λ u. IfSome (taken_of (lead_if s n u)) IsWhole) (sym e) tt
  whole_unit n true e = refl

  -- a property
  whole_property : (n : Bool) (o : Option Property) → IfSome (taken_of (property_built s n o)) IsWhole
  whole_property n None = tt
  whole_property n (Some p) = refl

  -- a class
  whole_class : (n : Bool) (o : Option (List CharSet)) → IfSome (taken_of (class_built s n o)) IsWhole
  whole_class n None = tt
  whole_class n (Some rs) = refl

  module _ (w : IsWhole s) where
    -- what comes of a lexeme where none stands before it
    of_one : (P : Builder → Type 0) (l : Lexeme) → IfSome (taken_of (build_one s l)) P → IfSome (step s l) P
    of_one P l h = subst (λ o. IfSome (taken_of o) P) (sym (one_of s s.last l w)) h

    -- `\u` and four digits of no leading one
    unit_whole : (ds : List ℕ) → is_lead (hex_number ds) ≡ false → IfSome (step s (lexeme.number unit_form (hex_number ds))) IsWhole
    unit_whole ds e = of_one IsWhole (lexeme.number unit_form (hex_number ds)) (whole_unit (hex_number ds) _ e)

    -- of a leading one
    lead_step : (n : ℕ) → is_lead n ≡ true → step s (lexeme.number unit_form n) ≡ Some (with_last s (lead n))
    lead_step n e =
        ap taken_of (one_of s s.last (lexeme.number unit_form n) w)
        ∙ ap (λ z. taken_of (number_if s unit_form n z)) (lead_no_scalar n e) ∙ ap (λ z. taken_of (lead_if s n z)) e

-- the part is neither a back reference by a number, nor `\u` and four digits, nor two of these
abbrev IsPlain : Part → Type 0
IsPlain (leaf (numbered ds)) = ⊥
IsPlain (leaf (coded (unit_code ds))) = ⊥
IsPlain (leaf (coded (pair_code ds es))) = ⊥
IsPlain p = Unit {0}

-- such a part may stand before any
plain_settles : (p : Part) → IsPlain p → (qs : List Part) → MayPrecede p qs
plain_settles bar h qs = tt
plain_settles (edge g) h qs = tt
plain_settles (leaf (plain c)) h qs = tt
plain_settles (leaf dot) h qs = tt
plain_settles (leaf (escaped c)) h qs = tt
plain_settles (leaf (control_escape c)) h qs = tt
plain_settles (leaf (set_escape c)) h qs = tt
plain_settles (leaf (coded null_code)) h qs = refl
plain_settles (leaf (coded (letter_code c))) h qs = refl
plain_settles (leaf (coded (byte_code ds))) h qs = refl
plain_settles (leaf (coded (point_code ds))) h qs = refl
plain_settles (leaf (property_escape n e)) h qs = tt
plain_settles (leaf (called m)) h qs = tt
plain_settles (leaf (bracketed n r e)) h qs = tt
plain_settles (opens (of_group capturing)) h qs = tt
plain_settles (opens (of_group plain_group)) h qs = tt
plain_settles (opens (of_group (named m))) h qs = tt
plain_settles (opens (of_lookbehind b)) h qs = tt
plain_settles (opens (of_lookahead b)) h qs = tt
plain_settles closes h qs = tt
plain_settles (repeats zero_or_more) h qs = tt
plain_settles (repeats one_or_more) h qs = tt
plain_settles (repeats zero_or_one) h qs = tt
plain_settles (repeats (exactly ds)) h qs = tt
plain_settles (repeats (at_least ds)) h qs = tt
plain_settles (repeats (from_to ds es)) h qs = tt
plain_settles (leaf (numbered ds)) h qs = absurd h
plain_settles (leaf (coded (unit_code ds))) h qs = absurd h
plain_settles (leaf (coded (pair_code ds es))) h qs = absurd h

-- and what comes of it is whole
plain_whole : (s : Builder) → IsWhole s → (p : Part) → IsPlain p → IfSome (take_lexemes step s (lexemes true p)) IsWhole
plain_whole s w bar h = of_one s w IsWhole lexeme.bar refl
plain_whole s w (edge g) h = of_one s w IsWhole (lexeme.edge g) refl
plain_whole s w (leaf (plain c)) h = of_one s w IsWhole (lexeme.char c) refl
plain_whole s w (leaf dot) h = of_one s w IsWhole lexeme.dot refl
plain_whole s w (leaf (escaped c)) h = of_one s w IsWhole (lexeme.char c) refl
plain_whole s w (leaf (control_escape c)) h = of_one s w IsWhole (lexeme.char (control_char c)) refl
plain_whole s w (leaf (set_escape c)) h = of_one s w IsWhole (lexeme.set c) refl
plain_whole s w (leaf (coded null_code)) h = of_one s w IsWhole (lexeme.number other_form 0) refl
plain_whole s w (leaf (coded (letter_code c))) h = of_one s w IsWhole (lexeme.number other_form (code_value (letter_code c))) (whole_number s _ _)
plain_whole s w (leaf (coded (byte_code ds))) h = of_one s w IsWhole (lexeme.number other_form (hex_number ds)) (whole_number s _ _)
plain_whole s w (leaf (coded (point_code ds))) h = of_one s w IsWhole (lexeme.number other_form (hex_number ds)) (whole_number s _ _)
plain_whole s w (leaf (property_escape n e)) h = of_one s w IsWhole (lexeme.property n (property_of e)) (whole_property s n (property_of e))
plain_whole s w (leaf (called m)) h = of_one s w IsWhole (lexeme.call (name_value m)) tt
plain_whole s w (leaf (bracketed n r e)) h = of_one s w IsWhole (lexeme.class n (class_sets true r e)) (whole_class s n (class_sets true r e))
plain_whole s w (opens (of_group capturing)) h = of_one s w IsWhole (lexeme.begins lexeme.capture) (whole_open s enclosings.Group _)
plain_whole s w (opens (of_group plain_group)) h = of_one s w IsWhole (lexeme.begins lexeme.plain_group) (whole_open s enclosings.Group _)
plain_whole s w (opens (of_group (named m))) h = of_one s w IsWhole (lexeme.begins (lexeme.named (name_value m))) (named_open _ _)
  where
    -- with its name
    named_open : (ns : List (List ℕ)) (z : Bool)
        → IfSome (taken_of (open_if z (opened (record { groups = s.groups; names = ns; level = s.level; last = s.last }) enclosings.Group))) IsWhole
    named_open ns false = tt
    named_open ns true = refl
plain_whole s w (opens (of_lookbehind b)) h = of_one s w IsWhole (lexeme.begins (lexeme.behind b)) (whole_open s (enclosings.Behind b) _)
plain_whole s w (opens (of_lookahead b)) h = of_one s w IsWhole (lexeme.begins (lexeme.ahead b)) (whole_open s (enclosings.Ahead b) _)
plain_whole s w closes h = of_one s w IsWhole lexeme.ends (whole_close s s.groups s.names (whole_level s.level s.last))
plain_whole s w (repeats zero_or_more) h = of_one s w IsWhole (quantifier_lexeme zero_or_more) (whole_quantify s s.last _)
plain_whole s w (repeats one_or_more) h = of_one s w IsWhole (quantifier_lexeme one_or_more) (whole_quantify s s.last _)
plain_whole s w (repeats zero_or_one) h = of_one s w IsWhole (quantifier_lexeme zero_or_one) (whole_question s s.last)
plain_whole s w (repeats (exactly ds)) h = of_one s w IsWhole (quantifier_lexeme ((exactly ds))) (whole_great s _ _ (whole_count s s.last _))
plain_whole s w (repeats (at_least ds)) h = of_one s w IsWhole (quantifier_lexeme ((at_least ds))) (whole_great s _ _ (whole_count s s.last _))
plain_whole s w (repeats (from_to ds es)) h = of_one s w IsWhole (quantifier_lexeme ((from_to ds es))) (whole_great s _ _ (whole_count s s.last _))
plain_whole s w (leaf (numbered ds)) h = absurd h
plain_whole s w (leaf (coded (unit_code ds))) h = absurd h
plain_whole s w (leaf (coded (pair_code ds es))) h = absurd h

-- behind a leading surrogate nothing comes of it
plain_refused : (s : Builder) (n : ℕ) → s.last ≡ lead n → (p : Part) → IsPlain p → take_lexemes step s (lexemes true p) ≡ None
plain_refused s v k bar h = ap (λ x. taken_of (build_behind s x lexeme.bar)) k
plain_refused s v k (edge g) h = ap (λ x. taken_of (build_behind s x (lexeme.edge g))) k
plain_refused s v k (leaf (plain c)) h = ap (λ x. taken_of (build_behind s x (lexeme.char c))) k
plain_refused s v k (leaf dot) h = ap (λ x. taken_of (build_behind s x lexeme.dot)) k
plain_refused s v k (leaf (escaped c)) h = ap (λ x. taken_of (build_behind s x (lexeme.char c))) k
plain_refused s v k (leaf (control_escape c)) h = ap (λ x. taken_of (build_behind s x (lexeme.char (control_char c)))) k
plain_refused s v k (leaf (set_escape c)) h = ap (λ x. taken_of (build_behind s x (lexeme.set c))) k
plain_refused s v k (leaf (coded null_code)) h = ap (λ x. taken_of (build_behind s x (lexeme.number other_form 0))) k
plain_refused s v k (leaf (coded (letter_code c))) h = ap (λ x. taken_of (build_behind s x (lexeme.number other_form (code_value (letter_code c))))) k
plain_refused s v k (leaf (coded (byte_code ds))) h = ap (λ x. taken_of (build_behind s x (lexeme.number other_form (hex_number ds)))) k
plain_refused s v k (leaf (coded (point_code ds))) h = ap (λ x. taken_of (build_behind s x (lexeme.number other_form (hex_number ds)))) k
plain_refused s v k (leaf (property_escape n e)) h = ap (λ x. taken_of (build_behind s x (lexeme.property n (property_of e)))) k
plain_refused s v k (leaf (called m)) h = ap (λ x. taken_of (build_behind s x (lexeme.call (name_value m)))) k
plain_refused s v k (leaf (bracketed n r e)) h = ap (λ x. taken_of (build_behind s x (lexeme.class n (class_sets true r e)))) k
plain_refused s v k (opens (of_group capturing)) h = ap (λ x. taken_of (build_behind s x (lexeme.begins lexeme.capture))) k
plain_refused s v k (opens (of_group plain_group)) h = ap (λ x. taken_of (build_behind s x (lexeme.begins lexeme.plain_group))) k
plain_refused s v k (opens (of_group (named m))) h = ap (λ x. taken_of (build_behind s x (lexeme.begins (lexeme.named (name_value m))))) k
plain_refused s v k (opens (of_lookbehind b)) h = ap (λ x. taken_of (build_behind s x (lexeme.begins (lexeme.behind b)))) k
plain_refused s v k (opens (of_lookahead b)) h = ap (λ x. taken_of (build_behind s x (lexeme.begins (lexeme.ahead b)))) k
plain_refused s v k closes h = ap (λ x. taken_of (build_behind s x lexeme.ends)) k
plain_refused s v k (repeats zero_or_more) h = ap (λ x. taken_of (build_behind s x (quantifier_lexeme zero_or_more))) k
plain_refused s v k (repeats one_or_more) h = ap (λ x. taken_of (build_behind s x (quantifier_lexeme one_or_more))) k
plain_refused s v k (repeats zero_or_one) h = ap (λ x. taken_of (build_behind s x (quantifier_lexeme zero_or_one))) k
plain_refused s v k (repeats (exactly ds)) h = ap (λ x. taken_of (build_behind s x (quantifier_lexeme ((exactly ds))))) k
plain_refused s v k (repeats (at_least ds)) h = ap (λ x. taken_of (build_behind s x (quantifier_lexeme ((at_least ds))))) k
plain_refused s v k (repeats (from_to ds es)) h = ap (λ x. taken_of (build_behind s x (quantifier_lexeme ((from_to ds es))))) k
plain_refused s v k (leaf (numbered ds)) h = absurd h
plain_refused s v k (leaf (coded (unit_code ds))) h = absurd h
plain_refused s v k (leaf (coded (pair_code ds es))) h = absurd h

-- nothing is not something
pub none_some : {A : Type 0} (t : A) → None ≡ Some t → ⊥
none_some t e = true≢false (sym (ap is_some e))

-- whether there are two lexemes
abbrev pub is_double : Lexemes → Bool
is_double (single l) = false
is_double (double l k) = true

-- of what is there, what holds of it
of_some : {A : Type 0} (P : A → Type 0) (o : Option A) (t : A) → o ≡ Some t → IfSome o P → P t
of_some P o t e h = subst (λ z. IfSome z P) e h

-- things that are the same as options are the same
same_some : (s t : Builder) → Some s ≡ Some t → s ≡ t
same_some s t e = ap (or_else s) e
  where
    -- the one that there is
    or_else : Builder → Option Builder → Builder
    or_else s None = s
    or_else s (Some t) = t

module _ (s t : Builder) (text : List ℕ) where
  -- a plain part more
  plain_part : (p : Part) → IsPlain p → IsPart p → take_lexemes step s (lexemes true p) ≡ Some t → Standing s text → Standing t (text ++ part_spelling p)
  plain_part p i f k (inl b) =
      inl (base_push s t text p b f (plain_settles p i) k (of_some IsWhole _ t k (plain_whole s b.whole p i)))
  plain_part p i f k (inr l) = absurd (none_some t (sym (plain_refused s (hex_number l.digits) l.last p i) ∙ k))

  -- `\u` and four digits
  unit_base : (ds : List ℕ) → IsEscape (unit_code ds) → step s (lexeme.number unit_form (hex_number ds)) ≡ Some t → Base s text
      → (z : Bool) → is_lead (hex_number ds) ≡ z → Standing t (text ++ byte "\\" ∷ byte "u" ∷ ds)
  unit_base ds f k b false e =
      inl (base_push s t text (leaf (coded (unit_code ds))) b f (λ qs. ap (λ z. z && begins_with_trail qs) e) k
      (of_some IsWhole _ t k (unit_whole s b.whole ds e)))
  unit_base ds f k b true e =
      inr record {
        before = s;
        front = text;
        base = b;
        digits = ds;
        escape = f;
        lead_is = e;
        spelled = refl;
        way = k;
        last = ap (λ u. u.last) (sym (same_some (with_last s (lead (hex_number ds))) t (sym (lead_step s b.whole (hex_number ds) e) ∙ k)));
      }

  -- behind a leading surrogate, by whether it is a trailing one
  unit_led : (es : List ℕ) → IsEscape (unit_code es) → step s (lexeme.number unit_form (hex_number es)) ≡ Some t → (l : Led s text)
      → (z : Bool) → is_trail (hex_number es) ≡ z → Standing t (text ++ byte "\\" ∷ byte "u" ∷ es)
  unit_led es f k l false e =
      let n = hex_number l.digits in
      absurd (none_some t
      (sym (ap (λ x. taken_of (build_behind s x (lexeme.number unit_form (hex_number es)))) l.last
      ∙ ap (λ z. taken_of (trail_if s n (hex_number es) (z && is_scalar (pair_value n (hex_number es))))) e) ∙ k))
  unit_led es f k l true e =
      let n = hex_number l.digits in
      let m = hex_number es in
      let made : step s (lexeme.number unit_form m) ≡ taken_of (trail_if s n m true) =
      ap (λ x. taken_of (build_behind s x (lexeme.number unit_form m))) l.last
      ∙ ap (λ z. taken_of (trail_if s n m (z && is_scalar (pair_value n m)))) e
      ∙ ap (λ z. taken_of (trail_if s n m z)) (pair_scalar n m l.lead_is e) in
      let whole = of_some IsWhole (taken_of (trail_if s n m true)) t (sym made ∙ k) refl in
      inl (subst (Base t)
      (ap (λ z. l.front ++ z) (sym (append_nil_cons l.digits es))
      ∙ sym (append_assoc l.front (byte "\\" ∷ byte "u" ∷ l.digits) (byte "\\" ∷ byte "u" ∷ es))
      ∙ ap (λ z. z ++ byte "\\" ∷ byte "u" ∷ es) l.spelled)
      (base_push l.before t l.front (leaf (coded (pair_code l.digits es))) l.base (pair_is_item l.digits es l.escape f l.lead_is e) (λ qs. refl)
      (ap (option_and_then (λ u. step u (lexeme.number unit_form m))) l.way ∙ k) whole))
    where
      -- the text of a pair is that of its surrogates
      append_nil_cons : (ds us : List ℕ)
          → (byte "\\" ∷ byte "u" ∷ ds) ++ byte "\\" ∷ byte "u" ∷ us ≡ byte "\\" ∷ byte "u" ∷ (ds ++ byte "\\" ∷ byte "u" ∷ us)
      append_nil_cons ds us = refl

  -- so it is with any part that is one lexeme, and no back reference by a number
  pub part_stands : (p : Part) → IsPart p → is_number p ≡ false → is_double (lexemes true p) ≡ false → take_lexemes step s (lexemes true p) ≡ Some t
      → Standing s text → Standing t (text ++ part_spelling p)
  part_stands bar f i d k h = plain_part bar tt f k h
  part_stands (edge g) f i d k h = plain_part (edge g) tt f k h
  part_stands (leaf (plain c)) f i d k h = plain_part (leaf (plain c)) tt f k h
  part_stands (leaf dot) f i d k h = plain_part (leaf dot) tt f k h
  part_stands (leaf (escaped c)) f i d k h = plain_part (leaf (escaped c)) tt f k h
  part_stands (leaf (control_escape c)) f i d k h = plain_part (leaf (control_escape c)) tt f k h
  part_stands (leaf (set_escape c)) f i d k h = plain_part (leaf (set_escape c)) tt f k h
  part_stands (leaf (coded null_code)) f i d k h = plain_part (leaf (coded null_code)) tt f k h
  part_stands (leaf (coded (letter_code c))) f i d k h = plain_part (leaf (coded (letter_code c))) tt f k h
  part_stands (leaf (coded (byte_code ds))) f i d k h = plain_part (leaf (coded (byte_code ds))) tt f k h
  part_stands (leaf (coded (point_code ds))) f i d k h = plain_part (leaf (coded (point_code ds))) tt f k h
  part_stands (leaf (property_escape n e)) f i d k h = plain_part (leaf (property_escape n e)) tt f k h
  part_stands (leaf (called m)) f i d k h = plain_part (leaf (called m)) tt f k h
  part_stands (leaf (bracketed n r e)) f i d k h = plain_part (leaf (bracketed n r e)) tt f k h
  part_stands (opens g) f i d k h = plain_part (opens g) tt f k h
  part_stands closes f i d k h = plain_part closes tt f k h
  part_stands (repeats q) f i d k h = plain_part (repeats q) tt f k h
  part_stands (leaf (numbered ds)) f i d k h = absurd (true≢false i)
  part_stands (leaf (coded (pair_code ds es))) f i d k h = absurd (true≢false d)
  part_stands (leaf (coded (unit_code ds))) f i d k (inl b) = unit_base ds f k b (is_lead (hex_number ds)) refl
  part_stands (leaf (coded (unit_code ds))) f i d k (inr l) = unit_led ds f k l (is_trail (hex_number ds)) refl
