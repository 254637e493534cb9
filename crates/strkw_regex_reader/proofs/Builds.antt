-- What is built of the parts of a tree: its pattern, where it is taken, and else nothing.
use Rattle.std.proofs.Common.{◌≡◌, ℕ, ◌*◌, nat_le, Bool, true, false, not, ◌&&◌, ◌||◌, List, [], ◌∷◌, ◌++◌, Option, Some, None, refl, sym}
use Rattle.std.proofs.Common.{ap, ◌∙◌, true≢false, if◌then◌else◌, arith}
use Rattle.std.specs.Prelude.{option_and_then, is_some}
use Rattle.std.proofs.lemmas.Bool.Decides.{nat_tests}
use Rattle.strkw_charset.specs.Properties.{property_of}
use Rattle.strkw_charset.specs.Sets.{control_char}
use Rattle.strkw_charset.specs.declared.properties.Property.{Property}
use Rattle.strkw_charset.specs.declared.tree.CharSet.{CharSet}
use Rattle.strkw_charset.proofs.Booleans.{and_left, and_right}
use Rattle.strkw_regex_core.specs.Size.{max_term_steps}
use Rattle.strkw_regex_core.specs.machine.ProgramSteps.{steps}
use Rattle.strkw_regex_core.specs.machine.Times.{times_of, Times, quantified_pattern, copies}
use Rattle.strkw_regex_core.proofs.Terms.{copies_of}
use Rattle.strkw_regex_core.specs.machine.MarkedPattern.{MarkedPattern, empty, class, cat, alt, lookbehind, lookahead}
use Rattle.strkw_regex_grammar.specs.Classes.{contents, property_set}
use Rattle.strkw_regex_grammar.specs.Codes.{null_code, letter_code, byte_code, unit_code, pair_code, point_code, code_value, is_lead, is_trail, is_scalar}
use Rattle.strkw_regex_grammar.specs.Codes.{hex_number}
use Rattle.strkw_regex_grammar.specs.Names.{name_value}
use Rattle.strkw_regex_grammar.specs.Numbers.{number}
use Rattle.strkw_regex_grammar.specs.Regex.{Leaf, plain, dot, escaped, control_escape, set_escape, coded, property_escape, numbered, called, bracketed, Part}
use Rattle.strkw_regex_grammar.specs.Regex.{bar, edge, leaf, opens, closes, repeats, Disjunction, only, either, Alternative, nothing, more, Term, asserted}
use Rattle.strkw_regex_grammar.specs.Regex.{looks_behind, looks_ahead, once, quantified}
use Rattle.strkw_regex_grammar.specs.Regex.{greed_parts, begins_with_trail, AreParts, capture_limit, IsEscape}
use Rattle.strkw_regex_grammar.specs.Syntax.{Quantifier, zero_or_more, one_or_more, zero_or_one, exactly, at_least, from_to, greedy, lazy, Greed}
use Rattle.strkw_regex_grammar.specs.Syntax.{capturing, plain_group, named, of_group, of_lookbehind, of_lookahead}
use Rattle.strkw_regex_grammar.specs.machine.CodeMakers.{pair_value}
use Rattle.strkw_regex_grammar.specs.machine.Lexemes as lexeme
use Rattle.strkw_regex_grammar.specs.machine.Lexemes.{Lexeme, lexemes, cap_number, class_sets, quantifier_lexeme}
use Rattle.strkw_regex_grammar.specs.declared.lexer.numbers.Form.TheVariants.{Unit as unit_form, Other as other_form}
use Rattle.strkw_regex_grammar.proofs.LexerRuns.{part_steps}
use Rattle.strkw_regex_reader.specs.Limits.{max_count, takes_code, takes_ranges, takes_leaf, is_within}
use Rattle.strkw_regex_reader.specs.machine.Times.{times}
use Rattle.strkw_regex_reader.specs.Patterns.{one_char, edge_pattern, leaf_pattern, pattern, alternative_pattern}
use Rattle.strkw_regex_core.specs.machine.Expansion.{expand}
use Rattle.strkw_regex_reader.specs.Patterns.{term_pattern, atom_pattern}
use Rattle.strkw_regex_reader.specs.machine.Building as building
use Rattle.strkw_regex_reader.specs.machine.Building.{Level, Last, none, atom, lead, counted, Open, Builder, Built, takes, refuses, all_terms, whole_level}
use Rattle.strkw_regex_reader.specs.machine.Building.{level_so_far, new_level, at_level, enclose, build, build_one, build_behind, step, taken_of, is_lead_last}
use Rattle.strkw_regex_reader.specs.machine.Building.{is_great, great_if, small_if, count_behind, open_if, number_if, property_built, class_built, trail_if}
use Rattle.strkw_regex_reader.specs.machine.Building.{lead_if, may_end, at_end, when, nothing_built}
use Rattle.strkw_regex_reader.proofs.ClassSets.{sets_if, class_kept}

-- how far a level has come: the level, and its last term
abbrev pub End : Type 0
End = Level × Last

-- what has been built, within these groups, with these names
abbrev pub state : List Open → List (List ℕ) → End → Builder
state gs ns k = record { groups = gs; names = ns; level = k.0; last = k.1 }

-- all that stands before one more term
abbrev pub so_far : End → Level
so_far k = level_so_far k.0 k.1

-- with one more term
abbrev pub with_last_term : End → MarkedPattern → End
with_last_term k p = (record { earlier = k.0.earlier; current = cat (all_terms k.0.current k.1) p }, none)

-- with one more atom
abbrev pub with_last_atom : End → MarkedPattern → End
with_last_atom k p = (so_far k, atom p)

-- with an atom that a quantifier repeats, lazily or not
abbrev pub with_repeated : End → MarkedPattern → Greed → End
with_repeated k p greedy = (so_far k, counted p)
with_repeated k p lazy = with_last_term k p

-- behind a term
abbrev pub term_end : End → Term → End
term_end k (asserted e) = with_last_term k (expand (edge_pattern e))
term_end k (looks_behind n d) = with_last_term k (lookbehind n (expand (pattern d)))
term_end k (looks_ahead n d) = with_last_term k (lookahead n (expand (pattern d)))
term_end k (once a) = with_last_atom k (expand (atom_pattern a))
term_end k (quantified a q g) = with_repeated k (quantified_pattern (times q) (expand (atom_pattern a))) g

-- behind the terms of an alternative
abbrev pub alternative_end : End → Alternative → End
alternative_end k nothing = k
alternative_end k (more a t) = term_end (alternative_end k a) t

-- behind the bar that ends one
abbrev pub bar_end : End → End
bar_end k = (record { earlier = Some (whole_level k.0 k.1); current = empty }, none)

-- and behind all alternatives
abbrev pub disjunction_end : End → Disjunction → End
disjunction_end k (only a) = alternative_end k a
disjunction_end k (either d a) = alternative_end (bar_end (disjunction_end k d)) a

-- at the beginning of a level
abbrev pub fresh : End
fresh = (new_level, none)

-- no leading surrogate stands last
abbrev pub IsWhole : End → Type 0
IsWhole k = is_lead_last k.1 ≡ false

-- so it is behind a term
pub whole_term : (k : End) (t : Term) → IsWhole (term_end k t)
whole_term k (asserted e) = refl
whole_term k (looks_behind n d) = refl
whole_term k (looks_ahead n d) = refl
whole_term k (once a) = refl
whole_term k (quantified a q greedy) = refl
whole_term k (quantified a q lazy) = refl

-- behind terms
pub whole_alternative : (k : End) (a : Alternative) → IsWhole k → IsWhole (alternative_end k a)
whole_alternative k nothing h = h
whole_alternative k (more a t) h = whole_term (alternative_end k a) t

-- and behind alternatives
pub whole_disjunction : (k : End) (d : Disjunction) → IsWhole k → IsWhole (disjunction_end k d)
whole_disjunction k (only a) h = whole_alternative k a h
whole_disjunction k (either d a) h = whole_alternative (bar_end (disjunction_end k d)) a refl

-- the terms of a level, with the last
abbrev pub terms_of : End → MarkedPattern
terms_of k = all_terms k.0.current k.1

-- they are those before, and the term
terms_more : (k : End) (t : Term) → terms_of (term_end k t) ≡ cat (terms_of k) (expand (term_pattern t))
terms_more k (asserted e) = refl
terms_more k (looks_behind n d) = refl
terms_more k (looks_ahead n d) = refl
terms_more k (once a) = refl
terms_more k (quantified a q greedy) = refl
terms_more k (quantified a q lazy) = refl

-- so those of an alternative are its pattern
terms_are : (k : End) (a : Alternative) → terms_of k ≡ empty → terms_of (alternative_end k a) ≡ expand (alternative_pattern a)
terms_are k nothing h = h
terms_are k (more a t) h = terms_more (alternative_end k a) t ∙ ap (λ p. cat p (expand (term_pattern t))) (terms_are k a h)

-- a term leaves the alternatives before as they are
earlier_term : (k : End) (t : Term) → (term_end k t).0.earlier ≡ k.0.earlier
earlier_term k (asserted e) = refl
earlier_term k (looks_behind n d) = refl
earlier_term k (looks_ahead n d) = refl
earlier_term k (once a) = refl
earlier_term k (quantified a q greedy) = refl
earlier_term k (quantified a q lazy) = refl

-- and so do terms
earlier_same : (k : End) (a : Alternative) → (alternative_end k a).0.earlier ≡ k.0.earlier
earlier_same k nothing = refl
earlier_same k (more a t) = earlier_term (alternative_end k a) t ∙ earlier_same k a

-- so the alternatives of a level are the pattern of the tree
pub level_is : (d : Disjunction) → whole_level (disjunction_end fresh d).0 (disjunction_end fresh d).1 ≡ expand (pattern d)
level_is (only a) =
    ap (λ e. building.join_alternatives e (terms_of (alternative_end fresh a))) (earlier_same fresh a) ∙ terms_are fresh a refl
level_is (either d a) =
    let k = bar_end (disjunction_end fresh d) in
    ap (λ e. building.join_alternatives e (terms_of (alternative_end k a))) (earlier_same k a)
    ∙ ap (alt (whole_level (disjunction_end fresh d).0 (disjunction_end fresh d).1)) (terms_are k a refl)
    ∙ ap (λ p. alt p (expand (alternative_pattern a))) (level_is d)

-- the names, and behind them those of the groups of parts
abbrev pub names_behind : List (List ℕ) → List Part → List (List ℕ)
names_behind ns [] = ns
names_behind ns (opens (of_group (named n)) ∷ ps) = names_behind (ns ++ name_value n ∷ []) ps
names_behind ns (p ∷ ps) = names_behind ns ps

-- of parts one behind another those of the first come first
pub names_joined : (ns : List (List ℕ)) (ps qs : List Part) → names_behind ns (ps ++ qs) ≡ names_behind (names_behind ns ps) qs
names_joined ns [] qs = refl
names_joined ns (bar ∷ ps) qs = names_joined ns ps qs
names_joined ns (edge e ∷ ps) qs = names_joined ns ps qs
names_joined ns (leaf l ∷ ps) qs = names_joined ns ps qs
names_joined ns (opens (of_group capturing) ∷ ps) qs = names_joined ns ps qs
names_joined ns (opens (of_group plain_group) ∷ ps) qs = names_joined ns ps qs
names_joined ns (opens (of_group (named n)) ∷ ps) qs = names_joined (ns ++ name_value n ∷ []) ps qs
names_joined ns (opens (of_lookbehind b) ∷ ps) qs = names_joined ns ps qs
names_joined ns (opens (of_lookahead b) ∷ ps) qs = names_joined ns ps qs
names_joined ns (closes ∷ ps) qs = names_joined ns ps qs
names_joined ns (repeats q ∷ ps) qs = names_joined ns ps qs

-- parts may stand so behind others
pub parts_behind : (ps qs : List Part) → AreParts (ps ++ qs) → AreParts qs
parts_behind [] qs h = h
parts_behind (p ∷ ps) qs h = parts_behind ps qs h.2

-- what comes of parts, told by what is told of where they lead
abbrev pub built : {A : Type 0} → (Builder → Option A) → Builder → List Part → Option A
built K s ps = option_and_then K (part_steps true step s ps)

-- behind what comes of a lexeme
abbrev pub built_behind : {A : Type 0} → (Builder → Option A) → Built → List Part → Option A
built_behind K o ps = option_and_then K (option_and_then (λ t. part_steps true step t ps) (taken_of o))

-- nothing is told behind a leading surrogate
abbrev pub Rejects : {A : Type 0} → (Builder → Option A) → Type 0
Rejects K = (gs : List Open) (ns : List (List ℕ)) (l : Level) (n : ℕ) → K (state gs ns (l, lead n)) ≡ None

-- two tests are one behind the other
pub when_both : {A : Type 0} (a b : Bool) (o : Option A) → when (a && b) o ≡ when a (when b o)
when_both false b o = refl
when_both true b o = refl

-- where no leading surrogate stands last, what comes of a lexeme is told by it alone
pub one_of : (s : Builder) (x : Last) (l : Lexeme) → is_lead_last x ≡ false → build_behind s x l ≡ build_one s l
one_of s none l h = refl
one_of s (atom p) l h = refl
one_of s (lead n) l h = absurd (true≢false h)
one_of s (counted p) l h = refl

-- a leading surrogate is no trailing one
pub lead_alone : (n : ℕ) → is_lead n ≡ true → is_trail n ≡ false
lead_alone n h = grind (arith, nat_tests)

-- nor is it a character of a text
pub lead_no_scalar : (n : ℕ) → is_lead n ≡ true → is_scalar n ≡ false
lead_no_scalar n h = grind (arith, nat_tests)

-- but two surrogates are one
pub pair_scalar : (n m : ℕ) → is_lead n ≡ true → is_trail m ≡ true → is_scalar (pair_value n m) ≡ true
pair_scalar n m h k = grind (arith, nat_tests)

-- a count that is held is great where the number is, and else it is the number
pub held_great : (m : ℕ) → is_great (cap_number m) ≡ not (nat_le m max_count)
held_great m = by_test (nat_le m capture_limit) refl
  where
    -- by whether it is held
    by_test : (z : Bool) → nat_le m capture_limit ≡ z → is_great (if z then m else capture_limit) ≡ not (nat_le m max_count)
    by_test true e = grind (arith, nat_tests)
    by_test false e = grind (arith, nat_tests)

-- so it is the number, where that is not
pub held_small : (m : ℕ) → nat_le m max_count ≡ true → cap_number m ≡ m
held_small m h = ap (λ z. if z then m else capture_limit) (below m h)
  where
    -- it is below the limit
    below : (m : ℕ) → nat_le m max_count ≡ true → nat_le m capture_limit ≡ true
    below m h = grind (arith, nat_tests)

module _ {A : Type 0} (K : Builder → Option A) (rejects : Rejects K) (gs : List Open) where
  -- a lexeme behind a whole term
  pub first : (ns : List (List ℕ)) (k : End) (l : Lexeme) (qs : List Part) → IsWhole k
      → built_behind K (build (state gs ns k) l) qs ≡ built_behind K (build_one (state gs ns k) l) qs
  first ns k l qs h = ap (λ o. built_behind K o qs) (one_of (state gs ns k) k.1 l h)

  -- nothing stands behind a leading surrogate but a trailing one
  no_more : (ns : List (List ℕ)) (l : Level) (n : ℕ) (qs : List Part) → AreParts qs → begins_with_trail qs ≡ false → built K (state gs ns (l, lead n)) qs ≡ None
  no_more ns l n [] f h = rejects gs ns l n
  no_more ns l n (bar ∷ qs) f h = refl
  no_more ns l n (edge e ∷ qs) f h = refl
  no_more ns l n (leaf (plain c) ∷ qs) f h = refl
  no_more ns l n (leaf dot ∷ qs) f h = refl
  no_more ns l n (leaf (escaped c) ∷ qs) f h = refl
  no_more ns l n (leaf (control_escape c) ∷ qs) f h = refl
  no_more ns l n (leaf (set_escape c) ∷ qs) f h = refl
  no_more ns l n (leaf (coded null_code) ∷ qs) f h = refl
  no_more ns l n (leaf (coded (letter_code c)) ∷ qs) f h = refl
  no_more ns l n (leaf (coded (byte_code ds)) ∷ qs) f h = refl
  no_more ns l n (leaf (coded (unit_code ds)) ∷ qs) f h =
      ap (λ z. built_behind K (trail_if (state gs ns (l, lead n)) n (hex_number ds) (z && is_scalar (pair_value n (hex_number ds)))) qs) h
  no_more ns l n (leaf (coded (pair_code ds es)) ∷ qs) f h =
      ap (λ z. option_and_then K (option_and_then (λ t. part_steps true step t qs)
      (option_and_then (λ t. step t (lexeme.number unit_form (hex_number es)))
      (taken_of (trail_if (state gs ns (l, lead n)) n (hex_number ds) (z && is_scalar (pair_value n (hex_number ds))))))))
      (lead_alone (hex_number ds) f.0.0.0.1)
  no_more ns l n (leaf (coded (point_code ds)) ∷ qs) f h = refl
  no_more ns l n (leaf (property_escape m e) ∷ qs) f h = refl
  no_more ns l n (leaf (numbered ds) ∷ qs) f h = refl
  no_more ns l n (leaf (called m) ∷ qs) f h = refl
  no_more ns l n (leaf (bracketed m r e) ∷ qs) f h = refl
  no_more ns l n (opens (of_group capturing) ∷ qs) f h = refl
  no_more ns l n (opens (of_group plain_group) ∷ qs) f h = refl
  no_more ns l n (opens (of_group (named m)) ∷ qs) f h = refl
  no_more ns l n (opens (of_lookbehind m) ∷ qs) f h = refl
  no_more ns l n (opens (of_lookahead m) ∷ qs) f h = refl
  no_more ns l n (closes ∷ qs) f h = refl
  no_more ns l n (repeats zero_or_more ∷ qs) f h = refl
  no_more ns l n (repeats one_or_more ∷ qs) f h = refl
  no_more ns l n (repeats zero_or_one ∷ qs) f h = refl
  no_more ns l n (repeats (exactly ds) ∷ qs) f h = refl
  no_more ns l n (repeats (at_least ds) ∷ qs) f h = refl
  no_more ns l n (repeats (from_to ds es) ∷ qs) f h = refl

  -- behind a leaf that is taken
  abbrev leaf_built : List (List ℕ) → End → Leaf → List Part → Option A
  leaf_built ns k l qs = built K (state gs ns (with_last_atom k (expand (leaf_pattern l)))) qs

  -- an escape by a number that is no surrogate's as `\\u` with four digits
  code_builds : (ns : List (List ℕ)) (k : End) (n : ℕ) (qs : List Part) (z : Bool)
      → built_behind K (number_if (state gs ns k) other_form n z) qs ≡ when z (built K (state gs ns (with_last_atom k (expand (one_char n)))) qs)
  code_builds ns k n qs false = refl
  code_builds ns k n qs true = refl

  -- `\\u` with four digits
  unit_builds : (ns : List (List ℕ)) (k : End) (n : ℕ) (qs : List Part) → AreParts qs → (z y : Bool) → is_lead n ≡ y → (y && begins_with_trail qs) ≡ false
      → built_behind K (number_if (state gs ns k) unit_form n z) qs ≡ when z (built K (state gs ns (with_last_atom k (expand (one_char n)))) qs)
  unit_builds ns k n qs f true y e h = refl
  unit_builds ns k n qs f false false e h = ap (λ u. built_behind K (lead_if (state gs ns k) n u) qs) e
  unit_builds ns k n qs f false true e h =
      ap (λ u. built_behind K (lead_if (state gs ns k) n u) qs) e ∙ no_more ns (so_far k) n qs f h

  -- two surrogates
  pair_builds : (ns : List (List ℕ)) (k : End) (ds es : List ℕ) (qs : List Part) → IsWhole k → IsEscape (pair_code ds es)
      → built K (state gs ns k) (leaf (coded (pair_code ds es)) ∷ qs) ≡ when (takes_code (pair_code ds es)) (leaf_built ns k (coded (pair_code ds es)) qs)
  pair_builds ns k ds es qs w h =
      let lead_is = h.0.0.1 in
      let trail_is = h.0.2 in
      let scalar = pair_scalar (hex_number ds) (hex_number es) lead_is trail_is in
      let rest : Option Builder → Option A =
      λ o. option_and_then K (option_and_then (λ t. part_steps true step t qs) (option_and_then (λ t. step t (lexeme.number unit_form (hex_number es))) o)) in
      ap (λ o. rest (taken_of o)) (one_of (state gs ns k) k.1 (lexeme.number unit_form (hex_number ds)) w)
      ∙ ap (λ z. rest (taken_of (number_if (state gs ns k) unit_form (hex_number ds) z))) (lead_no_scalar (hex_number ds) lead_is)
      ∙ ap (λ z. rest (taken_of (lead_if (state gs ns k) (hex_number ds) z))) lead_is
      ∙ ap (λ z. built_behind K (trail_if (state gs ns (so_far k, lead (hex_number ds))) (hex_number ds) (hex_number es)
      (z && is_scalar (pair_value (hex_number ds) (hex_number es)))) qs) trail_is
      ∙ ap (λ z. built_behind K (trail_if (state gs ns (so_far k, lead (hex_number ds))) (hex_number ds) (hex_number es) z) qs) scalar
      ∙ sym (ap (λ z. when z (leaf_built ns k (coded (pair_code ds es)) qs)) scalar)

  -- a property
  property_builds : (ns : List (List ℕ)) (k : End) (n : Bool) (o : Option Property) (qs : List Part)
      → built_behind K (property_built (state gs ns k) n o) qs
      ≡ when (is_some o) (built K (state gs ns (with_last_atom k (class false false (property_set n o)))) qs)
  property_builds ns k n None qs = refl
  property_builds ns k n (Some p) qs = refl

  -- a class
  class_builds : (ns : List (List ℕ)) (k : End) (n : Bool) (rs : List CharSet) (qs : List Part) (z : Bool)
      → built_behind K (class_built (state gs ns k) n (sets_if z rs)) qs ≡ when z (built K (state gs ns (with_last_atom k (class false n rs))) qs)
  class_builds ns k n rs qs false = refl
  class_builds ns k n rs qs true = refl

  -- any leaf
  pub leaf_builds : (ns : List (List ℕ)) (k : End) (l : Leaf) (qs : List Part) → IsWhole k → AreParts (leaf l ∷ qs)
      → built K (state gs ns k) (leaf l ∷ qs) ≡ when (takes_leaf l) (leaf_built ns k l qs)
  leaf_builds ns k (plain c) qs w h = first ns k (lexeme.char c) qs w
  leaf_builds ns k dot qs w h = first ns k lexeme.dot qs w
  leaf_builds ns k (escaped c) qs w h = first ns k (lexeme.char c) qs w
  leaf_builds ns k (control_escape c) qs w h = first ns k (lexeme.char (control_char c)) qs w
  leaf_builds ns k (set_escape c) qs w h = first ns k (lexeme.set c) qs w
  leaf_builds ns k (coded null_code) qs w h = first ns k (lexeme.number other_form 0) qs w
  leaf_builds ns k (coded (letter_code c)) qs w h =
      let n = code_value (letter_code c) in
      first ns k (lexeme.number other_form n) qs w ∙ code_builds ns k n qs (is_scalar n)
  leaf_builds ns k (coded (byte_code ds)) qs w h =
      first ns k (lexeme.number other_form (hex_number ds)) qs w ∙ code_builds ns k (hex_number ds) qs (is_scalar (hex_number ds))
  leaf_builds ns k (coded (unit_code ds)) qs w h =
      first ns k (lexeme.number unit_form (hex_number ds)) qs w
      ∙ unit_builds ns k (hex_number ds) qs h.2 (is_scalar (hex_number ds)) (is_lead (hex_number ds)) refl h.1
  leaf_builds ns k (coded (pair_code ds es)) qs w h = pair_builds ns k ds es qs w h.0
  leaf_builds ns k (coded (point_code ds)) qs w h =
      first ns k (lexeme.number other_form (hex_number ds)) qs w ∙ code_builds ns k (hex_number ds) qs (is_scalar (hex_number ds))
  leaf_builds ns k (property_escape n e) qs w h =
      first ns k (lexeme.property n (property_of e)) qs w ∙ property_builds ns k n (property_of e) qs
  leaf_builds ns k (numbered ds) qs w h = first ns k (lexeme.reference (cap_number (number ds))) qs w
  leaf_builds ns k (called n) qs w h = first ns k (lexeme.call (name_value n)) qs w
  leaf_builds ns k (bracketed n r e) qs w h =
      first ns k (lexeme.class n (class_sets true r e)) qs w
      ∙ ap (λ o. built_behind K (class_built (state gs ns k) n o) qs) (class_kept n r e h.0.0)
      ∙ class_builds ns k n (contents r e) qs (takes_ranges r)

  -- quantifiers
  -- a count behind an atom
  count_builds : (ns : List (List ℕ)) (k : End) (p : MarkedPattern) (t : Times) (qs : List Part) (z : Bool)
      → built_behind K (small_if z (takes (state gs ns (k.0, counted (quantified_pattern t p))))) qs
      ≡ when z (built K (state gs ns (k.0, counted (quantified_pattern t p))) qs)
  count_builds ns k p t qs false = refl
  count_builds ns k p t qs true = refl

  -- a count that is not great
  great_builds : (o : Built) (i : Option A) (qs : List Part) (z : Bool) → (z ≡ true → built_behind K o qs ≡ i) → built_behind K (great_if (not z) o) qs ≡ when z i
  great_builds o i qs false h = refl
  great_builds o i qs true h = h refl

  -- where neither of two tests holds, both others do
  neither : (a b : Bool) → (not a || not b) ≡ not (a && b)
  neither false b = refl
  neither true b = refl

  -- behind an atom
  abbrev counted_so : List (List ℕ) → Level → MarkedPattern → Quantifier → List Part → Option A
  counted_so ns l p q qs = built K (state gs ns (l, counted (quantified_pattern (times q) p))) qs

  -- a quantifier, where it is within the limits
  pub quantifier_builds : (ns : List (List ℕ)) (l : Level) (p : MarkedPattern) (q : Quantifier) (qs : List Part)
      → built K (state gs ns (l, atom p)) (repeats q ∷ qs) ≡ when (is_within q (steps p)) (counted_so ns l p q qs)
  quantifier_builds ns l p zero_or_more qs = refl
  quantifier_builds ns l p one_or_more qs = refl
  quantifier_builds ns l p zero_or_one qs = refl
  quantifier_builds ns l p (exactly ds) qs =
      let s = state gs ns (l, atom p) in
      let n = number ds in
      ap (λ z. built_behind K (great_if z (count_behind s (atom p) (times_of (cap_number n) (Some (cap_number n))))) qs) (held_great n)
      ∙ great_builds (count_behind s (atom p) (times_of (cap_number n) (Some (cap_number n))))
      (when (nat_le (copies (times_of n (Some n)) * steps p) max_term_steps) (counted_so ns l p (exactly ds) qs)) qs (nat_le n max_count)
      (λ e. ap (λ m. built_behind K (count_behind s (atom p) (times_of m (Some m))) qs) (held_small n e)
      ∙ count_builds ns (l, none) p (times_of n (Some n)) qs (nat_le (copies (times_of n (Some n)) * steps p) max_term_steps))
      ∙ sym (when_both (nat_le n max_count) _ (counted_so ns l p (exactly ds) qs))
      ∙ ap (λ c. when (nat_le n max_count && nat_le (c * steps p) max_term_steps) (counted_so ns l p (exactly ds) qs)) (copies_of n (Some n))
  quantifier_builds ns l p (at_least ds) qs =
      let s = state gs ns (l, atom p) in
      let n = number ds in
      ap (λ z. built_behind K (great_if z (count_behind s (atom p) (times_of (cap_number n) None))) qs) (held_great n)
      ∙ great_builds (count_behind s (atom p) (times_of (cap_number n) None))
      (when (nat_le (copies (times_of n None) * steps p) max_term_steps) (counted_so ns l p (at_least ds) qs)) qs (nat_le n max_count)
      (λ e. ap (λ m. built_behind K (count_behind s (atom p) (times_of m None)) qs) (held_small n e)
      ∙ count_builds ns (l, none) p (times_of n None) qs (nat_le (copies (times_of n None) * steps p) max_term_steps))
      ∙ sym (when_both (nat_le n max_count) _ (counted_so ns l p (at_least ds) qs))
      ∙ ap (λ c. when (nat_le n max_count && nat_le (c * steps p) max_term_steps) (counted_so ns l p (at_least ds) qs)) (copies_of n None)
  quantifier_builds ns l p (from_to ds es) qs =
      let s = state gs ns (l, atom p) in
      let n = number ds in
      let m = number es in
      let both = nat_le n max_count && nat_le m max_count in
      ap (λ z. built_behind K (great_if z (count_behind s (atom p) (times_of (cap_number n) (Some (cap_number m))))) qs)
      (ap (λ z. z || is_great (cap_number m)) (held_great n) ∙ ap (λ z. not (nat_le n max_count) || z) (held_great m)
      ∙ neither (nat_le n max_count) (nat_le m max_count))
      ∙ great_builds (count_behind s (atom p) (times_of (cap_number n) (Some (cap_number m))))
      (when (nat_le (copies (times_of n (Some m)) * steps p) max_term_steps) (counted_so ns l p (from_to ds es) qs)) qs both
      (λ e. ap (λ i. built_behind K (count_behind s (atom p) (times_of i (Some (cap_number m)))) qs) (held_small n (and_left _ _ e))
      ∙ ap (λ i. built_behind K (count_behind s (atom p) (times_of n (Some i))) qs) (held_small m (and_right (nat_le n max_count) _ e))
      ∙ count_builds ns (l, none) p (times_of n (Some m)) qs (nat_le (copies (times_of n (Some m)) * steps p) max_term_steps))
      ∙ sym (when_both both _ (counted_so ns l p (from_to ds es) qs))
      ∙ ap (λ c. when (both && nat_le (c * steps p) max_term_steps) (counted_so ns l p (from_to ds es) qs)) (copies_of n (Some m))

  -- and the `?` that makes it lazy, or none
  pub greed_builds : (ns : List (List ℕ)) (k : End) (p : MarkedPattern) (g : Greed) (qs : List Part)
      → built K (state gs ns (so_far k, counted p)) (greed_parts g ++ qs) ≡ built K (state gs ns (with_repeated k p g)) qs
  greed_builds ns k p greedy qs = refl
  greed_builds ns k p lazy qs = refl
