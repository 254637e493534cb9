-- A tree that is taken is a pattern of the standard: it refers to no group, and its groups are few.
use Rattle.std.proofs.Common.{◌≡◌, ℕ, suc, ◌≤◌, nat_le, true, List, [], ◌∷◌, ◌++◌, length, length-append, refl, sym, ap, ◌∙◌}
use Rattle.std.proofs.Common.{append_assoc, true≢false, arith}
use Rattle.std.specs.Prelude.{nat_lt}
use Rattle.std.specs.List.{list_all, list_any}
use Rattle.strkw_charset.proofs.Booleans.{and_left, and_right}
use Rattle.strkw_regex_grammar.specs.NullEscape.{is_apart}
use Rattle.strkw_regex_grammar.specs.Names.{same_name}
use Rattle.strkw_regex_grammar.specs.Syntax.{Quantifier, Greed, greedy, lazy, capturing, plain_group, named, of_group, of_lookbehind, of_lookahead}
use Rattle.strkw_regex_grammar.specs.Regex.{Leaf, plain, dot, escaped, control_escape, set_escape, coded, property_escape, numbered, called, bracketed}
use Rattle.strkw_regex_grammar.specs.Regex.{Part, bar, edge, leaf, opens, closes, repeats, Disjunction, only, either, Alternative, nothing, more}
use Rattle.strkw_regex_grammar.specs.Regex.{Term, asserted, looks_behind, looks_ahead, once, quantified, Atom, single, group, greed_parts, parts}
use Rattle.strkw_regex_grammar.specs.Regex.{alternative_parts, term_parts, atom_parts, part_spelling, spelling, captures, names, numbers, calls, IsMadeOf}
use Rattle.strkw_regex_grammar.proofs.RegexSteps.{captures_more, asked_more}
use Rattle.strkw_regex_reader.specs.Limits.{max_nesting, max_length, takes, takes_alternative, takes_term, takes_atom_of, takes_leaf}
use Rattle.strkw_regex_reader.proofs.ReadTrees.{IsReadAs}

-- back references
-- parts have none
abbrev AskNothing : List Part → Type 0
AskNothing ps = (numbers ps ≡ []) × (calls ps ≡ [])

-- two lists of parts, one behind the other, have those of both
numbers_append : (ps qs : List Part) → numbers (ps ++ qs) ≡ numbers ps ++ numbers qs
numbers_append [] qs = refl
numbers_append (p ∷ ps) qs =
    (asked_more p (ps ++ qs)).1 ∙ ap (λ z. numbers (p ∷ []) ++ z) (numbers_append ps qs) ∙ sym (append_assoc (numbers (p ∷ [])) (numbers ps) (numbers qs))
    ∙ ap (λ z. z ++ numbers qs) (sym (asked_more p ps).1)

-- so it is with those by a name
calls_append : (ps qs : List Part) → calls (ps ++ qs) ≡ calls ps ++ calls qs
calls_append [] qs = refl
calls_append (p ∷ ps) qs =
    (asked_more p (ps ++ qs)).0 ∙ ap (λ z. calls (p ∷ []) ++ z) (calls_append ps qs) ∙ sym (append_assoc (calls (p ∷ [])) (calls ps) (calls qs))
    ∙ ap (λ z. z ++ calls qs) (sym (asked_more p ps).0)

-- where neither has one, they have none
both_ask : (ps qs : List Part) → AskNothing ps → AskNothing qs → AskNothing (ps ++ qs)
both_ask ps qs h k = (numbers_append ps qs ∙ ap (λ z. z ++ numbers qs) h.0 ∙ k.0, calls_append ps qs ∙ ap (λ z. z ++ calls qs) h.1 ∙ k.1)

-- a quantifier has none
counts_ask : (q : Quantifier) (g : Greed) → AskNothing (repeats q ∷ greed_parts g)
counts_ask q greedy = (refl, refl)
counts_ask q lazy = (refl, refl)

-- nor has a leaf that is taken
leaf_asks : (l : Leaf) → takes_leaf l ≡ true → AskNothing (leaf l ∷ [])
leaf_asks (plain c) h = (refl, refl)
leaf_asks dot h = (refl, refl)
leaf_asks (escaped c) h = (refl, refl)
leaf_asks (control_escape c) h = (refl, refl)
leaf_asks (set_escape c) h = (refl, refl)
leaf_asks (coded k) h = (refl, refl)
leaf_asks (property_escape n e) h = (refl, refl)
leaf_asks (numbered ds) h = absurd (true≢false (sym h))
leaf_asks (called n) h = absurd (true≢false (sym h))
leaf_asks (bracketed n r e) h = (refl, refl)

mutual
  -- nor has a tree that is taken
  tree_asks : (d : Disjunction) (n : ℕ) → takes n d ≡ true → AskNothing (parts d)
  tree_asks (only a) n h = alternative_asks a n h
  tree_asks (either d a) n h =
      both_ask (parts d) (bar ∷ alternative_parts a) (tree_asks d n (and_left (takes n d) _ h)) (alternative_asks a n (and_right (takes n d) _ h))

  -- an alternative
  alternative_asks : (a : Alternative) (n : ℕ) → takes_alternative n a ≡ true → AskNothing (alternative_parts a)
  alternative_asks nothing n h = (refl, refl)
  alternative_asks (more a t) n h =
      both_ask (alternative_parts a) (term_parts t) (alternative_asks a n (and_left (takes_alternative n a) _ h))
      (term_asks t n (and_right (takes_alternative n a) _ h))

  -- a term
  term_asks : (t : Term) (n : ℕ) → takes_term n t ≡ true → AskNothing (term_parts t)
  term_asks (asserted e) n h = (refl, refl)
  term_asks (looks_behind b d) n h =
      both_ask (parts d) (closes ∷ []) (tree_asks d (suc n) (and_right (nat_lt n max_nesting) _ h)) (refl, refl)
  term_asks (looks_ahead b d) n h =
      both_ask (parts d) (closes ∷ []) (tree_asks d (suc n) (and_right (nat_lt n max_nesting) _ h)) (refl, refl)
  term_asks (once a) n h = atom_asks a n h
  term_asks (quantified a q g) n h =
      both_ask (atom_parts a) (repeats q ∷ greed_parts g) (atom_asks a n (and_left (takes_atom_of n a) _ h)) (counts_ask q g)

  -- or an atom
  atom_asks : (a : Atom) (n : ℕ) → takes_atom_of n a ≡ true → AskNothing (atom_parts a)
  atom_asks (single l) n h = leaf_asks l h
  atom_asks (group g d) n h =
      both_ask (parts d) (closes ∷ []) (tree_asks d (suc n) (and_right (nat_lt n max_nesting) _ h)) (refl, refl)

-- groups
-- a part has a character for a group that captures
one_capture : (p : Part) → captures (p ∷ []) ≤ length (part_spelling p)
one_capture bar = omega arith
one_capture (edge e) = omega arith
one_capture (leaf l) = omega arith
one_capture (opens (of_group capturing)) = omega arith
one_capture (opens (of_group plain_group)) = omega arith
one_capture (opens (of_group (named n))) = omega arith
one_capture (opens (of_lookbehind b)) = omega arith
one_capture (opens (of_lookahead b)) = omega arith
one_capture closes = omega arith
one_capture (repeats q) = omega arith

-- so there are no more such groups than characters
few_captures : (ps : List Part) → captures ps ≤ length (spelling ps)
few_captures [] = omega arith
few_captures (p ∷ ps) = omega (arith, captures_more p ps, one_capture p, few_captures ps, length-append (part_spelling p) (spelling ps))

-- so the text of a tree that is taken has its parts
pub made : (source : List ℕ) (d : Disjunction) → IsReadAs source d → is_apart source ≡ true → length source ≤ max_length → IsMadeOf source (parts d)
made source d h a l =
    let asks = tree_asks d 0 h.taken in
    record {
      formed = h.formed;
      spelled = h.spelled;
      apart = a;
      few = omega (arith, few_captures (parts d), ap length h.spelled, l);
      distinct = h.distinct;
      counted = ap (list_all (λ n. nat_le n (captures (parts d)))) asks.0;
      known = ap (list_all (λ n. list_any (same_name n) (names (parts d)))) asks.1;
    }
