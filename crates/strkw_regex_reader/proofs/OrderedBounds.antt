-- No quantifier of a tree has its second number below its first.
use Rattle.std.proofs.Common.{◌≤◌, List, [], ◌∷◌, ◌++◌, IfSome, sym, subst, append_assoc, arith}
use Rattle.std.proofs.lemmas.List.{append-nil}
use Rattle.strkw_regex_core.specs.Matchers.{AreOrdered}
use Rattle.strkw_regex_grammar.specs.Regex.{Leaf, plain, dot, escaped, control_escape, set_escape, coded, property_escape, numbered, called, bracketed}
use Rattle.strkw_regex_grammar.specs.Regex.{Part, bar, closes, repeats, Disjunction, only, either, Alternative, nothing, more, Term, asserted}
use Rattle.strkw_regex_grammar.specs.Regex.{looks_behind, looks_ahead, once, quantified, Atom, single, group, parts, alternative_parts, term_parts}
use Rattle.strkw_regex_grammar.specs.Regex.{atom_parts, greed_parts, IsRepetition, AreParts}
use Rattle.strkw_regex_grammar.specs.Syntax.{Quantifier, zero_or_more, one_or_more, zero_or_one, exactly, at_least, from_to}
use Rattle.strkw_regex_grammar.specs.declared.tokens.Edge.TheVariants as edges
use Rattle.strkw_regex_reader.specs.Patterns.{least, most, pattern, alternative_pattern, term_pattern, atom_pattern, leaf_pattern}
use Rattle.strkw_regex_reader.proofs.Builds.{parts_behind}

-- the second count of a quantifier is not the smaller
ordered_counts : (q : Quantifier) → IsRepetition q → IfSome (most q) (λ k. least q ≤ k)
ordered_counts zero_or_more h = tt
ordered_counts one_or_more h = tt
ordered_counts zero_or_one h = omega arith
ordered_counts (exactly ds) h = omega arith
ordered_counts (at_least ds) h = tt
ordered_counts (from_to ds es) h = h.2

-- the quantifier behind an atom is a part
counts_of : (a : Atom) (q : Quantifier) (gs qs : List Part) → AreParts ((atom_parts a ++ repeats q ∷ gs) ++ qs) → IsRepetition q
counts_of a q gs qs h = (parts_behind (atom_parts a) _ (subst AreParts (append_assoc (atom_parts a) (repeats q ∷ gs) qs) h)).0

-- the parts of an atom stand before its quantifier
atom_of : (a : Atom) (q : Quantifier) (gs qs : List Part) → AreParts ((atom_parts a ++ repeats q ∷ gs) ++ qs)
    → AreParts (atom_parts a ++ repeats q ∷ (gs ++ qs))
atom_of a q gs qs h = subst AreParts (append_assoc (atom_parts a) (repeats q ∷ gs) qs) h

-- those of a group or a lookaround before its end
inner_of : (d : Disjunction) (qs : List Part) → AreParts ((parts d ++ closes ∷ []) ++ qs) → AreParts (parts d ++ closes ∷ qs)
inner_of d qs h = subst AreParts (append_assoc (parts d) (closes ∷ []) qs) h

-- those of a disjunction before its last alternative
first_of : (d : Disjunction) (a : Alternative) (qs : List Part) → AreParts ((parts d ++ bar ∷ alternative_parts a) ++ qs)
    → AreParts (parts d ++ bar ∷ (alternative_parts a ++ qs))
first_of d a qs h = subst AreParts (append_assoc (parts d) (bar ∷ alternative_parts a) qs) h

-- and those of the terms before the last one
terms_of : (a : Alternative) (t : Term) (qs : List Part) → AreParts ((alternative_parts a ++ term_parts t) ++ qs)
    → AreParts (alternative_parts a ++ (term_parts t ++ qs))
terms_of a t qs h = subst AreParts (append_assoc (alternative_parts a) (term_parts t) qs) h

-- no quantifier stands in a leaf
ordered_leaf : (l : Leaf) → AreOrdered (leaf_pattern l)
ordered_leaf (plain c) = tt
ordered_leaf dot = tt
ordered_leaf (escaped c) = tt
ordered_leaf (control_escape c) = tt
ordered_leaf (set_escape c) = tt
ordered_leaf (coded k) = tt
ordered_leaf (property_escape n e) = tt
ordered_leaf (numbered ds) = tt
ordered_leaf (called n) = tt
ordered_leaf (bracketed n r e) = tt

mutual
  -- no quantifier of a tree has a second number below its first
  pub ordered : (d : Disjunction) (qs : List Part) → AreParts (parts d ++ qs) → AreOrdered (pattern d)
  ordered (only a) qs h = ordered_alternative a qs h
  ordered (either d a) qs h =
      let formed = first_of d a qs h in
      (ordered d _ formed, ordered_alternative a qs (parts_behind (parts d) _ formed).2)

  -- nor has one of its terms
  ordered_alternative : (a : Alternative) (qs : List Part) → AreParts (alternative_parts a ++ qs) → AreOrdered (alternative_pattern a)
  ordered_alternative nothing qs h = tt
  ordered_alternative (more a t) qs h =
      let formed = terms_of a t qs h in
      (ordered_alternative a _ formed, ordered_term t qs (parts_behind (alternative_parts a) _ formed))

  -- nor has that of a term
  ordered_term : (t : Term) (qs : List Part) → AreParts (term_parts t ++ qs) → AreOrdered (term_pattern t)
  ordered_term (asserted edges.Start) qs h = tt
  ordered_term (asserted edges.End) qs h = tt
  ordered_term (asserted edges.Boundary) qs h = tt
  ordered_term (asserted edges.NoBoundary) qs h = tt
  ordered_term (looks_behind n d) qs h = ordered d _ (inner_of d qs h.2)
  ordered_term (looks_ahead n d) qs h = ordered d _ (inner_of d qs h.2)
  ordered_term (once a) qs h = ordered_atom a qs h
  ordered_term (quantified a q g) qs h =
      (ordered_counts q (counts_of a q (greed_parts g) qs h), ordered_atom a _ (atom_of a q (greed_parts g) qs h))

  -- nor has that of an atom
  ordered_atom : (a : Atom) (qs : List Part) → AreParts (atom_parts a ++ qs) → AreOrdered (atom_pattern a)
  ordered_atom (single l) qs h = ordered_leaf l
  ordered_atom (group g d) qs h = ordered d _ (inner_of d qs h.2)

-- so it is with a whole tree
pub ordered_tree : (d : Disjunction) → AreParts (parts d) → AreOrdered (pattern d)
ordered_tree d h = ordered d [] (subst AreParts (sym (append-nil (parts d))) h)
