-- The pattern of a tree is one as trees have them, so its size is how many steps its parts take.
use Rattle.std.proofs.Common.{◌≡◌, false, refl}
use Rattle.strkw_regex_core.specs.Size.{forth, size}
use Rattle.strkw_regex_core.specs.WholeSize.{whole_size}
use Rattle.strkw_regex_core.specs.machine.Expansion.{expand}
use Rattle.strkw_regex_core.specs.machine.LeadingLookahead.{parts, steps_of_parts}
use Rattle.strkw_regex_core.specs.machine.ProgramSteps.{steps}
use Rattle.strkw_regex_core.proofs.PatternSizes.{sized_forth}
use Rattle.strkw_regex_core.proofs.Terms.{AreTerms, is_one, is_repeat}
use Rattle.strkw_regex_core.proofs.WholeSizes.{whole_steps}
use Rattle.strkw_regex_grammar.specs.Regex.{Leaf, plain, dot, escaped, control_escape, set_escape, coded, property_escape, numbered, called, bracketed}
use Rattle.strkw_regex_grammar.specs.Regex.{Disjunction, only, either, Alternative, nothing, more, Term, asserted, looks_behind, looks_ahead}
use Rattle.strkw_regex_grammar.specs.Regex.{once, quantified, Atom, single, group}
use Rattle.strkw_regex_grammar.specs.declared.tokens.Edge.TheVariants as edges
use Rattle.strkw_regex_reader.specs.Patterns.{pattern, alternative_pattern, term_pattern, atom_pattern, leaf_pattern}

-- an alternative is nothing that is repeated
alternative_first : (a : Alternative) → is_repeat (alternative_pattern a) ≡ false
alternative_first nothing = refl
alternative_first (more a t) = refl

-- and no class
alternative_many : (a : Alternative) → is_one (alternative_pattern a) ≡ false
alternative_many nothing = refl
alternative_many (more a t) = refl

-- nor is a tree
tree_first : (d : Disjunction) → is_repeat (pattern d) ≡ false
tree_first (only a) = alternative_first a
tree_first (either d a) = refl

-- nor a leaf
leaf_first : (l : Leaf) → is_repeat (leaf_pattern l) ≡ false
leaf_first (plain c) = refl
leaf_first dot = refl
leaf_first (escaped c) = refl
leaf_first (control_escape c) = refl
leaf_first (set_escape c) = refl
leaf_first (coded k) = refl
leaf_first (property_escape n e) = refl
leaf_first (numbered ds) = refl
leaf_first (called n) = refl
leaf_first (bracketed n r e) = refl

-- nor an atom
atom_first : (a : Atom) → is_repeat (atom_pattern a) ≡ false
atom_first (single l) = leaf_first l
atom_first (group g d) = tree_first d

-- a leaf has no part
leaf_terms : (l : Leaf) → AreTerms (leaf_pattern l)
leaf_terms (plain c) = tt
leaf_terms dot = tt
leaf_terms (escaped c) = tt
leaf_terms (control_escape c) = tt
leaf_terms (set_escape c) = tt
leaf_terms (coded k) = tt
leaf_terms (property_escape n e) = tt
leaf_terms (numbered ds) = tt
leaf_terms (called n) = tt
leaf_terms (bracketed n r e) = tt

mutual
  -- nothing that is repeated begins a part of a tree, and no alternative of it is a class
  tree_terms : (d : Disjunction) → AreTerms (pattern d)
  tree_terms (only a) = alternative_terms a
  tree_terms (either d a) = (tree_first d, alternative_many a, tree_terms d, alternative_terms a)

  -- of an alternative
  alternative_terms : (a : Alternative) → AreTerms (alternative_pattern a)
  alternative_terms nothing = tt
  alternative_terms (more a t) = (alternative_first a, alternative_terms a, term_terms t)

  -- of a term
  term_terms : (t : Term) → AreTerms (term_pattern t)
  term_terms (asserted edges.Start) = tt
  term_terms (asserted edges.End) = tt
  term_terms (asserted edges.Boundary) = tt
  term_terms (asserted edges.NoBoundary) = tt
  term_terms (looks_behind n d) = tree_terms d
  term_terms (looks_ahead n d) = tree_terms d
  term_terms (once a) = atom_terms a
  term_terms (quantified a q g) = (atom_first a, atom_terms a)

  -- and of an atom
  atom_terms : (a : Atom) → AreTerms (atom_pattern a)
  atom_terms (single l) = leaf_terms l
  atom_terms (group g d) = tree_terms d

-- so the size of an atom is how many steps its program takes
pub atom_steps : (a : Atom) → steps (expand (atom_pattern a)) ≡ size forth (atom_pattern a)
atom_steps a = (sized_forth (atom_pattern a) (atom_terms a)).0

-- and that of a whole tree how many its parts take
pub tree_steps : (d : Disjunction) → steps_of_parts (parts (expand (pattern d))) ≡ whole_size (pattern d)
tree_steps d = whole_steps (pattern d) (tree_first d) (tree_terms d)
