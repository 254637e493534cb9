-- The pattern that a tree of the grammar stands for (ECMA-262 2024, section 22.2.2). Whether a
-- quantifier is lazy matters for which match is found first, and not for whether one is.
use Rattle.std.specs.Prelude.{ℕ, Option, Some, None, true, false, [], ◌∷◌}
use Rattle.strkw_charset.specs.Properties.{property_of}
use Rattle.strkw_charset.specs.Sets.{line_ends, set_of, is_negative, control_char}
use Rattle.strkw_charset.specs.declared.tree.CharSet.TheVariants.{Range}
use Rattle.strkw_regex_core.specs.Tree.{Pattern, empty, class, look, cat, alt, repeat, start, end}
use Rattle.strkw_regex_core.specs.Tree.{boundary, no_boundary, lookbehind, lookahead}
use Rattle.strkw_regex_grammar.specs.Classes.{contents, property_set}
use Rattle.strkw_regex_grammar.specs.Codes.{code_value}
use Rattle.strkw_regex_grammar.specs.Numbers.{number}
use Rattle.strkw_regex_grammar.specs.declared.tokens.Edge.{Edge}
use Rattle.strkw_regex_grammar.specs.declared.tokens.Edge.TheVariants as edges
use Rattle.strkw_regex_grammar.specs.Regex.{Leaf, plain, dot, escaped, control_escape, set_escape}
use Rattle.strkw_regex_grammar.specs.Regex.{coded, property_escape, numbered, called, bracketed}
use Rattle.strkw_regex_grammar.specs.Regex.{Disjunction, only, either, Alternative, nothing, more}
use Rattle.strkw_regex_grammar.specs.Regex.{Term, asserted, looks_behind, looks_ahead, once}
use Rattle.strkw_regex_grammar.specs.Regex.{quantified, Atom, single, group}
use Rattle.strkw_regex_grammar.specs.Syntax.{Quantifier, zero_or_more, one_or_more, zero_or_one}
use Rattle.strkw_regex_grammar.specs.Syntax.{exactly, at_least, from_to}

abbrev pub one_char : ℕ → Pattern
one_char c = class false (Range c c ∷ [])

-- how often a quantifier repeats at least and at most (CompileQuantifier)
abbrev pub least : Quantifier → ℕ
least zero_or_more = 0
least one_or_more = 1
least zero_or_one = 0
least (exactly ds) = number ds
least (at_least ds) = number ds
least (from_to ds es) = number ds

abbrev pub most : Quantifier → Option ℕ
most zero_or_more = None
most one_or_more = None
most zero_or_one = Some 1
most (exactly ds) = Some (number ds)
most (at_least ds) = None
most (from_to ds es) = Some (number es)

abbrev pub edge_pattern : Edge → Pattern
edge_pattern edges.Start = look start
edge_pattern edges.End = look end
edge_pattern edges.Boundary = look boundary
edge_pattern edges.NoBoundary = look no_boundary

-- back references are not taken: these stand for nothing
abbrev pub leaf_pattern : Leaf → Pattern
leaf_pattern (plain c) = one_char c
leaf_pattern dot = class true line_ends
leaf_pattern (escaped c) = one_char c
leaf_pattern (control_escape c) = one_char (control_char c)
leaf_pattern (set_escape c) = class (is_negative c) (set_of c)
leaf_pattern (coded k) = one_char (code_value k)
leaf_pattern (property_escape n e) = class false (property_set n (property_of e))
leaf_pattern (numbered ds) = empty
leaf_pattern (called n) = empty
leaf_pattern (bracketed n r e) = class n (contents r e)

abbrev mutual
  pub pattern : Disjunction → Pattern
  pattern (only a) = alternative_pattern a
  pattern (either d a) = alt (pattern d) (alternative_pattern a)

  pub alternative_pattern : Alternative → Pattern
  alternative_pattern nothing = empty
  alternative_pattern (more a t) = cat (alternative_pattern a) (term_pattern t)

  pub term_pattern : Term → Pattern
  term_pattern (asserted e) = edge_pattern e
  term_pattern (looks_behind n d) = lookbehind n (pattern d)
  term_pattern (looks_ahead n d) = lookahead n (pattern d)
  term_pattern (once a) = atom_pattern a
  term_pattern (quantified a q g) = repeat (least q) (most q) (atom_pattern a)

  pub atom_pattern : Atom → Pattern
  atom_pattern (single l) = leaf_pattern l
  atom_pattern (group g d) = pattern d
