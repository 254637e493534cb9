-- Which trees of the grammar are taken: some parts are not, and there are limits.
use Rattle.std.specs.Prelude.{ℕ, suc, ◌*◌, nat_lt, nat_le, Bool, true, false, ◌&&◌, is_some}
use Rattle.strkw_charset.specs.Properties.{property_of}
use Rattle.strkw_regex_core.specs.Size.{copies, forth, max_term_steps, size}
use Rattle.strkw_regex_grammar.specs.Classes.{ClassAtom, class_coded, class_property, Ranges}
use Rattle.strkw_regex_grammar.specs.Classes.{no_ranges, with_one, with_range}
use Rattle.strkw_regex_grammar.specs.Codes.{Code, code_value, is_scalar}
use Rattle.strkw_regex_grammar.specs.Numbers.{number}
use Rattle.strkw_regex_grammar.specs.Regex.{Leaf, plain, dot, escaped, control_escape, set_escape}
use Rattle.strkw_regex_grammar.specs.Regex.{coded, property_escape, numbered, called, bracketed}
use Rattle.strkw_regex_grammar.specs.Regex.{Disjunction, only, either, Alternative, nothing, more}
use Rattle.strkw_regex_grammar.specs.Regex.{Term, asserted, looks_behind, looks_ahead, once}
use Rattle.strkw_regex_grammar.specs.Regex.{quantified, Atom, single, group}
use Rattle.strkw_regex_grammar.specs.Syntax.{Quantifier, zero_or_more, one_or_more, zero_or_one}
use Rattle.strkw_regex_grammar.specs.Syntax.{exactly, at_least, from_to}
use Rattle.strkw_regex_reader.specs.Patterns.{atom_pattern, least, most}

-- no count is greater, groups and lookarounds lie in one another at most so deep, and a pattern has
-- at most so many characters
abbrev pub max_count : ℕ
max_count = 5000

abbrev pub max_nesting : ℕ
max_nesting = 250

abbrev pub max_length : ℕ
max_length = 2000

-- an escape gives a character that a text can have: a surrogate alone is not taken
abbrev pub takes_code : Code → Bool
takes_code k = is_scalar (code_value k)

abbrev pub takes_atom : ClassAtom → Bool
takes_atom (class_coded k) = takes_code k
takes_atom (class_property n e) = is_some (property_of e)
takes_atom x = true

abbrev pub takes_ranges : Ranges → Bool
takes_ranges no_ranges = true
takes_ranges (with_one r x) = takes_ranges r && takes_atom x
takes_ranges (with_range r x y) = takes_ranges r && takes_atom x && takes_atom y

abbrev pub takes_leaf : Leaf → Bool
takes_leaf (plain c) = true
takes_leaf dot = true
takes_leaf (escaped c) = true
takes_leaf (control_escape c) = true
takes_leaf (set_escape c) = true
takes_leaf (coded k) = takes_code k
takes_leaf (property_escape n e) = is_some (property_of e)
takes_leaf (numbered ds) = false
takes_leaf (called n) = false
takes_leaf (bracketed n r e) = takes_ranges r

-- no count is too great
abbrev pub are_counts : Quantifier → Bool
are_counts zero_or_more = true
are_counts one_or_more = true
are_counts zero_or_one = true
are_counts (exactly ds) = nat_le (number ds) max_count
are_counts (at_least ds) = nat_le (number ds) max_count
are_counts (from_to ds es) = nat_le (number ds) max_count && nat_le (number es) max_count

-- and the copies of a counted term of this size are not too large
abbrev pub is_within : Quantifier → ℕ → Bool
is_within zero_or_more n = true
is_within one_or_more n = true
is_within zero_or_one n = true
is_within q n = are_counts q && nat_le (copies (least q) (most q) * n) max_term_steps

abbrev mutual
  -- n groups and lookarounds being open around it
  pub takes : ℕ → Disjunction → Bool
  takes n (only a) = takes_alternative n a
  takes n (either d a) = takes n d && takes_alternative n a

  pub takes_alternative : ℕ → Alternative → Bool
  takes_alternative n nothing = true
  takes_alternative n (more a t) = takes_alternative n a && takes_term n t

  pub takes_term : ℕ → Term → Bool
  takes_term n (asserted e) = true
  takes_term n (looks_behind b d) = nat_lt n max_nesting && takes (suc n) d
  takes_term n (looks_ahead b d) = nat_lt n max_nesting && takes (suc n) d
  takes_term n (once a) = takes_atom_of n a
  takes_term n (quantified a q g) =
      takes_atom_of n a && is_within q (size forth (atom_pattern a))

  pub takes_atom_of : ℕ → Atom → Bool
  takes_atom_of n (single l) = takes_leaf l
  takes_atom_of n (group g d) = nat_lt n max_nesting && takes (suc n) d
