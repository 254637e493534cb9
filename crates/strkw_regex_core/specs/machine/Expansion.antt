-- A pattern as it is searched: its classes have marks, none of which is set yet, and what is
-- counted is written out in copies. It matches the same (the law `expansions_match`).
use Rattle.std.specs.Prelude.{false}
use Rattle.strkw_regex_core.specs.Tree.{Pattern}
use Rattle.strkw_regex_core.specs.Tree as tree
use Rattle.strkw_regex_core.specs.machine.MarkedPattern.{MarkedPattern, empty, class, look, cat}
use Rattle.strkw_regex_core.specs.machine.MarkedPattern.{alt, lookbehind, lookahead}
use Rattle.strkw_regex_core.specs.machine.Times.{times_of, quantified_pattern}

abbrev pub expand : Pattern → MarkedPattern
expand tree.empty = empty
expand (tree.class n rs) = class false n rs
expand (tree.look l) = look l
expand (tree.cat p q) = cat (expand p) (expand q)
expand (tree.alt p q) = alt (expand p) (expand q)
expand (tree.repeat min max p) = quantified_pattern (times_of min max) (expand p)
expand (tree.lookbehind n p) = lookbehind n (expand p)
expand (tree.lookahead n p) = lookahead n (expand p)
