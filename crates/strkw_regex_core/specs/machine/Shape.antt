-- What an outline of the code stands for, and its instructions.
use Rattle.std.specs.Prelude.{Bool, true, false, ◌&&◌, ◌==◌}
use Rattle.strkw_regex_core.specs.machine.MarkedPattern.{MarkedPattern, empty, class, look, cat}
use Rattle.strkw_regex_core.specs.machine.MarkedPattern.{alt}
use Rattle.strkw_regex_core.specs.Tree.{start, end, boundary}
use Rattle.strkw_regex_core.specs.Tree.{no_boundary}
use Rattle.strkw_regex_core.specs.machine.MarkedPattern.{lookbehind, lookahead}
use Rattle.strkw_regex_core.specs.machine.Times.{Times, any_times, some_times, once_at_most}
use Rattle.strkw_regex_core.specs.machine.Times.{exact_times}
use Rattle.strkw_regex_core.specs.machine.Times.{least_times, range_times, quantified_pattern}
use Rattle.strkw_regex_core.specs.declared.counted_regex.Quantifier.{Quantifier as CodeQuantifier}
use Rattle.strkw_regex_core.specs.declared.counted_regex.Quantifier.TheVariants as quantifier
use Rattle.strkw_regex_core.specs.declared.counted_regex.CountedRegex.{CountedRegex}
use Rattle.strkw_regex_core.specs.declared.counted_regex.CountedRegex.TheOpen.{CountedRegex-F}
use Rattle.strkw_regex_core.specs.declared.counted_regex.CountedRegex.TheFolds.{fold-CountedRegex}

-- it takes no copy of what it repeats
abbrev pub is_never : Times → Bool
is_never any_times = false
is_never some_times = false
is_never once_at_most = false
is_never (exact_times n) = n == 0
is_never (least_times n) = false
is_never (range_times n m) = n == 0 && m == 0

abbrev pub quantifier_of : CodeQuantifier → Times
quantifier_of quantifier.ZeroOrMore = any_times
quantifier_of quantifier.OneOrMore = some_times
quantifier_of quantifier.ZeroOrOne = once_at_most
quantifier_of (quantifier.Exactly n) = exact_times n
quantifier_of (quantifier.AtLeast n) = least_times n
quantifier_of (quantifier.FromTo n m) = range_times n m

-- one node of an outline, with the patterns of its children in their places
abbrev pub outline_node : CountedRegex-F MarkedPattern → MarkedPattern
outline_node CountedRegex-F.Empty = empty
outline_node (CountedRegex-F.Class negated sets) = class false negated sets.items
outline_node CountedRegex-F.Start = look start
outline_node CountedRegex-F.End = look end
outline_node CountedRegex-F.Boundary = look boundary
outline_node CountedRegex-F.NoBoundary = look no_boundary
outline_node (CountedRegex-F.Then first second) = cat first.value second.value
outline_node (CountedRegex-F.Or first second) = alt first.value second.value
outline_node (CountedRegex-F.Repeated q body) = quantified_pattern (quantifier_of q) body.value
outline_node (CountedRegex-F.Behind negated body) = lookbehind negated body.value
outline_node (CountedRegex-F.Ahead negated body) = lookahead negated body.value

abbrev pub outline_pattern : CountedRegex → MarkedPattern
outline_pattern = fold-CountedRegex MarkedPattern outline_node

-- as a sequence it does not begin with a counted term, whose copies would be one
abbrev pub plain_node : CountedRegex-F Bool → Bool
plain_node CountedRegex-F.Empty = true
plain_node (CountedRegex-F.Class negated sets) = true
plain_node CountedRegex-F.Start = true
plain_node CountedRegex-F.End = true
plain_node CountedRegex-F.Boundary = true
plain_node CountedRegex-F.NoBoundary = true
plain_node (CountedRegex-F.Then first second) = first.value
plain_node (CountedRegex-F.Or first second) = true
plain_node (CountedRegex-F.Repeated q body) = false
plain_node (CountedRegex-F.Behind negated body) = true
plain_node (CountedRegex-F.Ahead negated body) = true

abbrev pub is_plain : CountedRegex → Bool
is_plain = fold-CountedRegex Bool plain_node
