-- How many nodes an outline has: its parts have fewer.
use Rattle.std.proofs.Common.{◌≡◌, ℕ, ◌+◌, Bool, Box, Global, sym, ap, ◌∙◌}
use Rattle.strkw_regex_core.specs.declared.counted_regex.Quantifier.{Quantifier}
use Rattle.strkw_regex_core.specs.declared.counted_regex.CountedRegex.{CountedRegex, CountedRegex-F, roll-CountedRegex, map-CountedRegex, fold-roll-CountedRegex}
use Rattle.strkw_regex_core.specs.declared.counted_regex.CountedRegex.TheFolds.{fold-CountedRegex}
use Rattle.strkw_regex_core.specs.declared.counted_regex.CountedRegex.TheVariants.{Then, Or, Repeated, Behind, Ahead, rolls-Then, rolls-Or, rolls-Repeated}
use Rattle.strkw_regex_core.specs.declared.counted_regex.CountedRegex.TheVariants.{rolls-Behind, rolls-Ahead}

-- of one node, by those of its children
abbrev weight_node : CountedRegex-F ℕ → ℕ
weight_node CountedRegex-F.Empty = 1
weight_node (CountedRegex-F.Class negated sets) = 1
weight_node CountedRegex-F.Start = 1
weight_node CountedRegex-F.End = 1
weight_node CountedRegex-F.Boundary = 1
weight_node CountedRegex-F.NoBoundary = 1
weight_node (CountedRegex-F.Then first second) = first.value + second.value + 1
weight_node (CountedRegex-F.Or first second) = first.value + second.value + 1
weight_node (CountedRegex-F.Repeated q body) = body.value + 1
weight_node (CountedRegex-F.Behind negated body) = body.value + 1
weight_node (CountedRegex-F.Ahead negated body) = body.value + 1

-- the weight of an outline, by that of its nodes
abbrev pub weight : CountedRegex → ℕ
weight = fold-CountedRegex ℕ weight_node

-- an outline that a node makes has the weight of the node
by_node : (node : CountedRegex-F CountedRegex) (o : CountedRegex) → roll-CountedRegex node ≡ o → weight o ≡ weight_node (map-CountedRegex CountedRegex ℕ weight node)
by_node node o rolls = ap weight (sym rolls) ∙ fold-roll-CountedRegex ℕ weight_node node

-- of each node with children
pub weight_then : (o : CountedRegex) (p q : Box CountedRegex Global) → o ≡ Then p q → weight o ≡ weight p.value + weight q.value + 1
weight_then o p q is = by_node (CountedRegex-F.Then p q) o (rolls-Then p q ∙ sym is)

-- two alternatives weigh what both do, and one more
pub weight_or : (o : CountedRegex) (p q : Box CountedRegex Global) → o ≡ Or p q → weight o ≡ weight p.value + weight q.value + 1
weight_or o p q is = by_node (CountedRegex-F.Or p q) o (rolls-Or p q ∙ sym is)

-- what is repeated weighs one more than what it repeats
pub weight_repeated : (o : CountedRegex) (t : Quantifier) (p : Box CountedRegex Global) → o ≡ Repeated t p → weight o ≡ weight p.value + 1
weight_repeated o t p is = by_node (CountedRegex-F.Repeated t p) o (rolls-Repeated t p ∙ sym is)

-- a lookbehind weighs one more than what it looks for
pub weight_behind : (o : CountedRegex) (n : Bool) (p : Box CountedRegex Global) → o ≡ Behind n p → weight o ≡ weight p.value + 1
weight_behind o n p is = by_node (CountedRegex-F.Behind n p) o (rolls-Behind n p ∙ sym is)

-- and so does a lookahead
pub weight_ahead : (o : CountedRegex) (n : Bool) (p : Box CountedRegex Global) → o ≡ Ahead n p → weight o ≡ weight p.value + 1
weight_ahead o n p is = by_node (CountedRegex-F.Ahead n p) o (rolls-Ahead n p ∙ sym is)
