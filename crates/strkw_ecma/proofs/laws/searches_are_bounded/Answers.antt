use Rattle.std.proofs.Common.{◌*◌, ◌≤◌, ℕ, List, arith}
use Rattle.strkw_regex_core.specs.Size.{max_steps}
use Rattle.strkw_regex_core.specs.WholeSize.{whole_size}
use Rattle.strkw_regex_core.specs.machine.Expansion.{expand}
use Rattle.strkw_regex_core.specs.machine.LeadingLookahead.{parts}
use Rattle.strkw_regex_grammar.specs.Regex.{Disjunction}
use Rattle.strkw_regex_reader.specs.Patterns.{pattern}
use Rattle.strkw_regex_reader.proofs.TreeTerms.{tree_steps}
use Rattle.strkw_regex_search.specs.machine.Counted.{AreSearchedWithin}
use Rattle.strkw_regex_search.proofs.CostBound.{parts_searched_within}
use Rattle.strkw_ecma.proofs.Clean.{unmarked_expansion, parts_clean}
use Rattle.strkw_ecma.proofs.laws.searches_are_bounded.Goals as goal

-- within as many steps as are twice the size, at least
within : (d : Disjunction) (most : ℕ) → 2 * whole_size (pattern d) ≤ most → (text : List ℕ) → AreSearchedWithin most (parts (expand (pattern d))) text
within d most h text =
    parts_searched_within (parts (expand (pattern d))) most text (parts_clean (expand (pattern d)) (unmarked_expansion (pattern d)))
    (omega (arith, tree_steps d, h))

pub returns-clause-by_size : goal.returns-clause-by_size
returns-clause-by_size c = λ d text. within d (2 * whole_size (pattern d)) (omega arith) text

pub returns-clause-taken : goal.returns-clause-taken
returns-clause-taken c = λ source d is text. within d (2 * max_steps) (omega (arith, is.small)) text
