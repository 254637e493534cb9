-- The parts of a pattern are searched within twice their steps.
use Rattle.std.proofs.Common.{◌≡◌, ℕ, ◌*◌, ◌≤◌, Bool, true, false, List, [], ◌∷◌, refl, arith}
use Rattle.strkw_regex_core.specs.machine.MarkedPattern.{MarkedPattern}
use Rattle.strkw_regex_core.specs.machine.LeadingLookahead.{Part, steps_of_parts}
use Rattle.strkw_regex_core.specs.machine.OneCharLookahead.{are_told}
use Rattle.strkw_regex_core.specs.machine.Mirror.{target, sought_in}
use Rattle.strkw_regex_core.specs.machine.ProgramSteps.{search_steps}
use Rattle.strkw_regex_search.specs.machine.Counted.{IsWithin, AreSearchedWithin}
use Rattle.strkw_regex_core.specs.machine.Positions.{is_unmarked}
use Rattle.strkw_regex_search.specs.machine.Search.{are_parts_clean}
use Rattle.strkw_regex_search.proofs.Counted.{searched_within}
use Rattle.strkw_regex_search.proofs.SearchCost.{sought_within}
use Rattle.strkw_regex_core.proofs.Sizes.{told_steps, far_steps}
use Rattle.strkw_charset.proofs.Booleans.{and_left, and_right}

-- one is, by whether the next character tells what its lookaheads look for
one_within : (b : Bool) (p : MarkedPattern) (text : List ℕ) → are_told p ≡ b → is_unmarked p ≡ true → IsWithin b (2 * search_steps p) p text
one_within true p text told bare = searched_within (2 * search_steps p) p text (omega (arith, told_steps p told))
one_within false p text far bare = sought_within (2 * search_steps p) p text bare (omega (arith, far_steps p far))

-- parts without marks are searched within twice the steps of their patterns, one part after the other
pub parts_searched_within : (xs : List Part) (most : ℕ) (text : List ℕ) → are_parts_clean xs ≡ true → 2 * steps_of_parts xs ≤ most
    → AreSearchedWithin most xs text
parts_searched_within [] most text c h = tt
parts_searched_within (x ∷ xs) most text c h = (
  2 * search_steps (target x.pattern),
  2 * steps_of_parts xs,
  omega (arith, h),
  one_within (are_told (target x.pattern)) (target x.pattern) (sought_in x.pattern text) refl (and_left _ _ c),
  parts_searched_within xs (2 * steps_of_parts xs) text (and_right (is_unmarked (target x.pattern)) _ c) (omega arith),
)
