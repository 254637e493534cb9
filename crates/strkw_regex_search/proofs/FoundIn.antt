-- The search for a pattern with any lookarounds comes to whether it is found.
use Rattle.std.proofs.Common.{◌≡◌, ◌↔◌, ℕ, Bool, true, false, List, length, None, IsTrue, if◌then◌else◌, refl, arith}
use Rattle.strkw_regex_core.specs.machine.MarkedPattern.{MarkedPattern}
use Rattle.strkw_regex_core.specs.machine.MarkedMeaning.{Found}
use Rattle.strkw_regex_core.specs.machine.OneCharLookahead.{are_told}
use Rattle.strkw_regex_core.specs.machine.Positions.{is_unmarked}
use Rattle.strkw_regex_search.specs.machine.Search.{search_from, found_in}
use Rattle.strkw_regex_core.specs.machine.Sight.{depth, ends_by, begins_at}
use Rattle.strkw_regex_search.proofs.Answers.{search_is_exact}
use Rattle.strkw_regex_core.proofs.LookaheadTruth.{begins_right, found_right}
use Rattle.strkw_regex_core.proofs.Unmarked.{clean_unmarked}

-- the search finds a pattern without marks exactly where its meaning has it in the text
pub found_in_right : (p : MarkedPattern) (text : List ℕ) → is_unmarked p ≡ true → IsTrue (found_in p text) ↔ Found p text
found_in_right p text bare = by_test (are_told p) refl
  where
    -- by whether the next character tells what its lookaheads look for
    by_test : (b : Bool) → are_told p ≡ b
        → IsTrue (if b then search_from p None text else ends_by (begins_at (depth p) text) text p (length text)) ↔ Found p text
    by_test true told = search_is_exact p text (clean_unmarked p bare) told
    by_test false far =
        found_right (begins_at (depth p) text) text (depth p) (λ r plain few. begins_right (depth p) text r plain few) p bare (omega arith)
