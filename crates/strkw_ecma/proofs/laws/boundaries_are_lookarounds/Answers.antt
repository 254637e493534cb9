use Rattle.std.proofs.Common.{true, false, slice_get}
use Rattle.strkw_regex_core.specs.Meaning.{before, is_word}
use Rattle.strkw_ecma.proofs.Anchors.{beside_either, tests_differ, tests_agree}
use Rattle.strkw_ecma.proofs.laws.boundaries_are_lookarounds.Goals as goal

pub returns-clause-boundary : goal.returns-clause-boundary
returns-clause-boundary c = λ text i j. beside_either text _ false true true false i j (tests_differ (is_word (before text i)) (is_word (slice_get text i)))

pub returns-clause-no_boundary : goal.returns-clause-no_boundary
returns-clause-no_boundary c = λ text i j. beside_either text _ false false true true i j (tests_agree (is_word (before text i)) (is_word (slice_get text i)))
