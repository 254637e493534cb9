use Rattle.std.proofs.Common.{◌+◌, ◌*◌}
use Rattle.strkw_regex_search.proofs.Weights.{weight}
use Rattle.strkw_regex_search.proofs.oracle_passes.+put_aside.Given as goal

-- the nodes, and how many calls there are up to the next of them
abbrev pub decreases-put_aside : goal.decreases-put_aside
decreases-put_aside l = 4 * weight l.outline

abbrev pub decreases-set_aside : goal.decreases-set_aside
decreases-set_aside l = 4 * weight l.outline + 1

abbrev pub decreases-add_aside : goal.decreases-add_aside
decreases-add_aside l = 4 * weight l.outline + 2

abbrev pub decreases-put_look : goal.decreases-put_look
decreases-put_look l = 4 * weight l.outline + 3

abbrev pub decreases-put_both : goal.decreases-put_both
decreases-put_both l = 4 * (weight l.first.value + weight l.second.value) + 3
