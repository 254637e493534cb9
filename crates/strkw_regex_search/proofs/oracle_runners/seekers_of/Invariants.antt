use Rattle.std.proofs.Common.{◌≡◌, ◌++◌, length}
use Rattle.std.specs.Vec.Iter.{into_iter_items, into_iter_len}
use Rattle.strkw_regex_search.specs.machine.OracleRunners.{AreFit, seekings, quests}
use Rattle.strkw_regex_search.proofs.oracle_runners.seekers_of.Given as goal

abbrev pub invariant-loop-aside : goal.invariant-loop-aside
invariant-loop-aside l = record {
  made : seekings l.seekers.items ++ quests (into_iter_items l.aside-iterator) ≡ quests l.fn.asides.items;
  fit : AreFit (into_iter_items l.aside-iterator);
  count : into_iter_len l.aside-iterator ≡ length (into_iter_items l.aside-iterator);
}
