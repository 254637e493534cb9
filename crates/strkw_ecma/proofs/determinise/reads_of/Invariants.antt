use Rattle.std.proofs.Common.{◌≡◌, length}
use Rattle.strkw_regex_search.specs.machine.Machine.{AreReadsOfAll}
use Rattle.strkw_ecma.proofs.determinise.reads_of.Given as goal

abbrev pub invariant-loop-sample : goal.invariant-loop-sample
invariant-loop-sample l = record {
  so_many : length l.all.items ≡ l.sample-index;
  right : AreReadsOfAll l.program l.samples l.all.items;
}
