use Rattle.std.proofs.Common.{◌≡◌, ◌++◌}
use Rattle.strkw_regex_core.specs.machine.Program.{concat_copies}
use Rattle.strkw_regex_search.proofs.oracle_passes.add_copies.Given as goal

-- so many copies are behind those that were there
abbrev pub invariant-loop : goal.invariant-loop
invariant-loop l = l.told.items ≡ l.fn.told.items ++ concat_copies l.counter l.more
