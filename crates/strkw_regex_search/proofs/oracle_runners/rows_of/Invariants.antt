use Rattle.std.proofs.Common.{◌≡◌, [], drop}
use Rattle.std.specs.Str.{chars}
use Rattle.strkw_regex_search.specs.machine.Bits.{rows_of}
use Rattle.strkw_regex_search.specs.machine.OracleRunners.{seekings}
use Rattle.strkw_regex_search.specs.machine.Seeking.{rows_behind}
use Rattle.strkw_regex_search.proofs.oracle_runners.rows_of.Given as goal

-- the rows so far, and behind them those of the others, are those of all
abbrev pub invariant-loop-seeker : goal.invariant-loop-seeker
invariant-loop-seeker l = rows_behind (rows_of l.rows.items) (chars l.text) (seekings (drop l.seeker-index l.seekers))
    ≡ rows_behind [] (chars l.text) (seekings l.seekers)
