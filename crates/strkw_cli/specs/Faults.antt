-- What is said of a run that ended before its input.
use Rattle.std.specs.Prelude.{ℕ, List, codes}
use Rattle.strkw_cli.specs.declared.faults.RunFault.{RunFault}
use Rattle.strkw_cli.specs.declared.faults.RunFault.TheVariants.{Read, Write, Memory, TooLong}

abbrev pub fault_text : RunFault → List ℕ
fault_text Read = codes "strkw: read failed"
fault_text Write = codes "strkw: write failed"
fault_text Memory = codes "strkw: out of memory"
fault_text TooLong = codes "strkw: input too long"
