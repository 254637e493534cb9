use Rattle.std.proofs.Common.{◌≡◌, ◌++◌, false, true, drop, replicate}
use Rattle.strkw_regex_search.specs.declared.code.Instruction.TheVariants.{Read}
use Rattle.strkw_ecma.proofs.sequence_making.copy_count.Given as goal

abbrev pub invariant-loop-place : goal.invariant-loop-place
invariant-loop-place l = l.instructions ≡ replicate l.place (Read l.number false true) ++ drop l.place l.instructions
