use Rattle.std.proofs.Common.{rules, arith}
use Rattle.neldrafi_schema.specs.machine.Compiled.{branch_of}
use Rattle.neldrafi_schema.proofs.Where.{one_of}
use Rattle.neldrafi_schema.proofs.conditions.choice_alone.Goals as goal

pub returns-then-test-number : goal.returns-then-test-number
returns-then-test-number c = (
  branch_of c.test-item.result,
  one_of c.args.branches.now c.test-item.result (omega (arith, c.in-len1.len_at_least)) (omega (arith, c.in-len1.len_below)) c.test-item.is,
  search rules,
)
