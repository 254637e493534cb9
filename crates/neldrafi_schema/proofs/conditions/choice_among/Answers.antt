use Rattle.std.proofs.Common.{rules, arith, refl}
use Rattle.neldrafi_schema.specs.machine.Compiled.{branch_of}
use Rattle.neldrafi_schema.proofs.Where.{two_of}
use Rattle.neldrafi_schema.proofs.conditions.choice_among.Goals as goal

pub returns-then-counts : goal.returns-then-counts
returns-then-counts c = (
  record {
    first = branch_of c.first-item.result;
    test = branch_of c.test-item.result;
    are = two_of c.args.branches.now c.first-item.result c.test-item.result (omega (arith, c.in-len2.len_at_least)) (omega (arith, c.in-len2.len_below)) c.first-item.is c.test-item.is;
    is = search rules;
  },
  refl,
  c.if-counts.true,
)
