use Rattle.std.proofs.Common.{arith}
use Rattle.strkw_uri.proofs.part.ascii_run.Goals as goal

pub returns-then-run-lt-FEW : goal.returns-then-run-lt-FEW
returns-then-run-lt-FEW c =
    let few = c.run-run.ensures in
    record {
      within = omega (arith, c.if-run-lt-FEW.true, c.if-bytes-lt-LONG.false);
      passed = few.passed;
      stopped = λ _. few.stopped (omega (arith, c.if-run-lt-FEW.true));
    }
