use Rattle.std.proofs.Common.{arith}
use Rattle.strkw_text.proofs.Runs.{run_push}
use Rattle.strkw_uri.specs.Template.{FurtherVarchar}
use Rattle.strkw_uri.proofs.template.skip_name.Goals as goal

pub loop-after-preserved : goal.loop-after-preserved
loop-after-preserved c = (
  c.in-Some.ensures.utf8,
  run_push FurtherVarchar _ _ _ c.loop-after.invariant.1 c.in-Some.ensures.cases,
  omega (arith, c.in-Some.ensures.shorter, c.loop-after.invariant.2),
)
