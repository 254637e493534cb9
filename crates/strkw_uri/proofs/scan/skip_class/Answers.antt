use Rattle.strkw_text.specs.Abnf.{OneOf}
use Rattle.strkw_text.proofs.Runs.{run_push}
use Rattle.strkw_uri.specs.Scan.{is_class_char}
use Rattle.strkw_uri.proofs.scan.skip_class.Goals as goal

pub loop-after-preserved : goal.loop-after-preserved
loop-after-preserved c =
    (c.in-Some.ensures.utf8, run_push (OneOf (is_class_char c.args.class)) _ _ _ c.loop-after.invariant.1 c.in-Some.ensures.cases)
