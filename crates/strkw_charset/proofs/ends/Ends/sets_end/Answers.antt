use Rattle.std.proofs.Common.{◌≡◌, min, arith}
use Rattle.strkw_charset.proofs.RunEnds.{set_passed}
use Rattle.strkw_charset.proofs.ends.Ends.sets_end.Goals as goal

pub loop-set-preserved : goal.loop-set-preserved
loop-set-preserved c =
    let least : c.min-end.result ≡ min c.loop-set.end c.set_end.result = c.min-end.ensures in
    let was = c.loop-set.invariant in
    let here = c.set_end.ensures in
    record {
      beyond = omega (arith, least, was.beyond, here.beyond);
      within = omega (arith, least, was.within);
      alike = λ d from before rest.
          set_passed c.args.sets.now c.loop-set.set-index _ c.args.c d (omega arith)
          (here.alike d from (omega (arith, least, before)) (omega (arith, least, was.within, before)))
          (was.alike d from (omega (arith, least, before))) rest;
    }
