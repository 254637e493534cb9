use Rattle.std.proofs.Common.{◌≡◌, List, min, subst, arith}
use Rattle.strkw_charset.specs.Membership.{in_sets}
use Rattle.strkw_charset.specs.declared.tree.CharSet.{CharSet}
use Rattle.strkw_charset.proofs.RunEnds.{class_passed}
use Rattle.strkw_charset.proofs.ends.Ends.run_end.Goals as goal

pub loop-class-preserved : goal.loop-class-preserved
loop-class-preserved c =
    let least : c.min-end.result ≡ min c.loop-class.end c.sets_end.result = c.min-end.ensures in
    let was = c.loop-class.invariant in
    let here = c.sets_end.ensures in
    record {
      beyond = omega (arith, least, was.beyond, here.beyond);
      within = omega (arith, least, was.within);
      alike = λ d from before rest.
          class_passed c.args.classes.now c.loop-class.class-index c.class-item.result c.args.c d (omega arith) c.class-item.is
          (subst (λ (l : List CharSet). in_sets l d ≡ in_sets l c.args.c) c.deref.ensures.value (here.alike d from (omega (arith, least, before))))
          (was.alike d from (omega (arith, least, before))) rest;
    }
