use Rattle.std.proofs.Common.{sym, ◌∙◌}
use Rattle.strkw_ecma.proofs.Linked.{one_passed, next_behind, one_copy_less}
use Rattle.strkw_ecma.proofs.links.read_some.Goals as goal

pub loop-preserved : goal.loop-preserved
loop-preserved c =
    let before = c.loop.invariant in
    record {
      so_far =
          one_passed c.args.classes.now _ _ _ _ c.args.number c.in-Some.c (one_copy_less c.args.count c.loop.counter c.args.number c.loop-test.true)
          c.in-Some.ensures (sym c.if-not-has_char.ensures) ∙ before.so_far;
      behind = next_behind c.loop.counter _ _ _ c.in-Some.c before.behind c.in-Some.ensures;
    }
