use Rattle.std.proofs.Common.{arith}
use Rattle.std.proofs.lemmas.Grind.{common_steps}
use Rattle.neldrafi_schema.specs.machine.Compiled.{branch_of}
use Rattle.neldrafi_schema.proofs.Items.{item_kept, item_passed}
use Rattle.neldrafi_schema.proofs.targets.push_items.Goals.{then-place-from+in_ok-push, else-place-from}
use Rattle.neldrafi_schema.proofs.targets.push_items.Goals as goal

pub loop-place-preserved : goal.loop-place-preserved
loop-place-preserved c =
    let b = branch_of c.args.branch.now in
    let items = c.deref-item-items.result.now in elim c.if-place-from.branch [
      | then-place-from+in_ok-push w ↦
          let kept = item_kept b items c.args.from c.loop-place.place c.item-item.result c.loop-place-test.true c.item-item.is w.if-place-from.true in
          grind (arith, common_steps, kept)
      | else-place-from w ↦
          let passed = item_passed b items c.args.from c.loop-place.place c.item-item.result c.loop-place-test.true c.item-item.is w.if-place-from.false in
          grind (arith, common_steps, passed)
    ]
