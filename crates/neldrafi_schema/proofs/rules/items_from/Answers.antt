use Rattle.std.proofs.Common.{arith, ◌≡◌, Some}
use Rattle.std.proofs.lemmas.Grind.{common_steps}
use Rattle.serde_json.specs.Find.{as_array}
use Rattle.serde_json.specs.View.{items_view, view}
use Rattle.neldrafi_schema.proofs.Items.{left_kept, left_passed, placed_left}
use Rattle.neldrafi_schema.proofs.rules.items_from.Goals.{then-place-from+in_ok-clone+in_ok-push, else-place-from}
use Rattle.neldrafi_schema.proofs.rules.items_from.Goals as goal

pub loop-place-init : goal.loop-place-init
loop-place-init c =
    let found : as_array (view c.args.instance.now) ≡ Some (items_view c.deref-item-items.result.now) = grind (arith, common_steps) in
    let all = placed_left (view c.args.instance.now) c.deref-item-items.result.now c.args.from found in
    grind (arith, common_steps, all)

pub loop-place-preserved : goal.loop-place-preserved
loop-place-preserved c =
    let items = c.deref-item-items.result.now in elim c.if-place-from.branch [
      | then-place-from+in_ok-clone+in_ok-push w ↦
          let kept = left_kept items c.args.from c.loop-place.place c.item-item.result c.loop-place-test.true c.item-item.is w.if-place-from.true in
          grind (arith, common_steps, kept)
      | else-place-from w ↦
          let passed = left_passed items c.args.from c.loop-place.place c.item-item.result c.loop-place-test.true c.item-item.is w.if-place-from.false in
          grind (arith, common_steps, passed)
    ]
