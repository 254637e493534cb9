use Rattle.std.proofs.Common.{sym, ◌∙◌, ◌∷◌, [], ◌++◌}
use Rattle.std.proofs.lemmas.Str.{encode_ascii}
use Rattle.strkw_pattern.specs.Literal.{item_char}
use Rattle.strkw_pattern.proofs.Items.{items_step, item_ascii}
use Rattle.strkw_pattern.proofs.literal.read_items.Goals as goal

pub loop-c-preserved : goal.loop-c-preserved
loop-c-preserved c =
    let inv = c.loop-c.invariant in
    let item = c.in-Some.ensures in
    let step = items_step inv.0 item.0 c.args.pattern.now c.loop-c.rest.now c.in-Some.after.now inv.1 item.1 inv.2 item.2 in (
      inv.0 ++ item.0 ∷ [],
      step.0,
      step.1,
      c.in_ok-push.ensures.bytes ∙ rw (c.from.ensures, item.3, encode_ascii (item_char item.0) (item_ascii item.0 item.1), inv.3) (sym step.2),
    )
