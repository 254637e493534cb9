use Rattle.std.proofs.Common.{◌≡◌, ◌<◌, ℕ, length, arith}
use Rattle.strkw_charset.specs.Membership.{in_sets}
use Rattle.strkw_charset.proofs.ToldSets.{told_by}
use Rattle.strkw_charset.proofs.char_classes.tells_sets.Goals as goal

pub returns-then-are_same_sets : goal.returns-then-are_same_sets
returns-then-are_same_sets c h =
    let within : c.loop-class.class-index < length c.args.classes.now = omega arith in
    let same : (x : ℕ) → in_sets c.class-item.result.items x ≡ in_sets c.args.sets.now x = λ x. cc (c.are_same_sets.ensures c.if-are_same_sets.true x) in
    told_by c.args.classes.now c.loop-class.class-index c.class-item.result c.args.sets.now within c.class-item.is same
