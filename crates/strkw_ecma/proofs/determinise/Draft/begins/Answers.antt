use Rattle.std.proofs.Common.{rules, ◌≡◌, Some, slice_get}
use Rattle.strkw_ecma.proofs.determinise.Draft.begins.Goals as goal

pub returns-in-Some : goal.returns-in-Some
returns-in-Some c h =
    let there : slice_get c.args.self.now.states.items 0 ≡ Some c.in-Some.state.now = search rules in
    (c.in-Some.state.now, there, c.is_first.ensures.unmarked h, c.is_first.ensures.last h)
