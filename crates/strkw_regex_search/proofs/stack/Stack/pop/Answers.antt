use Rattle.std.proofs.Common.{◌≡◌, ◌+◌, ◌<◌, suc, length, drop, drop-cons, false, ap, sym, ◌∙◌, arith}
use Rattle.strkw_regex_search.specs.machine.Walk.{below}
use Rattle.strkw_regex_search.proofs.stack.Stack.pop.Goals as goal

pub returns-clause-popped : goal.returns-clause-popped
returns-clause-popped c =
    let s = c.args.self.now in
    let within : s.first < length s.answers = omega (arith, s.room, s.within, c.if-self-eq-ROOM.false) in
    let next : s.first + 1 ≡ suc s.first = omega arith in
    ap (λ k. drop k s.answers) next ∙ sym (ap below (drop-cons s.answers s.first false within))
