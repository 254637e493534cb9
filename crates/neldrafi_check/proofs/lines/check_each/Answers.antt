use Rattle.std.proofs.Common.{◌≡◌, ◌∙◌, ◌++◌, [], ap}
use Rattle.std.proofs.KnownBytes.{Appends-nil, Appends-trans}
use Rattle.std.specs.Io.BufRead.{drop_through}
use Rattle.neldrafi_check.specs.machine.Lines.{without_end}
use Rattle.neldrafi_check.proofs.RunLemmas.{finish, start, step}
use Rattle.neldrafi_check.proofs.lines.check_each.Goals as goal

pub loop-turn-init : goal.loop-turn-init
loop-turn-init g c = λ text is. (text, [], is, Appends-nil (g.W.Write.contents c.args.writer.now), start _ text _ c.clear.ensures.bytes)

pub returns-then-not-branch : goal.returns-then-not-branch
returns-then-not-branch g c = λ text is.
    let inv = c.loop-turn.invariant text is in
    let none : inv.0 ≡ [] = rw c.if-not-branch.true at (c.in_ok-read_line.ensures inv.0 inv.2) in
    (inv.1, finish _ text _ _ inv.0 _ none inv.4, inv.3)

pub loop-turn-preserved : goal.loop-turn-preserved
loop-turn-preserved g c = λ text is.
    let inv = c.loop-turn.invariant text is in
    let read = rw c.if-not-branch.false at (c.in_ok-read_line.ensures inv.0 inv.2) in
    let pushed = c.in_ok-more.ensures in
    let put = c.in_ok-write_due.ensures in (
      drop_through 10 inv.0,
      inv.1 ++ put.0,
      read.2,
      Appends-trans (g.W.Write.contents c.args.writer.now) _ _ _ _ inv.3 put.1,
      step _ text _ _ _ _ inv.0 _ inv.1 _ _ _ put.0 pushed.0 inv.4 read.0 (c.without_end.ensures ∙ ap without_end (c.deref.ensures.value ∙ read.1))
          pushed.2 c.in_ok-counts.ensures.sum pushed.1 put.2,
    )
