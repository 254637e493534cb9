use Rattle.std.proofs.Common.{◌≡◌, ◌∙◌, ◌+◌, ◌-◌, ◌*◌, ◌/◌, ap, arith, length, subst, sym, take}
use Rattle.neldrafi_position.specs.machine.Marks.{AreMarks, IsBehind}
use Rattle.neldrafi_position.proofs.MarkLemmas.{joined, next_mark}
use Rattle.neldrafi_position.proofs.position.position_at.Goals as goal

pub loop-marks-preserved : goal.loop-marks-preserved
loop-marks-preserved c =
    let text = c.args.text.now in
    let marks = c.loop-marks.marks.items in
    let count : c.len-made.result ≡ length marks = omega arith in
    let front = c.mark.ensures text (subst (AreMarks text) (sym c.deref.ensures.value) c.loop-marks.invariant) in
    subst (AreMarks text) (sym c.in_ok-push.ensures.items)
    (next_mark text marks c.mark.result c.behind-next.result c.len-made.result count c.loop-marks.invariant front (omega arith) c.behind-next.ensures)

pub returns-clause-position : goal.returns-clause-position
returns-clause-position c =
    let text = c.args.text.now in
    let from = c.args.offset / 1024 * 1024 in
    let front = c.mark-2.ensures text (subst (AreMarks text) (sym c.deref-2.ensures.value) c.loop-marks.invariant) in
    let long : from + (c.args.offset - from) ≡ c.args.offset = omega arith in
    subst (λ t. IsBehind t c.behind.result) (joined from (c.args.offset - from) text ∙ ap (λ n. take n text) long)
    (c.behind.ensures (take from text) front)
