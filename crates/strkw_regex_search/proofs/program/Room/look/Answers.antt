use Rattle.std.proofs.Common.{List, length, ap, ◌∙◌, refl, arith}
use Rattle.std.proofs.lemmas.Option.{slice_get_read}
use Rattle.strkw_charset.specs.declared.tree.CharSet.{CharSet}
use Rattle.strkw_regex_core.specs.machine.Positions.{reads}
use Rattle.strkw_regex_search.proofs.Machines.{one_more_class}
use Rattle.strkw_regex_search.proofs.program.Room.look.Goals as goal

pub loop-number-init : goal.loop-number-init
loop-number-init c = λ k h. absurd (omega (arith, h))

pub loop-number-preserved : goal.loop-number-preserved
loop-number-preserved c =
    let class = c.index-classes-number.result in
    one_more_class c.args.next c.args.classes.now c.loop-number.self.reads c.loop-number.number c.reads_class.result class
    (slice_get_read c.args.classes.now (length c.args.classes.now) c.loop-number.number class refl c.loop-number-test.true c.index-classes-number.is)
    (c.reads_class.ensures ∙ ap (λ (sets : List CharSet). reads c.args.next class.negated sets) c.deref.ensures.value)
    (omega (arith, c.loop-number.self.room, c.requires, c.loop-number-test.true)) c.loop-number.invariant

pub returns : goal.returns
returns c = λ k h. c.loop-number.invariant k (omega (arith, h, c.loop-number-test.false))
