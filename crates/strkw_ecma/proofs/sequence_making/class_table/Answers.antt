use Rattle.std.proofs.Common.{ℕ, List, Some, false, get_or, set, length-set, ap, ◌∙◌, arith}
use Rattle.strkw_charset.specs.Membership.{is_member}
use Rattle.strkw_charset.specs.declared.tree.CharSet.{CharSet}
use Rattle.strkw_ecma.proofs.Chained.{one_answer}
use Rattle.strkw_ecma.proofs.sequence_making.class_table.Goals as goal

pub loop-byte-preserved : goal.loop-byte-preserved
loop-byte-preserved c =
    let class = c.args.class.now in
    let so_far = c.loop-byte.invariant in
    let answer = c.reads_class.ensures ∙ ap (λ (sets : List CharSet). is_member class.negated sets c.from.result) c.deref.ensures.value
    ∙ ap (is_member class.negated class.sets.items) c.from.ensures in
    record {
      long = length-set c.loop-byte.table c.from-in-loop-byte.result c.reads_class.result ∙ so_far.long;
      right = λ b h.
          ap (λ (k : ℕ). get_or (set c.loop-byte.table k c.reads_class.result) b false) c.from-in-loop-byte.ensures
          ∙ one_answer (Some class) c.loop-byte.table c.loop-byte.byte c.reads_class.result (omega (arith, so_far.long, c.loop-byte-test.true)) answer
          so_far.right b h;
    }
