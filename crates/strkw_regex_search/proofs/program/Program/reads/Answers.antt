use Rattle.std.proofs.Common.{◌≡◌, ◌+◌, ◌<◌, ℕ, false, Bool, List, [], ◌∷◌, length, length-append, get_or, slice_get, Some, refl, sym, ap, subst, ◌∙◌, arith}
use Rattle.std.proofs.lemmas.Option.{slice_get_read}
use Rattle.strkw_regex_search.specs.declared.code.Class.{Class}
use Rattle.strkw_charset.specs.declared.tree.CharSet.{CharSet}
use Rattle.strkw_regex_core.specs.machine.Positions.{reads}
use Rattle.strkw_regex_search.specs.machine.Machine.{class_reads}
use Rattle.strkw_regex_search.proofs.Machines.{one_more_answer}
use Rattle.strkw_regex_search.proofs.program.Program.reads.Goals as goal

pub loop-class-preserved : goal.loop-class-preserved
loop-class-preserved c =
    let classes = c.args.self.now.code.classes.items in
    let so_far = c.loop-class.reads.items in
    let k = c.loop-class.class-index in
    let class = c.class-item.result in
    let added = c.in_ok-push.ensures.items in
    let there : slice_get classes k ≡ Some class =
    subst (λ (cs : List Class). slice_get cs k ≡ Some class) c.deref-class-items.ensures.value
    (slice_get_read c.deref-class-items.result.now _ k class refl c.loop-class-test.true c.class-item.is) in
    record {
      so_many = ap length added ∙ length-append so_far (_ ∷ []) ∙ omega (arith, c.loop-class.invariant.so_many);
      right =
          subst (λ (rs : List Bool). (j : ℕ) → j < k + 1 → get_or rs j false ≡ class_reads c.args.next (slice_get classes j)) (sym added)
          (one_more_answer c.args.next classes so_far k _ class there
          (c.reads_class.ensures ∙ ap (λ (sets : List CharSet). reads c.args.next class.negated sets) c.deref.ensures.value)
          c.loop-class.invariant.so_many c.loop-class.invariant.right);
    }

pub returns : goal.returns
returns c =
    let end = ap length c.deref-class-items.ensures.value in (
      λ k h. c.loop-class.invariant.right k (omega (arith, h, end, c.loop-class-test.false)),
      omega (arith, end, c.loop-class.invariant.so_many, c.loop-class-test.false),
    )
