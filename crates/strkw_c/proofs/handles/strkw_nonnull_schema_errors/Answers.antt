use Rattle.std.proofs.Common.{rules, sym, subst}
use Rattle.strkw_c.specs.Buffers.{IsPut, IsTooLong}
use Rattle.strkw_c.specs.Errors.{AreLines}
use Rattle.strkw_c.specs.Kept.{IsKeptOf}
use Rattle.strkw_c.proofs.KeptLemmas.{is_kept}
use Rattle.strkw_c.proofs.handles.strkw_nonnull_schema_errors.Goals as goal

pub returns-then-put-clause-done : goal.returns-then-put-clause-done
returns-then-put-clause-done c =
    let lines = c.in-Ok-answer.lines.items in
    λ status. (
      lines,
      (λ s object keeps.
          let of = is_kept _ _ c.in-Some.ensures.taken s object keeps in
          subst (λ t. AreLines s object t lines) (search rules) (c.in-Ok-answer.ensures.done s object (subst (λ k. IsKeptOf k s object)
          (sym c.deref.ensures) of))),
      subst (λ t. IsPut t c.args.out.now c.put-in-Ok-answer.new.out c.put-in-Ok-answer.new.written) c.deref-in-Ok-answer.ensures.value c.if-put.ensures,
    )

pub returns-in-Ok-answer-clause-short : goal.returns-in-Ok-answer-clause-short
returns-in-Ok-answer-clause-short c =
    let lines = c.in-Ok-answer.lines.items in
    λ status. (
      lines,
      (λ s object keeps.
          let of = is_kept _ _ c.in-Some.ensures.taken s object keeps in
          subst (λ t. AreLines s object t lines) (search rules) (c.in-Ok-answer.ensures.done s object (subst (λ k. IsKeptOf k s object)
          (sym c.deref.ensures) of))),
      subst (λ t. IsTooLong t c.args.out.now c.put-in-Ok-answer.new.out c.put-in-Ok-answer.new.written) c.deref-in-Ok-answer.ensures.value c.if-put.ensures,
    )
