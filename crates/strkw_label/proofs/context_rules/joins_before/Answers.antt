use Rattle.std.proofs.Common.{◌≡◌, ◌-◌, get_or, arith, inl, inr, refl, sym, ap, ◌∙◌}
use Rattle.std.proofs.lemmas.Bool.{false≢true, cases_eq}
use Rattle.std.proofs.lemmas.List.{get_or_read}
use Rattle.ucd_bidi.specs.JoiningType.{joining_type}
use Rattle.strkw_label.proofs.Joining.{before_settled, before_none}
use Rattle.strkw_label.proofs.context_rules.joins_before.Goals as goal

pub returns-then-not-is_transparent : goal.returns-then-not-is_transparent
returns-then-not-is_transparent c =
    let label = c.args.label.now in
    let at = c.loop-end.end - 1 in
    let kind : c.for_char-kind.result ≡ joining_type (get_or label at 0) =
    c.for_char-kind.ensures ∙ ap joining_type (get_or_read _ at _ (omega arith) c.index-label-end.is 0) in
    before_settled label c.args.place at c.for_char-kind.result _ c.joins_to_the_left.ensures (omega arith) kind
    (λ e. false≢true (c.if-not-is_transparent.ensures.1 e)) (λ m a b. c.loop-end.invariant.1 m (omega arith) b)

pub loop-end-preserved : goal.loop-end-preserved
loop-end-preserved c =
    let label = c.args.label.now in
    let at = c.loop-end.end - 1 in
    let kind : c.for_char-kind.result ≡ joining_type (get_or label at 0) =
    c.for_char-kind.ensures ∙ ap joining_type (get_or_read _ at _ (omega arith) c.index-label-end.is 0) in (
      omega arith,
      λ m a b.
          elim (cases_eq m at) [
            | inl same ↦ ap (λ k. joining_type (get_or label k 0)) same ∙ sym kind ∙ c.if-not-is_transparent.ensures.0 refl
            | inr apart ↦ c.loop-end.invariant.1 m (omega arith) b
          ],
    )

pub returns : goal.returns
returns c = before_none c.args.label.now c.args.place (λ m a b. c.loop-end.invariant.1 m (omega arith) b)
