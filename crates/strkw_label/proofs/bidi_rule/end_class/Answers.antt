use Rattle.std.proofs.Common.{◌≡◌, ◌-◌, get_or, arith, inl, inr, refl, sym, ap, ◌∙◌}
use Rattle.std.proofs.lemmas.Bool.{false≢true, cases_eq}
use Rattle.std.proofs.lemmas.List.{get_or_read}
use Rattle.ucd_bidi.specs.BidiClass.{bidi_class}
use Rattle.strkw_label.proofs.Joining.{end_settled, end_none}
use Rattle.strkw_label.proofs.bidi_rule.end_class.Goals as goal

pub returns-then-not-is_nonspacing_mark : goal.returns-then-not-is_nonspacing_mark
returns-then-not-is_nonspacing_mark c = λ ends fails.
    let label = c.args.label.now in
    let at = c.loop-end.end - 1 in
    let kind : c.for_char-class.result ≡ bidi_class (get_or label at 0) =
    c.for_char-class.ensures ∙ ap bidi_class (get_or_read _ at _ (omega arith) c.index-label-end.is 0) in
    end_settled ends fails label at c.for_char-class.result (omega arith) kind
    (λ e. false≢true (c.if-not-is_nonspacing_mark.ensures.1 e)) (λ m a b. c.loop-end.invariant.1 m (omega arith) b)

pub loop-end-init : goal.loop-end-init
loop-end-init c = (omega arith, λ m a b. absurd (omega arith))

pub loop-end-preserved : goal.loop-end-preserved
loop-end-preserved c =
    let label = c.args.label.now in
    let at = c.loop-end.end - 1 in
    let kind : c.for_char-class.result ≡ bidi_class (get_or label at 0) =
    c.for_char-class.ensures ∙ ap bidi_class (get_or_read _ at _ (omega arith) c.index-label-end.is 0) in (
      omega arith,
      λ m a b.
          elim (cases_eq m at) [
            | inl same ↦ ap (λ k. bidi_class (get_or label k 0)) same ∙ sym kind ∙ c.if-not-is_nonspacing_mark.ensures.0 refl
            | inr apart ↦ c.loop-end.invariant.1 m (omega arith) b
          ],
    )

pub returns : goal.returns
returns c = λ ends fails. end_none ends fails c.args.label.now (λ m a b. c.loop-end.invariant.1 m (omega arith) b)
