use Rattle.std.proofs.Common.{◌≡◌, ◌≤◌, length, get_or, arith, inl, inr, refl, sym, ap, ◌∙◌}
use Rattle.std.proofs.lemmas.Bool.{false≢true, cases_eq}
use Rattle.std.proofs.lemmas.List.{get_or_read}
use Rattle.ucd_bidi.specs.JoiningType.{joining_type}
use Rattle.strkw_label.proofs.Joining.{from_settled, from_none}
use Rattle.strkw_label.proofs.context_rules.joins_from.Goals as goal

pub returns-then-not-is_transparent : goal.returns-then-not-is_transparent
returns-then-not-is_transparent c =
    let label = c.args.label.now in
    let at = c.loop-at.at in
    let kind : c.for_char-kind.result ≡ joining_type (get_or label at 0) =
    c.for_char-kind.ensures ∙ ap joining_type (get_or_read _ at _ (omega arith) c.index-label-at.is 0) in
    from_settled label c.args.place at c.for_char-kind.result _ c.joins_to_the_right.ensures (omega arith) (omega arith) kind
    (λ e. false≢true (c.if-not-is_transparent.ensures.1 e)) c.loop-at.invariant

pub loop-at-init : goal.loop-at-init
loop-at-init c = λ m a b. absurd (omega arith)

pub loop-at-preserved : goal.loop-at-preserved
loop-at-preserved c =
    let label = c.args.label.now in
    let at = c.loop-at.at in
    let kind : c.for_char-kind.result ≡ joining_type (get_or label at 0) =
    c.for_char-kind.ensures ∙ ap joining_type (get_or_read _ at _ (omega arith) c.index-label-at.is 0) in
    λ m a b.
    elim (cases_eq m at) [
      | inl same ↦ ap (λ k. joining_type (get_or label k 0)) same ∙ sym kind ∙ c.if-not-is_transparent.ensures.0 refl
      | inr apart ↦ c.loop-at.invariant m a (omega arith)
    ]

pub returns : goal.returns
returns c =
    let end : length c.args.label.now ≤ c.loop-at.at = omega (arith, c.loop-at-test.false) in
    from_none c.args.label.now c.args.place (λ m a b. c.loop-at.invariant m a (omega (arith, end)))
