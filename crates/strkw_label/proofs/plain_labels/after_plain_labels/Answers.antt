use Rattle.std.proofs.Common.{◌+◌, length, drop, take_all, sym, subst, arith, length-drop}
use Rattle.std.specs.Prelude.{IfNone}
use Rattle.std.proofs.lemmas.Bool.{false≢true}
use Rattle.strkw_net.specs.HostName.{IsAsciiHostName, IsLabel}
use Rattle.strkw_net.proofs.FirstLabels.{front_label, one_label}
use Rattle.strkw_net.proofs.HostNameLemmas.{host_name_parts}
use Rattle.strkw_label.specs.IdnHostName.{IsPlainLabel}
use Rattle.strkw_label.proofs.HostNames.{labels_by_parts}
use Rattle.strkw_label.proofs.PlainLabels.{one_more_before, plain_by_parts, plain_in_front}
use Rattle.strkw_label.proofs.plain_labels.after_plain_labels.Goals as goal

pub returns-in_err-label-clause-none : goal.returns-in_err-label-clause-none
returns-in_err-label-clause-none c =
    let no_name : IsAsciiHostName c.args.bytes.now → ⊥ =
    λ name. c.in_err-label.ensures (front_label IsLabel c.loop-rest.rest.now (c.loop-rest.invariant.labels.1 (host_name_parts c.args.bytes.now name))) in
    subst (λ o. IfNone o (IsAsciiHostName c.args.bytes.now → ⊥)) (sym c.from_residual.ensures) no_name

pub returns-then-label-rest-clause-nothing : goal.returns-then-label-rest-clause-nothing
returns-then-label-rest-clause-nothing c = λ nothing.
    let rest = c.loop-rest.rest.now in
    let label = c.in_ok-label.label.now in
    let plain = plain_in_front rest label c.in_ok-label.ensures.0 c.in_ok-label.ensures.1 (λ r. false≢true (c.loop-rest-test.ensures.1 r)) in
    (plain_by_parts c.args.bytes.now).1
    (c.loop-rest.invariant.plain.0 (one_label IsPlainLabel rest label c.in_ok-label.ensures.0 c.if-label-rest.true plain))

pub loop-rest-preserved : goal.loop-rest-preserved
loop-rest-preserved c =
    let rest = c.loop-rest.rest.now in
    let label = c.in_ok-label.label.now in
    let plain = plain_in_front rest label c.in_ok-label.ensures.0 c.in_ok-label.ensures.1 (λ r. false≢true (c.loop-rest-test.ensures.1 r)) in
    one_more_before c.args.bytes.now rest label _ c.in_ok-label.ensures.0 c.if-label-rest.false plain
    (take_all _ (drop (length label + 1) rest) (omega (arith, length-drop (length label + 1) rest))) c.loop-rest.invariant

pub returns-clause-rest : goal.returns-clause-rest
returns-clause-rest c = λ some.
    let alike = c.loop-rest.invariant.host_name in
    let whole = labels_by_parts c.args.bytes.now in
    (λ h. whole.1 (alike.0 ((labels_by_parts _).0 h)), λ h. (labels_by_parts _).1 (alike.1 (whole.0 h)))
