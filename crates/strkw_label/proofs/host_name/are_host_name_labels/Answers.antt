use Rattle.std.proofs.Common.{◌+◌, length, drop, refl, sym, subst, ◌∙◌, arith}
use Rattle.std.proofs.lemmas.Bool.{false≢true}
use Rattle.std.proofs.lemmas.List.{take_all, length-drop}
use Rattle.strkw_net.proofs.FirstLabels.{one_label, more_labels, front_label}
use Rattle.strkw_label.specs.HostName.{IsHostNameLabel, KeepsXnRules}
use Rattle.strkw_label.proofs.HostNames.{labels_by_parts}
use Rattle.strkw_label.proofs.host_name.are_host_name_labels.Goals as goal

pub returns-then-not-keeps_xn_rules : goal.returns-then-not-keeps_xn_rules
returns-then-not-keeps_xn_rules c = (
  λ t. absurd (false≢true t),
  λ w.
      let front = front_label IsHostNameLabel c.loop-label.rest.now (c.loop-label.invariant.1 ((labels_by_parts c.args.bytes.now).0 w)) in
      absurd (false≢true (sym c.if-not-keeps_xn_rules.true ∙ c.keeps_xn_rules.ensures.1 (subst KeepsXnRules (sym c.in-Some.ensures.0) front.xn))),
)

pub returns-then-label-rest : goal.returns-then-label-rest
returns-then-label-rest c =
    let label : IsHostNameLabel c.in-Some.label.now = record { ascii = c.in-Some.ensures.1; xn = c.keeps_xn_rules.ensures.0 c.if-not-keeps_xn_rules.false } in (
      λ t. (labels_by_parts c.args.bytes.now).1
          (c.loop-label.invariant.0 (one_label IsHostNameLabel c.loop-label.rest.now c.in-Some.label.now c.in-Some.ensures.0 c.if-label-rest.true label)),
      λ w. refl,
    )

pub loop-label-preserved : goal.loop-label-preserved
loop-label-preserved c =
    let label : IsHostNameLabel c.in-Some.label.now = record { ascii = c.in-Some.ensures.1; xn = c.keeps_xn_rules.ensures.0 c.if-not-keeps_xn_rules.false } in
    let more = more_labels IsHostNameLabel c.loop-label.rest.now c.in-Some.label.now _ c.in-Some.ensures.0 c.if-label-rest.false label
    (take_all _ (drop (length c.in-Some.label.now + 1) c.loop-label.rest.now)
    (omega (arith, length-drop (length c.in-Some.label.now + 1) c.loop-label.rest.now))) in
    (λ h. c.loop-label.invariant.0 (more.0 h), λ h. more.1 (c.loop-label.invariant.1 h))

pub returns : goal.returns
returns c = (
  λ t. absurd (false≢true t),
  λ w. absurd (c.in_default.ensures (front_label IsHostNameLabel c.loop-label.rest.now
      (c.loop-label.invariant.1 ((labels_by_parts c.args.bytes.now).0 w))).ascii),
)
