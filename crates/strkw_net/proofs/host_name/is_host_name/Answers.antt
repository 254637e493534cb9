use Rattle.std.proofs.Common.{length, drop, ◌+◌, arith, refl}
use Rattle.std.proofs.lemmas.Bool.{false≢true}
use Rattle.std.proofs.lemmas.List.{take_all, length-drop}
use Rattle.strkw_net.specs.HostName.{IsLabel}
use Rattle.strkw_net.proofs.HostNameLemmas.{host_name_parts, IsAsciiHostName-from_parts}
use Rattle.strkw_net.proofs.FirstLabels.{one_label, more_labels, front_label}
use Rattle.strkw_net.proofs.host_name.is_host_name.Goals as goal

pub returns-then-label-rest : goal.returns-then-label-rest
returns-then-label-rest c = (
  λ t. IsAsciiHostName-from_parts c.args.bytes.now c.if-bytes-gt-LONGEST_HOST_NAME.false
      (c.loop-label.invariant.0 (one_label IsLabel c.loop-label.rest.now c.in-Some.label.now c.in-Some.ensures.0 c.if-label-rest.true c.in-Some.ensures.1)),
  λ w. refl,
)

pub loop-label-preserved : goal.loop-label-preserved
loop-label-preserved c =
    let more = more_labels IsLabel c.loop-label.rest.now c.in-Some.label.now _ c.in-Some.ensures.0 c.if-label-rest.false c.in-Some.ensures.1
    (take_all _ (drop (length c.in-Some.label.now + 1) c.loop-label.rest.now)
    (omega (arith, length-drop (length c.in-Some.label.now + 1) c.loop-label.rest.now))) in
    (λ h. c.loop-label.invariant.0 (more.0 h), λ h. more.1 (c.loop-label.invariant.1 h))

pub returns : goal.returns
returns c = (
  λ t. absurd (false≢true t),
  λ w. absurd (c.in_default.ensures (front_label IsLabel c.loop-label.rest.now (c.loop-label.invariant.1 (host_name_parts c.args.bytes.now w)))),
)
