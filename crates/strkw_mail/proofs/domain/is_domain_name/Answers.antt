use Rattle.std.proofs.Common.{length, drop, ◌+◌, arith, refl}
use Rattle.std.proofs.lemmas.Bool.{false≢true}
use Rattle.std.proofs.lemmas.List.{take_all, length-drop}
use Rattle.strkw_mail.specs.Mailbox.{IsSubDomain}
use Rattle.strkw_net.proofs.FirstLabels.{one_label, more_labels, front_label}
use Rattle.strkw_mail.proofs.Domains.{domain_parts, sub_domain_label}
use Rattle.strkw_mail.proofs.domain.is_domain_name.Goals as goal

pub returns-then-label-rest : goal.returns-then-label-rest
returns-then-label-rest c =
    let label : IsSubDomain c.in-Some.label.now = (sub_domain_label c.in-Some.label.now).1 c.in-Some.ensures.1 in (
      λ t. (domain_parts c.args.bytes.now).1
          (c.loop-label.invariant.0 (one_label IsSubDomain c.loop-label.rest.now c.in-Some.label.now c.in-Some.ensures.0 c.if-label-rest.true label)),
      λ w. refl,
    )

pub loop-label-preserved : goal.loop-label-preserved
loop-label-preserved c =
    let label : IsSubDomain c.in-Some.label.now = (sub_domain_label c.in-Some.label.now).1 c.in-Some.ensures.1 in
    let more = more_labels IsSubDomain c.loop-label.rest.now c.in-Some.label.now _ c.in-Some.ensures.0 c.if-label-rest.false label
    (take_all _ (drop (length c.in-Some.label.now + 1) c.loop-label.rest.now)
    (omega (arith, length-drop (length c.in-Some.label.now + 1) c.loop-label.rest.now))) in
    (λ h. c.loop-label.invariant.0 (more.0 h), λ h. more.1 (c.loop-label.invariant.1 h))

pub returns : goal.returns
returns c = (
  λ t. absurd (false≢true t),
  λ w. absurd (c.in_default.ensures ((sub_domain_label _).0 (front_label IsSubDomain c.loop-label.rest.now
      (c.loop-label.invariant.1 ((domain_parts c.args.bytes.now).0 w))))),
)
