use Rattle.std.proofs.Common.{length, ap, ◌∙◌, eqb-true, eq-eqb}
use Rattle.strkw_text.proofs.Equivalences.{nope}
use Rattle.strkw_mail.proofs.IdnDomains.{whole_label, label_is_front, label_at_front}
use Rattle.strkw_mail.proofs.domain.is_sub_domain.Goals as goal

pub returns-in-Some : goal.returns-in-Some
returns-in-Some c =
    let text = c.args.bytes.now in (
      λ t. whole_label text _ c.in-Some.ensures.0 c.in-Some.ensures.1 (eqb-true _ _ t),
      λ s. eq-eqb _ _ (ap length c.in-Some.ensures.0 ∙ ap length (label_is_front text s)),
    )

pub returns-in-None : goal.returns-in-None
returns-in-None c = nope (λ s. c.in-None.ensures (label_at_front c.args.bytes.now s))
