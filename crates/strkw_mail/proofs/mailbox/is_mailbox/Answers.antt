use Rattle.std.proofs.Common.{arith}
use Rattle.std.proofs.lemmas.Bool.Decides.{nat_tests}
use Rattle.strkw_text.proofs.Equivalences.{nope}
use Rattle.strkw_mail.specs.declared.scan.Charset.TheVariants.{Ascii}
use Rattle.strkw_mail.proofs.Mailboxes.{no_mailbox, rest_within, mailbox_by_rest}
use Rattle.strkw_mail.proofs.mailbox.is_mailbox.Goals as goal

pub overflow_sub-bytes : goal.overflow_sub-bytes
overflow_sub-bytes c = omega (arith, rest_within Ascii c.args.bytes.now c.in-Some.domain.now c.in-Some.ensures)

pub returns-then-bytes-domain : goal.returns-then-bytes-domain
returns-then-bytes-domain c =
    let i = mailbox_by_rest c.args.bytes.now c.in-Some.domain.now c.in-Some.ensures in
    let within = rest_within Ascii c.args.bytes.now c.in-Some.domain.now c.in-Some.ensures in
    (λ t. i.1 (omega (arith, within, c.if-bytes-domain.true), c.is_domain.ensures.0 t), λ m. c.is_domain.ensures.1 (i.0 m).1)

pub returns-else-bytes-domain : goal.returns-else-bytes-domain
returns-else-bytes-domain c =
    let i = mailbox_by_rest c.args.bytes.now c.in-Some.domain.now c.in-Some.ensures in
    (λ t. absurd (grind (arith, nat_tests, t, c.if-bytes-domain.false)), λ m. absurd (omega (arith, (i.0 m).0, c.if-bytes-domain.false)))

pub returns-in-None : goal.returns-in-None
returns-in-None c = nope (no_mailbox c.args.bytes.now c.in-None.ensures)
