use Rattle.std.proofs.Common.{◌≡◌, arith, sym, subst, ◌∙◌}
use Rattle.std.specs.Prelude.{◌↔◌, IsTrue}
use Rattle.std.specs.Str.{chars}
use Rattle.std.proofs.lemmas.Result.{IfOk-weaker}
use Rattle.strkw_text.specs.Fronts.{StartsWithNo}
use Rattle.strkw_text.proofs.Equivalences.{nope}
use Rattle.strkw_mail.specs.IdnMailbox.{IsIdnDomain, IsIdnMailbox}
use Rattle.strkw_mail.specs.Scan.{LocalPartAt, StartsOnly}
use Rattle.strkw_mail.specs.declared.scan.Charset.TheVariants.{Utf8}
use Rattle.strkw_mail.proofs.IdnMailboxes.{no_idn_mailbox, idn_mailbox_by_rest, cut_here, rest_here}
use Rattle.strkw_mail.proofs.Mailboxes.{rest_within}
use Rattle.strkw_mail.proofs.idn_mailbox.is_valid_idn_email.Goals as goal

pub overflow_sub-at : goal.overflow_sub-at
overflow_sub-at c =
    let only = subst (λ x. StartsOnly (LocalPartAt Utf8) x c.in-Some.rest.now) c.as_bytes.ensures.value c.in-Some.ensures in
    omega (arith, rest_within Utf8 c.args.text.now c.in-Some.rest.now only)

pub returns-in_default : goal.returns-in_default
returns-in_default c =
    let none = subst (StartsWithNo (LocalPartAt Utf8)) c.as_bytes.ensures.value c.in_default.ensures in
    nope (no_idn_mailbox c.args.text.now c.utf8.text none)

pub returns-then-at : goal.returns-then-at
returns-then-at c =
    let only = subst (λ x. StartsOnly (LocalPartAt Utf8) x c.in-Some.rest.now) c.as_bytes.ensures.value c.in-Some.ensures in
    nope (λ m. let h = (idn_mailbox_by_rest c.args.text.now c.utf8.text c.in-Some.rest.now only).0 m in
    omega (arith, h.0, c.if-at.true))

pub range_from-requires : goal.range_from-requires
range_from-requires c =
    let only = subst (λ x. StartsOnly (LocalPartAt Utf8) x c.in-Some.rest.now) c.as_bytes.ensures.value c.in-Some.ensures in
    λ h. cut_here c.args.text.now c.utf8.text c.in-Some.rest.now only

pub returns : goal.returns
returns c =
    let text = c.args.text.now in
    let rest = c.in-Some.rest.now in
    let only = subst (λ x. StartsOnly (LocalPartAt Utf8) x rest) c.as_bytes.ensures.value c.in-Some.ensures in
    let i = idn_mailbox_by_rest text c.utf8.text rest only in
    let domain : c.range_from.result.now ≡ rest = c.range_from.ensures.value ∙ rest_here text c.utf8.text rest only in
    let within = rest_within Utf8 text rest only in
    IfOk-weaker c.is_idn_domain.result (λ b. IsTrue b ↔ IsIdnDomain (chars c.range_from.result.now))
    (λ b. IsTrue b ↔ IsIdnMailbox (chars text))
    (λ b told. (
      λ t. i.1 (omega (arith, within, c.if-at.false), subst (λ x. IsIdnDomain (chars x)) domain (told.0 t)),
      λ m. told.1 (subst (λ x. IsIdnDomain (chars x)) (sym domain) (i.0 m).1),
    ))
    c.is_idn_domain.ensures
