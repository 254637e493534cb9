use Rattle.std.proofs.Common.{sym, subst, inl, inr}
use Rattle.std.specs.Prelude.{◌↔◌, IsTrue}
use Rattle.std.specs.Str.{chars}
use Rattle.std.proofs.lemmas.Result.{IfOk-weaker}
use Rattle.std.proofs.lemmas.Str.{chars-IsAscii}
use Rattle.strkw_label.specs.IdnHostName.{IsULabel}
use Rattle.strkw_mail.specs.IdnMailbox.{IsIdnSubDomain}
use Rattle.strkw_mail.specs.Mailbox.{IsSubDomain}
use Rattle.strkw_mail.proofs.IdnDomains.{ascii_label, wide_label}
use Rattle.strkw_mail.proofs.idn_mailbox.is_idn_sub_domain.Goals as goal

pub returns-then-is_ascii : goal.returns-then-is_ascii
returns-then-is_ascii c =
    let label = c.args.label.now in
    let ascii = c.if-is_ascii.ensures.cases in
    let value = c.as_bytes.ensures.value in
    let answer = subst (λ x. IsTrue c.is_sub_domain.result ↔ IsSubDomain x) value c.is_sub_domain.ensures in
    subst (λ x. IsTrue c.is_sub_domain.result ↔ IsIdnSubDomain x) (sym (chars-IsAscii label ascii))
    (λ t. inl (answer.0 t), λ s. answer.1 (ascii_label label ascii s))

pub returns : goal.returns
returns c =
    let label = c.args.label.now in
    IfOk-weaker c.is_valid_u_label.result (λ b. IsTrue b ↔ IsULabel (chars label)) (λ b. IsTrue b ↔ IsIdnSubDomain (chars label))
    (λ b told. (λ t. inr (told.0 t), λ s. told.1 (wide_label label c.utf8.label c.if-is_ascii.ensures.cases s)))
    c.is_valid_u_label.ensures
