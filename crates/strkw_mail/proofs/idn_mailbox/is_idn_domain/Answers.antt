use Rattle.std.proofs.Common.{sym, subst}
use Rattle.std.specs.Prelude.{◌↔◌, IsTrue}
use Rattle.std.specs.Str.{chars}
use Rattle.std.proofs.lemmas.Result.{IfOk-weaker}
use Rattle.std.proofs.lemmas.Str.{chars-IsAscii}
use Rattle.strkw_text.proofs.Equivalences.{carry, nope}
use Rattle.strkw_mail.specs.IdnMailbox.{IdnDomain, IsIdnDomain}
use Rattle.strkw_mail.specs.Mailbox.{IsDomain}
use Rattle.strkw_mail.proofs.IdnDomains.{ascii_domain, wide_domain, long_domain}
use Rattle.strkw_mail.proofs.idn_mailbox.is_idn_domain.Goals as goal

pub returns-then-is_ascii : goal.returns-then-is_ascii
returns-then-is_ascii c =
    let domain = c.args.domain.now in
    let ascii = c.if-is_ascii.ensures.cases in
    let answer = subst (λ x. IsTrue c.is_domain.result ↔ IsDomain x) c.as_bytes.ensures.value c.is_domain.ensures in
    subst (λ x. IsTrue c.is_domain.result ↔ IsIdnDomain x) (sym (chars-IsAscii domain ascii)) (carry answer (ascii_domain domain ascii))

pub returns-then-domain-gt-LONGEST_DOMAIN : goal.returns-then-domain-gt-LONGEST_DOMAIN
returns-then-domain-gt-LONGEST_DOMAIN c = nope (long_domain c.args.domain.now c.utf8.domain c.if-domain-gt-LONGEST_DOMAIN.true)

pub returns : goal.returns
returns c =
    let domain = c.args.domain.now in
    let i = wide_domain domain c.utf8.domain c.if-is_ascii.ensures.cases c.if-domain-gt-LONGEST_DOMAIN.false in
    IfOk-weaker c.is_idn_domain_name.result (λ b. IsTrue b ↔ IdnDomain (chars domain))
    (λ b. IsTrue b ↔ IsIdnDomain (chars domain)) (λ b told. carry told i) c.is_idn_domain_name.ensures
