use Rattle.std.proofs.Common.{sym, ◌∙◌}
use Rattle.std.proofs.lemmas.Bool.{false≢true}
use Rattle.strkw_text.proofs.Equivalences.{carry}
use Rattle.strkw_mail.proofs.Tags.{tagged_ipv6, tagged_other, untagged}
use Rattle.strkw_mail.proofs.address_literal.is_bracketed.Goals as goal

pub returns-then-eq_ignore_ascii_case : goal.returns-then-eq_ignore_ascii_case
returns-then-eq_ignore_ascii_case c = carry c.is_ipv6_address.ensures
    (tagged_ipv6 c.args.bytes.now _ _ c.in-Some.ensures.cases.0 c.in-Some.ensures.cases.1
    (c.eq_ignore_ascii_case.ensures.test.0 c.if-eq_ignore_ascii_case.true))

pub returns-then-is_tag : goal.returns-then-is_tag
returns-then-is_tag c =
    let i = tagged_other c.args.bytes.now _ _ c.in-Some.ensures.cases.0 c.in-Some.ensures.cases.1
    (λ h. false≢true (sym c.if-eq_ignore_ascii_case.false ∙ c.eq_ignore_ascii_case.ensures.test.1 h)) in
    (λ t. i.1 (c.is_tag.ensures.0 c.if-is_tag.true, c.is_content.ensures.0 t), λ b. c.is_content.ensures.1 (i.0 b).1)

pub returns-else-is_tag : goal.returns-else-is_tag
returns-else-is_tag c =
    let i = tagged_other c.args.bytes.now _ _ c.in-Some.ensures.cases.0 c.in-Some.ensures.cases.1
    (λ h. false≢true (sym c.if-eq_ignore_ascii_case.false ∙ c.eq_ignore_ascii_case.ensures.test.1 h)) in
    (λ t. absurd (false≢true (sym c.if-is_tag.false ∙ t)), λ b. c.is_tag.ensures.1 (i.0 b).0)

pub returns-in-None : goal.returns-in-None
returns-in-None c = carry c.is_ipv4_address.ensures (untagged c.args.bytes.now c.in-None.ensures.cases)
