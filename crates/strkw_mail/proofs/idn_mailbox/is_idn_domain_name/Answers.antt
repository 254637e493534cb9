use Rattle.std.proofs.Common.{arith, sym, ◌∙◌}
use Rattle.std.specs.Prelude.{◌↔◌, IsTrue}
use Rattle.std.specs.Str.{chars}
use Rattle.std.proofs.lemmas.Bool.{false≢true}
use Rattle.std.proofs.lemmas.Result.{IfOk-weaker}
use Rattle.strkw_text.proofs.Delimiters.{separated_step, separated_end}
use Rattle.strkw_text.proofs.Equivalences.{carry, nope, iff_trans}
use Rattle.strkw_mail.specs.IdnMailbox.{IsIdnSubDomain, IdnDomain}
use Rattle.strkw_mail.proofs.IdnDomains.{idn_label_no_dot}
use Rattle.strkw_mail.proofs.idn_mailbox.is_idn_domain_name.Goals as goal

pub loop-label-preserved : goal.loop-label-preserved
loop-label-preserved c =
    let i = separated_step 46 (omega arith) IsIdnSubDomain idn_label_no_dot (chars c.loop-label.rest.now) _ _
    c.in-Some.ensures.cases.0 c.in-Some.ensures.cases.1 in
    let label = c.in_ok-is_idn_sub_domain.ensures.0 c.if-not-branch.false in
    (c.in-Some.ensures.utf8, iff_trans c.loop-label.invariant.1 (λ h. (i.0 h).1, λ r. i.1 (label, r)))

pub returns-then-not-branch : goal.returns-then-not-branch
returns-then-not-branch c =
    let i = separated_step 46 (omega arith) IsIdnSubDomain idn_label_no_dot (chars c.loop-label.rest.now) _ _
    c.in-Some.ensures.cases.0 c.in-Some.ensures.cases.1 in
    carry (nope (λ h. false≢true (sym c.if-not-branch.true ∙ c.in_ok-is_idn_sub_domain.ensures.1 (i.0 h).0))) c.loop-label.invariant.1

pub returns : goal.returns
returns c =
    let i = separated_end 46 (omega arith) IsIdnSubDomain (chars c.loop-label.rest.now) c.in_default.ensures.cases in
    IfOk-weaker c.is_idn_sub_domain-2.result (λ b. IsTrue b ↔ IsIdnSubDomain (chars c.loop-label.rest.now))
    (λ b. IsTrue b ↔ IdnDomain (chars c.args.name.now))
    (λ b told. carry told (iff_trans c.loop-label.invariant.1 i)) c.is_idn_sub_domain-2.ensures
