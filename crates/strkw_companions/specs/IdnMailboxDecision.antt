-- Each text is an internationalised mail address, or it is not: the decision follows the grammar,
-- rule by rule.
use Rattle.std.proofs.Common.{List, ℕ, codes, length}
use Rattle.std.specs.Str.{byte}
use Rattle.strkw_label.specs.BidiRule.{is_right_to_left_label}
use Rattle.strkw_label.specs.IdnHostName.{IsULabel, a_label}
use Rattle.strkw_mail.specs.AddressLiteral.{AddressLiteral}
use Rattle.strkw_mail.specs.IdnMailbox.{is_utf8_atext, is_utf8_qtext_smtp, octets}
use Rattle.strkw_mail.specs.IdnMailbox.{IsIdnLocalPart, IsIdnSubDomain, IdnDomain, IsIdnDomain}
use Rattle.strkw_mail.specs.IdnMailbox.{IsIdnMailbox}
use Rattle.strkw_mail.specs.Mailbox.{IsSubDomain}
use Rattle.strkw_companions.specs.Decisions.{by_other, decide_both, decide_implication, is_so}
use Rattle.strkw_companions.specs.Decisions.{at_most}
use Rattle.strkw_companions.specs.FormDecisions as form
use Rattle.strkw_companions.specs.FormDecisions.{Decided, alternative}
use Rattle.strkw_companions.specs.LabelDecision.{unicode_label, bidi_rule}
use Rattle.strkw_companions.specs.MailboxDecision.{address, literal_between, local_part_of}
use Rattle.strkw_companions.specs.MailboxDecision.{sub_domain}

local_part : Decided IsIdnLocalPart
local_part text = by_other (
  (λ h. record { rule = h.0; size = h.1 }),
  (λ p. (p.rule, p.size)),
) (decide_both (local_part_of is_utf8_atext is_utf8_qtext_smtp text) (at_most (octets text) 64))

u_label : Decided IsULabel
u_label label = by_other (
  (λ h. record { rules = h.0; bidi = h.1.0; size = h.1.1 }),
  (λ u. (u.rules, (u.bidi, u.size))),
) (
    decide_both (unicode_label label)
    (decide_both (decide_implication (is_so (is_right_to_left_label label)) (bidi_rule label))
    (at_most (length (a_label label)) 63)))

idn_sub_domain : Decided IsIdnSubDomain
idn_sub_domain = alternative IsSubDomain IsULabel sub_domain u_label

domain : Decided IsIdnDomain
domain text = by_other (
  (λ h. record { rule = h.0; size = h.1 }),
  (λ d. (d.rule, d.size)),
) (
    decide_both (
    alternative IdnDomain AddressLiteral
    (form.separated_list (byte ".") IsIdnSubDomain idn_sub_domain)
    address text) (at_most (octets text) 255))

-- each text is an internationalised mail address, or it is not
pub idn_mailbox : Decided IsIdnMailbox
idn_mailbox = literal_between IsIdnLocalPart IsIdnDomain (codes "@") local_part domain
