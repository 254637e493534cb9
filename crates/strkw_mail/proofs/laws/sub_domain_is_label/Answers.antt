use Rattle.strkw_mail.proofs.Domains.{sub_domain_label}
use Rattle.strkw_mail.proofs.laws.sub_domain_is_label.Goals as goal

pub returns : goal.returns
returns c = sub_domain_label
