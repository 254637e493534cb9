use Rattle.std.proofs.Common.{refl}
use Rattle.strkw_keywords.proofs.laws.others_have_none.Goals as goal

pub returns : goal.returns
returns c = record { errors = λ assertions lists site rs. ((λ h. h), (λ h. h)); annotation = λ remark. refl }
