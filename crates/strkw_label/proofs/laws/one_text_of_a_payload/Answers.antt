use Rattle.strkw_label.proofs.OneText.{one_text}
use Rattle.strkw_label.proofs.laws.one_text_of_a_payload.Goals as goal

pub returns : goal.returns
returns c = one_text
