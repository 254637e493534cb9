use Rattle.strkw_object.proofs.Printable.{refusal_printable}
use Rattle.strkw_object.proofs.laws.refusals_have_texts.Goals as goal

pub returns : goal.returns
returns c = refusal_printable
