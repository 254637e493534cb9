use Rattle.strkw_keywords.proofs.InTurn.{in_turn}
use Rattle.strkw_keywords.proofs.laws.assertions_report_in_turn.Goals as goal

pub returns : goal.returns
returns c = in_turn
