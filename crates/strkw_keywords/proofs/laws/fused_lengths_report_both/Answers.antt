use Rattle.strkw_keywords.proofs.InTurn.{fused}
use Rattle.strkw_keywords.proofs.laws.fused_lengths_report_both.Goals as goal

pub returns : goal.returns
returns c = fused
