use Rattle.strkw_keywords.proofs.FirstRow.{first_row}
use Rattle.strkw_keywords.proofs.laws.first_row_counts.Goals as goal

pub returns : goal.returns
returns c = first_row
