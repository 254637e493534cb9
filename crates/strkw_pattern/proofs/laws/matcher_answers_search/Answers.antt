use Rattle.strkw_pattern.proofs.Searches.{analysis_search}
use Rattle.strkw_pattern.proofs.laws.matcher_answers_search.Goals as goal

pub returns : goal.returns
returns c = analysis_search
