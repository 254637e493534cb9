use Rattle.strkw_cli.proofs.AnswerExistence.{answer_there}
use Rattle.strkw_cli.proofs.laws.answer_is_there.Goals as goal

pub returns : goal.returns
returns c = answer_there c.errors_are_there.ensures
