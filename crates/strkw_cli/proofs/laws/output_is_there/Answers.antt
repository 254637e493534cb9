use Rattle.strkw_cli.proofs.AnswerExistence.{output_there}
use Rattle.strkw_cli.proofs.laws.output_is_there.Goals as goal

pub returns : goal.returns
returns c = output_there c.answer_is_there.ensures
