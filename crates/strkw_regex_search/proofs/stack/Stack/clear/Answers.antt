use Rattle.std.proofs.Common.{drop_of_length-le, arith}
use Rattle.strkw_regex_search.proofs.stack.Stack.clear.Goals as goal

pub returns-clause-empty : goal.returns-clause-empty
returns-clause-empty c = drop_of_length-le c.args.self.now.answers {i = 10400} (omega (arith, c.args.self.now.room))
