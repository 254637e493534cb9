use Rattle.std.proofs.Common.{arith}
use Rattle.strkw_cli.proofs.request.read_members.Goals as goal

pub returns-in-Err-NotJson-clause-ok : goal.returns-in-Err-NotJson-clause-ok
returns-in-Err-NotJson-clause-ok c = c.request_in_text.ensures.none (grind arith)
