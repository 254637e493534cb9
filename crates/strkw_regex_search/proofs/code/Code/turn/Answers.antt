use Rattle.std.proofs.Common.{refl}
use Rattle.strkw_regex_search.proofs.Written.{turn_written}
use Rattle.strkw_regex_search.proofs.code.Code.turn.Goals as goal

pub returns : goal.returns
returns c = turn_written _ _ _ refl c.in_ok-push.ensures.items
