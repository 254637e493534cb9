use Rattle.std.proofs.Common.{rules}
use Rattle.json.specs.Print.{escape_byte}
use Rattle.strkw_report.proofs.json_text.push_escaped_byte.Goals as goal

pub returns-in-34-clause-ok : goal.returns-in-34-clause-ok
unfolding escape_byte
returns-in-34-clause-ok c = search rules

pub returns-in-92-clause-ok : goal.returns-in-92-clause-ok
unfolding escape_byte
returns-in-92-clause-ok c = search rules

pub returns-in-8-clause-ok : goal.returns-in-8-clause-ok
unfolding escape_byte
returns-in-8-clause-ok c = search rules

pub returns-in-12-clause-ok : goal.returns-in-12-clause-ok
unfolding escape_byte
returns-in-12-clause-ok c = search rules

pub returns-in-10-clause-ok : goal.returns-in-10-clause-ok
unfolding escape_byte
returns-in-10-clause-ok c = search rules

pub returns-in-13-clause-ok : goal.returns-in-13-clause-ok
unfolding escape_byte
returns-in-13-clause-ok c = search rules

pub returns-in-9-clause-ok : goal.returns-in-9-clause-ok
unfolding escape_byte
returns-in-9-clause-ok c = search rules

pub returns-then-byte-lt32-clause-ok : goal.returns-then-byte-lt32-clause-ok
unfolding escape_byte
returns-then-byte-lt32-clause-ok c = search rules

pub returns-else-byte-lt32-clause-ok : goal.returns-else-byte-lt32-clause-ok
unfolding escape_byte
returns-else-byte-lt32-clause-ok c = search rules
