use Rattle.std.proofs.Common.{◌<◌, ◌≤◌, arith, rules}
use Rattle.std.proofs.lemmas.Fmt.{hex_byte}
use Rattle.std.specs.Char.{encode_utf8}
use Rattle.json.specs.Print.{escape_byte}
use Rattle.strkw_report.proofs.JsonText.{escape-encode_control, escape-encode_plain}
use Rattle.strkw_report.proofs.quoted.EscapedDisplay.fmt.Goals as goal

pub returns-in-34-clause-writes : goal.returns-in-34-clause-writes
unfolding escape_byte encode_utf8
returns-in-34-clause-writes g c = rw c.in-34.is (search rules)

pub returns-in-92-clause-writes : goal.returns-in-92-clause-writes
unfolding escape_byte encode_utf8
returns-in-92-clause-writes g c = rw c.in-92.is (search rules)

pub returns-in-8-clause-writes : goal.returns-in-8-clause-writes
unfolding escape_byte encode_utf8
returns-in-8-clause-writes g c = rw c.in-8.is (search rules)

pub returns-in-12-clause-writes : goal.returns-in-12-clause-writes
unfolding escape_byte encode_utf8
returns-in-12-clause-writes g c = rw c.in-12.is (search rules)

pub returns-in-10-clause-writes : goal.returns-in-10-clause-writes
unfolding escape_byte encode_utf8
returns-in-10-clause-writes g c = rw c.in-10.is (search rules)

pub returns-in-13-clause-writes : goal.returns-in-13-clause-writes
unfolding escape_byte encode_utf8
returns-in-13-clause-writes g c = rw c.in-13.is (search rules)

pub returns-in-9-clause-writes : goal.returns-in-9-clause-writes
unfolding escape_byte encode_utf8
returns-in-9-clause-writes g c = rw c.in-9.is (search rules)

pub returns-then-c-lt32-clause-writes : goal.returns-then-c-lt32-clause-writes
returns-then-c-lt32-clause-writes g c =
    let control : c.args.self.now.0 < 32 = omega (arith, c.if-c-lt32.true) in
    rw (escape-encode_control c.args.self.now.0 control
    (search rules) (search rules) (search rules) (search rules) (search rules))
    (search (rules, hex_byte))

pub returns-else-c-lt32-clause-writes : goal.returns-else-c-lt32-clause-writes
returns-else-c-lt32-clause-writes g c =
    let visible : 32 ≤ c.args.self.now.0 = omega (arith, c.if-c-lt32.false) in
    rw (escape-encode_plain c.args.self.now.0 visible (search rules) (search rules)) (search rules)
