use Rattle.std.proofs.Common.{arith}
use Rattle.strkw_charset.proofs.Bytes.{column_within}
use Rattle.strkw_ecma.proofs.dfa.Dfa.is_found_back.Goals as goal

pub next_row-requires-clause-column : goal.next_row-requires-clause-column
next_row-requires-clause-column c =
    let within = column_within c.args.self.now.columns.classes.items c.args.self.now.columns.keys.items c.in-Some.c c.column.result c.column.ensures.column in
    omega (arith, within, c.rows-rows.ensures.end)
