use Rattle.std.proofs.Common.{arith}
use Rattle.strkw_ecma.proofs.DfaRows.{rows_of_draft}
use Rattle.strkw_ecma.proofs.determinise.Draft.add_rows.Goals as goal

pub returns : goal.returns
returns c _ = rows_of_draft _ _ _ _ _ c.rows.invariant.draft (omega arith)
