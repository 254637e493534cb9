use Rattle.std.proofs.Common.{◌∙◌, Bool, List, false, get_or, sym, ap}
use Rattle.strkw_regex_search.proofs.OracleCode.{row_there, row_none}
use Rattle.strkw_regex_search.proofs.oracle_runner.is_said.Goals as goal

pub returns-in-Some : goal.returns-in-Some
returns-in-Some c =
    let bits = c.in-Some.bits.now in
    let look = c.in-Some.ensures.lookup.3 in
    c.get-in-Some.ensures
    ∙ sym (ap (λ (l : List Bool). get_or l c.args.ahead false) (row_there c.args.rows.now c.args.row bits bits look.0 (look.1 bits)))

pub returns-in-None : goal.returns-in-None
returns-in-None c = sym (ap (λ (l : List Bool). get_or l c.args.ahead false) (row_none c.args.rows.now c.args.row c.in-None.ensures.lookup.3))
