use Rattle.std.proofs.Common.{rules}
use Rattle.strkw_regex_search.specs.machine.Machine.{pattern_of}
use Rattle.strkw_ecma.specs.machine.Dfa.{IsTable}
use Rattle.strkw_ecma.proofs.Tables.{searches}
use Rattle.strkw_ecma.proofs.determinise.table_if_right.Goals as goal

pub returns : goal.returns
returns c =
    let sampled = c.args.sampled in
    let draft = c.args.draft in
    let columns = sampled.columns in
    let right : IsTable columns.classes.items columns.keys.items sampled.samples.items
    draft.entries.items draft.states.items (pattern_of c.args.program.now) =
    search rules in
    searches _ _ _ _ _ _ c.requires.clean right
