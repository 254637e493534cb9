use Rattle.std.proofs.Common.{◌≡◌, ap₂, sym, ◌∙◌, arith, min}
use Rattle.ucd_script.specs.ScriptExtensions.{or_script, script_extensions}
use Rattle.strkw_charset.proofs.ScriptLists.{same_list}
use Rattle.strkw_charset.proofs.RunEnds.{same_script}
use Rattle.strkw_charset.proofs.ends.Ends.extensions_end.Goals as goal

pub returns-clause-alike : goal.returns-clause-alike
unfolding script_extensions
returns-clause-alike c d from before small =
    let least : c.min.result ≡ min c.value_end-own.result c.value_end-listed.result = c.min.ensures in
    let own = c.value_end-own.ensures.alike d from (omega (arith, least, before)) in
    let listed = c.value_end-listed.ensures.alike d from (omega (arith, least, before)) in
    ap₂ or_script
    (same_script c.args.c d
    (sym (c.runs.ensures.values d (omega (arith, small))) ∙ own ∙ c.runs.ensures.values c.args.c (omega arith)))
    (same_list c.args.c d
    (sym (c.list_runs.ensures.values d (omega (arith, small))) ∙ listed ∙ c.list_runs.ensures.values c.args.c (omega arith)))
