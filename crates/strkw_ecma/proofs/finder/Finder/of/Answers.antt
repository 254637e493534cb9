use Rattle.std.proofs.Common.{sym, ap, ◌∙◌}
use Rattle.strkw_regex_core.specs.machine.OneCharLookahead.{are_told}
use Rattle.strkw_regex_core.specs.machine.Positions.{is_clean}
use Rattle.strkw_ecma.specs.machine.RequiredByte.{needed_char}
use Rattle.strkw_ecma.proofs.Chains.{both_tabled, chains_are_exact}
use Rattle.strkw_ecma.proofs.finder.Finder.of.Goals as goal

pub invariant_of-result-clause-tabled : goal.invariant_of-result-clause-tabled
invariant_of-result-clause-tabled c b e = both_tabled b c.in_ok-program.program.code (c.in_ok-chains.ensures b e)

pub invariant_of-result-clause-chained : goal.invariant_of-result-clause-chained
invariant_of-result-clause-chained c b e text =
    let p = c.in_ok-program.program in
    chains_are_exact p (ap is_clean c.in_ok-program.ensures ∙ c.requires.clean) (ap are_told c.in_ok-program.ensures ∙ c.requires.told) text b
    (c.in_ok-chains.ensures b e)

pub invariant_of-result-clause-told : goal.invariant_of-result-clause-told
invariant_of-result-clause-told c = ap are_told c.in_ok-program.ensures ∙ c.requires.told

pub invariant_of-result-clause-read : goal.invariant_of-result-clause-read
invariant_of-result-clause-read c = c.needed_byte-needed.ensures ∙ sym (ap needed_char c.in_ok-program.ensures)
