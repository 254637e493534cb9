use Rattle.std.proofs.Common.{◌∙◌, sym, ap}
use Rattle.strkw_regex_core.specs.machine.MarkedPattern.{empty}
use Rattle.strkw_regex_core.specs.machine.Program.{is_class}
use Rattle.strkw_regex_core.specs.machine.Sizes.{cap_steps, spread_if}
use Rattle.strkw_regex_core.specs.machine.ProgramSteps.{steps}
use Rattle.strkw_regex_core.specs.machine.Shape.{outline_pattern}
use Rattle.strkw_regex_core.proofs.PatternEquivalences.{option_class}
use Rattle.strkw_regex_core.proofs.Sizes.{more_capped, option_steps}
use Rattle.strkw_regex_core.proofs.Widths.{same_class_if}
use Rattle.strkw_regex_core.proofs.counted_regex.CountedRegex.option_steps.Goals as goal

pub returns-in-Some : goal.returns-in-Some
returns-in-Some c =
    let p = outline_pattern c.args.self.now in
    let q = spread_if c.args.is_spread p in
    c.requires ∙ ap cap_steps (sym (option_class empty q (same_class_if c.args.is_spread p ∙ ap is_class c.in-Some.ensures)))

pub returns-in-None : goal.returns-in-None
returns-in-None c =
    let p = outline_pattern c.args.self.now in
    let q = spread_if c.args.is_spread p in
    c.sum_of.ensures ∙ more_capped (steps q) 3 c.args.own c.requires
    ∙ ap cap_steps (sym (option_steps q (same_class_if c.args.is_spread p ∙ c.in-None.ensures)))
