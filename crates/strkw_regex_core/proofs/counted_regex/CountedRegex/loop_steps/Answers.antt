use Rattle.std.proofs.Common.{◌∙◌, sym, ap}
use Rattle.strkw_regex_core.specs.machine.Program.{is_class}
use Rattle.strkw_regex_core.specs.machine.Sizes.{cap_steps, spread_if}
use Rattle.strkw_regex_core.specs.machine.ProgramSteps.{steps}
use Rattle.strkw_regex_core.specs.machine.Shape.{outline_pattern}
use Rattle.strkw_regex_core.proofs.PatternEquivalences.{star_class, plus_class}
use Rattle.strkw_regex_core.proofs.Sizes.{more_capped, star_steps, plus_steps}
use Rattle.strkw_regex_core.proofs.Widths.{same_class_if}
use Rattle.strkw_regex_core.proofs.counted_regex.CountedRegex.loop_steps.Goals as goal

pub returns-in-Some-clause-star : goal.returns-in-Some-clause-star
returns-in-Some-clause-star c =
    let p = outline_pattern c.args.self.now in
    let q = spread_if c.args.is_spread p in
    c.requires ∙ ap cap_steps (sym (star_class q (same_class_if c.args.is_spread p ∙ ap is_class c.in-Some.ensures)))

pub returns-in-Some-clause-plus : goal.returns-in-Some-clause-plus
returns-in-Some-clause-plus c =
    let p = outline_pattern c.args.self.now in
    let q = spread_if c.args.is_spread p in
    c.requires ∙ ap cap_steps (sym (plus_class q (same_class_if c.args.is_spread p ∙ ap is_class c.in-Some.ensures)))

pub returns-in-None-clause-star : goal.returns-in-None-clause-star
returns-in-None-clause-star c =
    let p = outline_pattern c.args.self.now in
    let q = spread_if c.args.is_spread p in
    c.sum_of.ensures ∙ more_capped (steps q) 2 c.args.own c.requires
    ∙ ap cap_steps (sym (star_steps q (same_class_if c.args.is_spread p ∙ c.in-None.ensures)))

pub returns-in-None-clause-plus : goal.returns-in-None-clause-plus
returns-in-None-clause-plus c =
    let p = outline_pattern c.args.self.now in
    let q = spread_if c.args.is_spread p in
    c.sum_of.ensures ∙ more_capped (steps q) 2 c.args.own c.requires
    ∙ ap cap_steps (sym (plus_steps q (same_class_if c.args.is_spread p ∙ c.in-None.ensures)))
