use Rattle.std.proofs.Common.{◌≡◌, ◌∙◌, ◌-◌, sym}
use Rattle.strkw_regex_core.specs.machine.MarkedPattern.{empty, alt, star}
use Rattle.strkw_regex_core.specs.machine.Times.{repetition}
use Rattle.strkw_regex_core.specs.machine.Sizes.{cap_steps, spread_if}
use Rattle.strkw_regex_core.specs.machine.ProgramSteps.{steps}
use Rattle.strkw_regex_core.specs.machine.Shape.{outline_pattern}
use Rattle.strkw_regex_core.proofs.Sizes.{both_steps, copies_steps}
use Rattle.strkw_regex_core.proofs.counted_regex.CountedRegex.repeated_steps.Goals as goal

pub returns-in-Exactly : goal.returns-in-Exactly
returns-in-Exactly c =
    let q = spread_if c.args.is_spread (outline_pattern c.args.self.now) in
    rw (c.in-Exactly.is) (c.times.ensures ∙ copies_steps c.in-Exactly.count q c.args.own c.requires)

pub returns-in-AtLeast : goal.returns-in-AtLeast
returns-in-AtLeast c =
    let q = spread_if c.args.is_spread (outline_pattern c.args.self.now) in
    rw (c.in-AtLeast.is)
    (c.sum_of.ensures
    ∙ both_steps (repetition c.in-AtLeast.count q) (star q) _ _
    (c.times-in-AtLeast.ensures ∙ copies_steps c.in-AtLeast.count q c.args.own c.requires) c.loop_steps-in-AtLeast.ensures.star)

pub returns-in-FromTo : goal.returns-in-FromTo
returns-in-FromTo c =
    let q = spread_if c.args.is_spread (outline_pattern c.args.self.now) in
    let rest : c.times-rest.result ≡ cap_steps (steps (repetition (c.in-FromTo.most - c.in-FromTo.least) (alt empty q))) =
    rw (sym c.saturating_sub.ensures)
    (c.times-rest.ensures ∙ copies_steps c.saturating_sub.result (alt empty q) _ c.option_steps-in-FromTo.ensures) in
    rw (c.in-FromTo.is)
    (c.sum_of-in-FromTo.ensures
    ∙ both_steps (repetition c.in-FromTo.least q) (repetition (c.in-FromTo.most - c.in-FromTo.least) (alt empty q)) _ _
    (c.times-in-FromTo.ensures ∙ copies_steps c.in-FromTo.least q c.args.own c.requires) rest)
