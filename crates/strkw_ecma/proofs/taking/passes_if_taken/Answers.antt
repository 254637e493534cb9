use Rattle.std.proofs.Common.{◌≡◌, Some, None, option_map, sym, subst}
use Rattle.strkw_regex_reader.specs.machine.Reading.{keep_small}
use Rattle.strkw_regex_search.specs.machine.Passes.{ComesTo, passes_of, steps_of_passes}
use Rattle.strkw_regex_core.specs.machine.Shape.{outline_pattern}
use Rattle.strkw_regex_core.specs.machine.Sizes.{cap_steps}
use Rattle.strkw_ecma.proofs.Taken.{comes_to, none_small}
use Rattle.strkw_ecma.proofs.taking.passes_if_taken.Goals as goal

pub returns : goal.returns
returns c =
    let v = c.in_ok-passes.passes in
    let steps : c.steps_of.result ≡ cap_steps (steps_of_passes (passes_of v.items)) = cc in
    subst (λ o. ComesTo (Some v) (keep_small (option_map outline_pattern o))) (sym c.in-Some.is)
    (comes_to v (outline_pattern c.in-Some.outline) c.in_ok-passes.ensures c.steps_of.result steps c.if-steps_of-gt-MAX_STEPS.false)

pub returns-then-steps_of-gt-MAX_STEPS : goal.returns-then-steps_of-gt-MAX_STEPS
returns-then-steps_of-gt-MAX_STEPS c =
    let v = c.in_ok-passes.passes in
    let steps : c.steps_of.result ≡ cap_steps (steps_of_passes (passes_of v.items)) = cc in
    subst (λ o. ComesTo None (keep_small (option_map outline_pattern o))) (sym c.in-Some.is)
    (none_small v (outline_pattern c.in-Some.outline) c.in_ok-passes.ensures c.steps_of.result steps c.if-steps_of-gt-MAX_STEPS.true)
