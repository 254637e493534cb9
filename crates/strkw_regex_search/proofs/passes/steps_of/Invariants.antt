use Rattle.std.proofs.Common.{◌≡◌, ◌+◌, ◌≤◌, drop}
use Rattle.strkw_regex_core.specs.Size.{max_steps}
use Rattle.strkw_regex_search.specs.machine.Passes.{passes_of, steps_of_passes}
use Rattle.strkw_regex_core.specs.machine.Sizes.{cap_steps}
use Rattle.strkw_regex_search.proofs.passes.steps_of.Given as goal

abbrev pub invariant-loop-pass : goal.invariant-loop-pass
invariant-loop-pass l = record {
  within : l.steps ≤ max_steps + 1;
  so_far : cap_steps (l.steps + steps_of_passes (passes_of (drop l.pass-index l.passes))) ≡ cap_steps (steps_of_passes (passes_of l.passes));
}
