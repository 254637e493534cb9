use Rattle.std.proofs.Common.{◌≡◌, ◌+◌, ◌≤◌, drop}
use Rattle.strkw_regex_core.specs.Size.{sets_cost}
use Rattle.strkw_regex_core.proofs.size.class_steps.Given as goal

-- what was passed over and what is left
abbrev pub invariant-loop-set : goal.invariant-loop-set
invariant-loop-set l = record {
  parts : l.cost + sets_cost (drop l.set-index l.sets) ≡ sets_cost l.sets;
  few : l.cost ≤ 166408;
}
