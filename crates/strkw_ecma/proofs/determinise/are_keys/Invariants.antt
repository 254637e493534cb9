use Rattle.std.proofs.Common.{◌≡◌, ◌<◌, ℕ, get_or}
use Rattle.strkw_charset.specs.machine.CharClasses.{answers}
use Rattle.strkw_ecma.proofs.determinise.are_keys.Given as goal

abbrev pub invariant-loop-k : goal.invariant-loop-k
invariant-loop-k l =
    (k : ℕ) → k < l.k → get_or l.sampled.columns.keys.items k 0 ≡ answers 0 l.sampled.columns.classes.items (get_or l.sampled.samples.items k 0)
