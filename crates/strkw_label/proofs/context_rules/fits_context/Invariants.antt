use Rattle.std.proofs.Common.{ℕ, ◌<◌}
use Rattle.strkw_label.specs.ContextRules.{FitsNeighbours}
use Rattle.strkw_label.proofs.context_rules.fits_context.Given as goal

-- the characters before the place fit their neighbours
abbrev pub invariant-loop-place : goal.invariant-loop-place
invariant-loop-place l = (k : ℕ) → k < l.place → FitsNeighbours l.label k
