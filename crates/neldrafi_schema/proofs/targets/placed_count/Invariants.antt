use Rattle.std.proofs.Common.{◌≡◌, ℕ, List, drop}
use Rattle.strkw_pattern.specs.declared.engine.Outcome.{Outcome}
use Rattle.neldrafi_schema.specs.contracts.targets.placed_count.{E-type}
use Rattle.neldrafi_schema.specs.Rules.{placed_count}
use Rattle.neldrafi_schema.specs.machine.Compiled.{keywords_of}
use Rattle.neldrafi_schema.proofs.targets.placed_count.Given as goal

-- no keyword so far has a schema for each place
abbrev pub invariant-loop-keyword : goal.invariant-loop-keyword
invariant-loop-keyword g l = (outcome : E-type g.row.E → List ℕ → Outcome) → placed_count (keywords_of outcome l.beside) ≡ placed_count (keywords_of outcome (drop l.keyword-index l.beside))
