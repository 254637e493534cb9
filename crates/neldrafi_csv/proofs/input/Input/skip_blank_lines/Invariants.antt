use Rattle.std.proofs.Common.{◌≡◌, ◌≤◌, ℕ, List, Some, length}
use Rattle.neldrafi_csv.specs.Lines.{AreLineBytes}
use Rattle.neldrafi_csv.specs.machine.Inputs.{Passes, rest_of}
use Rattle.neldrafi_csv.proofs.input.Input.skip_blank_lines.Given as goal

abbrev pub invariant-pieces : goal.invariant-pieces
invariant-pieces g l = (text : List ℕ) → rest_of g.R.Read.remaining l.fn.self ≡ Some text
    → (blank : List ℕ) × (rest : List ℕ) × AreLineBytes blank × Passes g.R.Read.remaining l.fn.self l.self text blank rest × (l.turn ≤ length blank)
