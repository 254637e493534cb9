use Rattle.std.proofs.Common.{◌≡◌, ◌++◌, ◌-◌, ℕ, List, length, drop}
use Rattle.neldrafi_csv.specs.Grammar.{IsEscaped}
use Rattle.neldrafi_csv.proofs.scan.push_value.Given as goal

-- the value of what precedes was appended
abbrev pub invariant-pairs : goal.invariant-pairs
invariant-pairs l = (value : List ℕ) → IsEscaped l.inside value → (later : List ℕ)
    × IsEscaped (drop l.at l.inside) later × (l.out.items ++ later ≡ l.fn.out.items ++ value)

abbrev pub decreases-pairs : goal.decreases-pairs
decreases-pairs l = length l.inside - l.at
