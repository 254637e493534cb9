use Rattle.std.proofs.Common.{◌≡◌, ◌++◌, List, ℕ, string_bytes}
use Rattle.neldrafi_check.specs.machine.Origins.{positions_of}
use Rattle.neldrafi_check.proofs.SaidLemmas.{Left}
use Rattle.neldrafi_check.proofs.values.push_all.Given as goal

-- with what was made, the messages about the errors that are left make those about all
abbrev pub invariant-loop-error : goal.invariant-loop-error
invariant-loop-error g l = record {
  same : l.origin ≡ l.fn.origin;
  said : (made : List ℕ) × (string_bytes l.out ≡ string_bytes l.initial.out ++ made)
      × Left (g.F.ErrorForm.writes l.form) (positions_of l.fn.origin) l.errors l.error-index made;
}
