-- The names of the groups as the code holds them at the end.
use Rattle.std.specs.Prelude.{ℕ, Bool, List}
use Rattle.std.specs.Borrow.{Bor}
use Rattle.std.specs.BTreeSet.{BTreeSet, contains_by}
use Rattle.std.specs.Cmp.Lexicographic.{slice_cmp}
use Rattle.std.specs.Ordering.{nat_cmp}

-- the set has the name
abbrev pub has_name : BTreeSet (Bor (List ℕ)) → List ℕ → Bool
has_name set n = contains_by (λ other. slice_cmp nat_cmp n other.now) set
