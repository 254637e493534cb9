-- How far the check of lines is.
use Rattle.std.specs.Prelude.{ℕ, List, ◌++◌}
use Rattle.neldrafi_check.specs.Counting.{both}
use Rattle.neldrafi_check.specs.Files.{LinesTold}
use Rattle.neldrafi_check.specs.declared.counts.Counts.{Counts}

-- With this made and counted, and this line the next, what is told of the rest makes what is told of all.
abbrev pub Going : (ℕ → List ℕ → Counts → List ℕ → Type 0) → List ℕ → ℕ → Counts → List ℕ → List ℕ → Type 0
Going told text number counts rest made = (others : Counts) (later : List ℕ)
    → LinesTold told number rest others later → LinesTold told 1 text (both counts others) (made ++ later)
