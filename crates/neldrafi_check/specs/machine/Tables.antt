-- How far the check of a table is.
use Rattle.std.specs.Prelude.{ℕ, List, ◌++◌, Option}
use Rattle.neldrafi_csv.specs.declared.place.Place.{Place}
use Rattle.neldrafi_check.specs.Counting.{both}
use Rattle.neldrafi_check.specs.Tables.{RecordsTold}
use Rattle.neldrafi_check.specs.declared.counts.Counts.{Counts}

-- With this made and counted, and this place and text next, what is told of the rest makes what is told of all.
abbrev pub Checking : (ℕ → List (Option (List ℕ)) → Counts → List ℕ → Type 0) → ℕ → Place → List ℕ → Counts → Place → List ℕ
    → List ℕ → Type 0
Checking told delimiter place text counts next rest made = (others : Counts) (later : List ℕ)
    → RecordsTold told delimiter next rest others later
    → RecordsTold told delimiter place text (both counts others) (made ++ later)
