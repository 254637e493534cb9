-- Why a text is not read on.
use Rattle.std.specs.Prelude.{ℕ, List, ⊤}
use Rattle.neldrafi_csv.specs.declared.faults.ReadFault.{ReadFault}
use Rattle.neldrafi_csv.specs.declared.faults.ReadFault.TheVariants as fault
use Rattle.neldrafi_csv.specs.declared.place.Place.{Place}
use Rattle.neldrafi_csv.specs.Records.{IsTooLong}

-- why a text that begins at a place is not read on, if no record of it is to blame
abbrev pub Fails : Place → List ℕ → ReadFault → Type 0
Fails place text (fault.Read e) = ⊤
Fails place text (fault.OpenQuote line) = ⊥
Fails place text fault.Memory = ⊤
Fails place text fault.TooLong = IsTooLong place text
