use Rattle.std.proofs.Common.{◌≡◌, ◌≤◌, ◌-◌, length, take}
use Rattle.neldrafi_csv.specs.Lines.{place_after}
use Rattle.neldrafi_csv.proofs.place.Place.behind.Given as goal

abbrev pub invariant-lines : goal.invariant-lines
invariant-lines l = record {
  within : l.at ≤ length l.bytes;
  reached : l.place ≡ place_after l.fn.self (take l.at l.bytes);
}

abbrev pub decreases-lines : goal.decreases-lines
decreases-lines l = length l.bytes - l.at
