use Rattle.std.proofs.Common.{◌≡◌, take}
use Rattle.neldrafi_schema.specs.Paths.{location_of}
use Rattle.neldrafi_schema.specs.machine.Compiled.{path_of}
use Rattle.neldrafi_schema.proofs.places.location_of.Given as goal

abbrev pub invariant-loop-segment : goal.invariant-loop-segment
invariant-loop-segment l = l.location ≡ location_of (path_of (take l.segment-index l.path))
