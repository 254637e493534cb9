use Rattle.std.proofs.Common.{◌≡◌, take}
use Rattle.neldrafi_schema.specs.machine.Compiled.{path_of}
use Rattle.neldrafi_schema.proofs.places.path_copy.Given as goal

abbrev pub invariant-loop-segment : goal.invariant-loop-segment
invariant-loop-segment l = path_of l.copy.items ≡ path_of (take l.segment-index l.path)
