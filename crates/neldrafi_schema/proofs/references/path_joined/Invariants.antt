use Rattle.std.proofs.Common.{◌≡◌, ◌++◌, take}
use Rattle.neldrafi_schema.specs.machine.Compiled.{path_of}
use Rattle.neldrafi_schema.proofs.references.path_joined.Given as goal

abbrev pub invariant-loop-segment : goal.invariant-loop-segment
invariant-loop-segment l = path_of l.joined.items ≡ path_of l.path ++ path_of (take l.segment-index l.below)
