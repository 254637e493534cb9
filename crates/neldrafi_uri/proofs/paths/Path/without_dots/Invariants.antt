use Rattle.std.proofs.Common.{◌≡◌, drop}
use Rattle.neldrafi_uri.specs.machine.Paths.{path_then}
use Rattle.neldrafi_uri.specs.machine.Texts.{texts}
use Rattle.neldrafi_uri.proofs.paths.Path.without_dots.Given as goal

abbrev pub invariant-loop-index : goal.invariant-loop-index
invariant-loop-index l = path_then l.path (texts (drop l.index l.others)) ≡ path_then l.initial.path (texts l.others)
