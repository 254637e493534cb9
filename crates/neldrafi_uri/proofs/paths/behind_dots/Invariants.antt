use Rattle.std.proofs.Common.{◌≡◌, drop}
use Rattle.neldrafi_uri.specs.Resolution.{dots_removed}
use Rattle.neldrafi_uri.specs.machine.Texts.{texts}
use Rattle.neldrafi_uri.proofs.paths.behind_dots.Given as goal

abbrev pub invariant-loop-index : goal.invariant-loop-index
invariant-loop-index l = dots_removed (texts (drop l.index l.segments)) ≡ dots_removed (texts l.segments)
