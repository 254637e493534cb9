use Rattle.std.proofs.Common.{◌≡◌, take}
use Rattle.neldrafi_schema.specs.machine.Places.{scope_of}
use Rattle.neldrafi_schema.proofs.places.scope_copy.Given as goal

abbrev pub invariant-loop-uri : goal.invariant-loop-uri
invariant-loop-uri l = scope_of l.copy.items ≡ scope_of (take l.uri-index l.scope)
