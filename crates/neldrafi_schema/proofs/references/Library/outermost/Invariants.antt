use Rattle.std.proofs.Common.{◌≡◌, drop}
use Rattle.neldrafi_schema.specs.Scopes.{outermost}
use Rattle.neldrafi_schema.specs.machine.Identifiers.{identifiers_of}
use Rattle.neldrafi_schema.specs.machine.Places.{scope_of}
use Rattle.neldrafi_schema.proofs.references.Library.outermost.Given as goal

-- no resource so far has one
abbrev pub invariant-loop-uri : goal.invariant-loop-uri
invariant-loop-uri l = outermost (identifiers_of l.self.identifiers.items) l.name (scope_of (drop l.uri-index l.scope))
    ≡ outermost (identifiers_of l.self.identifiers.items) l.name (scope_of l.scope)
