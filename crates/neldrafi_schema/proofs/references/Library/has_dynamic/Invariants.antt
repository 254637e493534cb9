use Rattle.std.proofs.Common.{◌≡◌, drop}
use Rattle.neldrafi_schema.specs.Scopes.{has_dynamic}
use Rattle.neldrafi_schema.specs.machine.Identifiers.{identifiers_of}
use Rattle.neldrafi_schema.proofs.references.Library.has_dynamic.Given as goal

-- no identifier so far is such an anchor
abbrev pub invariant-loop-identifier : goal.invariant-loop-identifier
invariant-loop-identifier l = has_dynamic (identifiers_of l.self.identifiers.items) l.name l.uri
    ≡ has_dynamic (identifiers_of (drop l.identifier-index l.self.identifiers.items)) l.name l.uri
