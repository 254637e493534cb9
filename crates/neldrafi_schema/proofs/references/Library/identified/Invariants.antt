use Rattle.std.proofs.Common.{◌≡◌, drop}
use Rattle.neldrafi_schema.specs.Resources.{identified}
use Rattle.neldrafi_schema.specs.machine.Identifiers.{identifiers_of}
use Rattle.neldrafi_schema.proofs.references.Library.identified.Given as goal

-- the first is among those that are left
abbrev pub invariant-loop-identifier : goal.invariant-loop-identifier
invariant-loop-identifier l = identified l.uri l.anchor (identifiers_of (drop l.identifier-index l.self.identifiers.items))
    ≡ identified l.uri l.anchor (identifiers_of l.self.identifiers.items)
