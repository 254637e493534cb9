use Rattle.std.proofs.Common.{◌≡◌, drop}
use Rattle.std.specs.List.{list_any}
use Rattle.neldrafi_schema.specs.Scopes.{is_added}
use Rattle.neldrafi_schema.specs.machine.Identifiers.{identifiers_of}
use Rattle.neldrafi_schema.specs.machine.Places.{scope_of}
use Rattle.neldrafi_schema.proofs.references.Library.adds_anchor.Given as goal

-- no identifier so far is such an anchor
abbrev pub invariant-loop-identifier : goal.invariant-loop-identifier
invariant-loop-identifier l =
    let test = is_added (identifiers_of l.self.identifiers.items) (scope_of l.scope) l.uri in
    list_any test (identifiers_of l.self.identifiers.items) ≡ list_any test (identifiers_of (drop l.identifier-index l.self.identifiers.items))
