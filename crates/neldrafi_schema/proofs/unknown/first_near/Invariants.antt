use Rattle.std.proofs.Common.{◌≡◌, drop, map}
use Rattle.std.specs.List.{find}
use Rattle.neldrafi_schema.specs.Unknown.{is_near}
use Rattle.neldrafi_schema.proofs.unknown.first_near.Given as goal

-- none of those before the place is near
abbrev pub invariant-loop-other : goal.invariant-loop-other
invariant-loop-other l =
    find (is_near l.draft l.name l.edits) (map (λ other. other.now) l.names)
    ≡ find (is_near l.draft l.name l.edits) (map (λ other. other.now) (drop l.other-index l.names))
