use Rattle.std.proofs.Common.{◌≡◌, drop}
use Rattle.serde_json.specs.View.{view}
use Rattle.neldrafi_schema.specs.Paths.{value_at}
use Rattle.neldrafi_schema.specs.machine.Compiled.{path_of}
use Rattle.neldrafi_schema.proofs.documents.value_at.Given as goal

-- the segments that are left lead from the value to where the whole path leads
abbrev pub invariant-loop-segment : goal.invariant-loop-segment
invariant-loop-segment l = value_at (path_of (drop l.segment-index l.path)) (view l.value)
    ≡ value_at (path_of l.path) (view l.document)
