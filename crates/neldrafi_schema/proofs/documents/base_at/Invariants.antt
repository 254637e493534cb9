use Rattle.std.proofs.Common.{◌≡◌, drop, string_bytes}
use Rattle.serde_json.specs.View.{view}
use Rattle.neldrafi_schema.specs.Resources.{base_at}
use Rattle.neldrafi_schema.specs.machine.Compiled.{path_of}
use Rattle.neldrafi_schema.proofs.documents.base_at.Given as goal

-- the base URI along the segments that are left, from the value on, is that along the whole path
abbrev pub invariant-loop-segment : goal.invariant-loop-segment
invariant-loop-segment l = base_at l.draft (string_bytes l.base) (path_of (drop l.segment-index l.path)) (view l.value)
    ≡ base_at l.draft l.document.uri.now (path_of l.path) (view l.document.value.now)
