use Rattle.std.proofs.Common.{◌≡◌, drop, string_bytes}
use Rattle.serde_json.specs.View.{view}
use Rattle.neldrafi_schema.specs.Locations.{below_root}
use Rattle.neldrafi_schema.specs.machine.Compiled.{path_of}
use Rattle.neldrafi_schema.proofs.locations.below_root.Given as goal

-- what of the segments that are left is below the root, is what of the whole path is
abbrev pub invariant-loop-place : goal.invariant-loop-place
invariant-loop-place l = below_root l.draft l.uri (string_bytes l.base) (path_of (drop l.place l.path)) (view l.value)
    ≡ below_root l.draft l.uri l.document.uri.now (path_of l.path) (view l.document.value.now)
