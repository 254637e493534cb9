use Rattle.std.proofs.Common.{◌≡◌, map}
use Rattle.serde_json.specs.View.{view}
use Rattle.neldrafi_schema.specs.Meaning.{error_of}
use Rattle.neldrafi_schema.specs.machine.Compiled.{header_of}
use Rattle.neldrafi_schema.specs.machine.Found.{Appended, kinds_of}
use Rattle.neldrafi_schema.proofs.collecting.push_kinds.Given as goal

abbrev pub invariant-loop-kind : goal.invariant-loop-kind
invariant-loop-kind l = Appended (λ es. es ≡ map (error_of (header_of l.header) l.visit.site.now l.keyword (view l.visit.instance.now)) (kinds_of l.yielded)) l.fn.errors.items l.errors.items
