use Rattle.std.proofs.Common.{◌≡◌, ◌+◌, ◌++◌, drop, map}
use Rattle.neldrafi_schema.specs.Resources.{all_identifiers, further_identifiers}
use Rattle.neldrafi_schema.specs.Settings.{document_of}
use Rattle.neldrafi_schema.specs.machine.Identifiers.{identifiers_of}
use Rattle.neldrafi_schema.specs.machine.Places.{documents_of}
use Rattle.neldrafi_schema.proofs.identifiers.all_identifiers.Given as goal

-- the identifiers so far, and those of the further documents that are left
abbrev pub invariant-loop-place : goal.invariant-loop-place
invariant-loop-place l = identifiers_of l.found.items ++ further_identifiers l.draft (documents_of l.documents) (l.place + 1) (map document_of (drop l.place l.documents.further.now))
    ≡ all_identifiers l.draft (documents_of l.documents)
