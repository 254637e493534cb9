use Rattle.std.proofs.Common.{◌≡◌, ◌++◌, drop}
use Rattle.std.specs.List.{flat_map}
use Rattle.neldrafi_schema.specs.Resources.{document_identifiers, own_identifiers}
use Rattle.neldrafi_schema.specs.Settings.{document_of}
use Rattle.neldrafi_schema.specs.machine.Identifiers.{identifiers_of}
use Rattle.neldrafi_schema.specs.machine.Objects.{objects_of}
use Rattle.neldrafi_schema.specs.machine.Places.{documents_of}
use Rattle.neldrafi_schema.proofs.identifiers.push_of_document.Given as goal

-- the identifiers so far, and those of the schema objects that are left
abbrev pub invariant-loop-schema : goal.invariant-loop-schema
invariant-loop-schema l =
    identifiers_of l.found.items ++ flat_map (own_identifiers l.draft (documents_of l.documents)) (objects_of (drop l.schema-index l.schema-items))
    ≡ identifiers_of l.fn.found.items ++ document_identifiers l.draft (documents_of l.documents) l.number (document_of l.document)
