-- The identifiers of a document, as the code has them.
use Rattle.std.specs.Prelude.{◌≡◌, List, map, string_bytes}
use Rattle.neldrafi_schema.specs.declared.identifiers.Anchor.{Anchor as FoundAnchor}
use Rattle.neldrafi_schema.specs.declared.identifiers.Identifier.{Identifier as FoundIdentifier}
use Rattle.neldrafi_schema.specs.declared.places.Places.{Places}
use Rattle.neldrafi_schema.specs.declared.references.Library.{Library}
use Rattle.neldrafi_schema.specs.Resources.{Anchor, Identifier, all_identifiers}
use Rattle.neldrafi_schema.specs.machine.Compiled.{path_of}
use Rattle.neldrafi_schema.specs.machine.Places.{documents_of}

abbrev pub identifier_of : FoundIdentifier → Identifier
identifier_of i = record {
  uri = string_bytes i.uri;
  anchor = string_bytes i.anchor;
  is_dynamic = i.is_dynamic;
  path = path_of i.path.items;
}

abbrev pub anchor_of : FoundAnchor → Anchor
anchor_of a = (a.name.now, a.is_dynamic)

abbrev pub identifiers_of : List FoundIdentifier → List Identifier
identifiers_of is = map identifier_of is

-- it has the identifiers of its documents
abbrev pub IsLibrary : Library → Type 0
IsLibrary l = identifiers_of l.identifiers.items
    ≡ all_identifiers l.draft (documents_of l.documents)

-- and its documents are those of the places
pub record IsLibraryOf (l : Library) (t : Places) : Type 0 where
  pub identifiers : IsLibrary l
  pub documents : documents_of t.documents ≡ documents_of l.documents
