-- The places of a document, as they are found.
use Rattle.std.specs.Prelude.{◌≡◌, ◌++◌, ℕ, List, map, Some, String, slice_get, string_bytes}
use Rattle.std.specs.List.{AllByRecursion}
use Rattle.std.specs.declared.alloc.Global.{Global}
use Rattle.serde_json.specs.Data.{Data}
use Rattle.serde_json.specs.View.{view}
use Rattle.neldrafi_schema.specs.declared.places.Place.{Place}
use Rattle.neldrafi_schema.specs.declared.places.Places.{Places}
use Rattle.neldrafi_schema.specs.declared.places.ScopedPlace.{ScopedPlace}
use Rattle.neldrafi_schema.specs.declared.documents.Documents.{Documents as GivenDocuments}
use Rattle.neldrafi_schema.specs.Documents.{Documents, value_in}
use Rattle.neldrafi_schema.specs.Paths.{Path, value_at}
use Rattle.neldrafi_schema.specs.Reading.{paths_in}
use Rattle.neldrafi_schema.specs.Scopes.{Scope, ScopedPath}
use Rattle.neldrafi_schema.specs.Settings.{document_of}
use Rattle.neldrafi_schema.specs.machine.Compiled.{path_of}

abbrev pub place_path : Place → Path
place_path p = path_of p.path.items

abbrev pub scope_of : List (String Global) → Scope
scope_of scope = map string_bytes scope

abbrev pub scoped_path : ScopedPlace → ScopedPath
scoped_path p = record { scope = scope_of p.scope.items; path = place_path p.place }

abbrev pub scoped_paths : List ScopedPlace → List ScopedPath
scoped_paths places = map scoped_path places

abbrev pub paths_of : List ScopedPlace → List Path
paths_of places = paths_in (scoped_paths places)

-- new is old, and maybe more behind it
pub record Extends (old new : List ScopedPath) : Type 0 where
  pub more : List ScopedPath
  pub longer : new ≡ old ++ more

-- however many more places are found, this number stands for this path
abbrev pub StaysAt : List ScopedPath → ℕ → Scope → Path → Type 0
StaysAt paths n scope path = (all : List ScopedPath) → Extends paths all
    → slice_get all n ≡ Some (record { scope = scope; path = path })

abbrev pub documents_of : GivenDocuments → Documents
documents_of d = record { schema = view d.schema.now; further = map document_of d.further.now }

abbrev pub IsPlace : Documents → Place → Type 0
IsPlace documents p = value_in documents (place_path p) ≡ Some (view p.value.now)

-- the same, from a value on
abbrev pub IsBelow : Data → Place → Type 0
IsBelow d p = value_at (place_path p) d ≡ Some (view p.value.now)

-- each value is the documents' at its path
pub record IsTable (t : Places) : Type 0 where
  pub values : AllByRecursion (λ p. IsPlace (documents_of t.documents) p.place) t.places.items

pub record Grown (old new : Places) : Type 0 where
  pub documents : documents_of new.documents ≡ documents_of old.documents
  pub extends : Extends (scoped_paths old.places.items) (scoped_paths new.places.items)
  pub table : IsTable new
