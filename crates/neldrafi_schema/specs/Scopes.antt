-- Dynamic scopes (Core 2020-12, sections 7.1 and 8.2.3.2; 2019-09, Core, section 8.2.4.2).
use Rattle.std.specs.Prelude.{ℕ, List, [], ◌∷◌, ◌++◌, Bool, not, ◌&&◌, Option, Some, None}
use Rattle.std.specs.Prelude.{if◌then◌else◌, is_some, unwrap_or}
use Rattle.std.specs.List.{list_any}
use Rattle.std.specs.Str.{bytes_eq}
use Rattle.strkw_report.specs.declared.draft.Draft.{Draft}
use Rattle.neldrafi_schema.specs.Documents.{Documents}
use Rattle.neldrafi_schema.specs.Paths.{Path}
use Rattle.neldrafi_schema.specs.Resources.{Identifier, all_identifiers, base_among}

-- the resources that are entered on the way to a schema, outermost first, by their URIs
abbrev pub Scope : Type 0
Scope = List (List ℕ)

-- a schema, and the scope from which it is entered
pub record ScopedPath : Type 0 where
  pub scope : Scope
  pub path : Path

-- whether an identifier is a dynamic anchor of this name, in the resource of a URI
abbrev pub is_dynamic_anchor : List ℕ → List ℕ → Identifier → Bool
is_dynamic_anchor name uri i = i.is_dynamic && bytes_eq uri i.uri && bytes_eq name i.anchor

abbrev pub has_dynamic : List Identifier → List ℕ → List ℕ → Bool
has_dynamic ids name uri = list_any (is_dynamic_anchor name uri) ids

-- the outermost resource of a scope that has one
abbrev pub outermost : List Identifier → List ℕ → Scope → Option (List ℕ)
outermost ids name [] = None
outermost ids name (uri ∷ scope) = if has_dynamic ids name uri then Some uri else outermost ids name scope

-- whether the resource of a URI has a dynamic anchor that no resource of the scope has
abbrev pub is_added : List Identifier → Scope → List ℕ → Identifier → Bool
is_added ids scope uri i =
    i.is_dynamic && bytes_eq uri i.uri && not (is_some (outermost ids i.anchor scope))

abbrev pub adds_anchor : List Identifier → Scope → List ℕ → Bool
adds_anchor ids scope uri = list_any (is_added ids scope uri) ids

-- The scope in the resource of a URI. A resource is left out where no reference can lead to it, since
-- each of its dynamic anchors is in one further out.
abbrev pub entered_by : List Identifier → Scope → List ℕ → Scope
entered_by ids scope uri = if adds_anchor ids scope uri then scope ++ uri ∷ [] else scope

-- the scope in the schema at a path
abbrev pub entered : Draft → Documents → Scope → Path → Scope
entered draft documents scope path =
    entered_by (all_identifiers draft documents) scope (base_among draft documents path)

-- The resource to which a reference leads, by the resource and the plain name that it has: if that
-- resource has a dynamic anchor of this name, the outermost one that has, and else itself.
abbrev pub dynamic_resource : List Identifier → Scope → List ℕ → List ℕ → List ℕ
dynamic_resource ids scope name uri =
    if has_dynamic ids name uri then unwrap_or (outermost ids name scope) uri else uri
