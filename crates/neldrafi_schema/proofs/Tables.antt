-- Places that are found.
use Rattle.std.proofs.Common.{◌≡◌, ℕ, ◌<◌, List, [], ◌∷◌, ◌++◌, length, get_or, ap, ◌∙◌, refl, sym, subst, Some, Vec, Global, arith}
use Rattle.std.specs.Prelude.{option_map, slice_get}
use Rattle.std.proofs.lemmas.Option.{slice_get-get_or, slice_get-map}
use Rattle.std.proofs.lemmas.List.{length-map, map-append}
use Rattle.std.specs.List.{AllByRecursion}
use Rattle.std.proofs.Math.Path.{ap₂}
use Rattle.neldrafi_schema.specs.declared.places.ScopedPlace.{ScopedPlace}
use Rattle.neldrafi_schema.specs.Scopes.{Scope}
use Rattle.neldrafi_schema.specs.declared.places.Places.{Places}
use Rattle.neldrafi_schema.specs.Paths.{Path}
use Rattle.neldrafi_schema.specs.machine.Places.{Grown, IsPlace, IsTable, StaysAt, documents_of, paths_of, place_path, scope_of, scoped_path, scoped_paths}
use Rattle.neldrafi_schema.proofs.Keeping.{all_more, extends_both, extends_itself, stays}
use Rattle.neldrafi_schema.proofs.Lists.{there}

-- the path of a place that was read, with its scope, and that there is one
pub scoped_there : (places : List ScopedPlace) (i : ℕ) (p : ScopedPlace) → i < length places → p ≡ get_or places i p
    → slice_get (scoped_paths places) i ≡ Some (scoped_path p)
scoped_there places i p h is = slice_get-map scoped_path places i ∙ ap (option_map scoped_path) (there places i p h is)

pub path_there : (places : List ScopedPlace) (i : ℕ) (p : ScopedPlace) → i < length places → p ≡ get_or places i p
    → slice_get (paths_of places) i ≡ Some (place_path p.place)
path_there places i p h is = slice_get-map (λ at. at.path) (scoped_paths places) i ∙ ap (option_map (λ at. at.path)) (scoped_there places i p h is)

pub paths_count : (places : List ScopedPlace) → length (paths_of places) ≡ length places
paths_count places = length-map (scoped_paths places) (λ at. at.path) ∙ length-map places scoped_path

pub some_path : (places : List ScopedPlace) (i : ℕ) → i < length places → slice_get (paths_of places) i ≡ Some (get_or (paths_of places) i [])
some_path places i h = slice_get-get_or (paths_of places) i [] (omega (arith, h, paths_count places))

pub grown_itself : (t : Places) → IsTable t → Grown t t
grown_itself t table = record { documents = refl; extends = extends_itself (scoped_paths t.places.items); table = table }

pub grown_both : (a b c : Places) → Grown a b → Grown b c → Grown a c
grown_both a b c p q = record {
  documents = q.documents ∙ p.documents;
  extends = extends_both (scoped_paths a.places.items) (scoped_paths b.places.items) (scoped_paths c.places.items) p.extends q.extends;
  table = q.table;
}

-- one place more
pub grown_push : (t : Places) (ps : Vec ScopedPlace Global) (p : ScopedPlace) → IsTable t → IsPlace (documents_of t.documents) p.place → ps.items ≡ t.places.items ++ p ∷ []
    → Grown t (record { documents = t.documents; places = ps })
grown_push t ps p table is e = record {
  documents = refl;
  extends = record {
    more = scoped_path p ∷ [];
    longer = ap scoped_paths e ∙ map-append scoped_path t.places.items (p ∷ []);
  };
  table = record {
    values = subst (AllByRecursion (λ p. IsPlace (documents_of t.documents) p.place)) (sym e)
        (all_more (λ p. IsPlace (documents_of t.documents) p.place) t.places.items p table.values is);
  };
}

-- a place that is there stays
pub place_stays : (places : List ScopedPlace) (i : ℕ) (p : ScopedPlace) (scope : Scope) (path : Path) → i < length places → p ≡ get_or places i p
    → scope_of p.scope.items ≡ scope → place_path p.place ≡ path → StaysAt (scoped_paths places) i scope path
place_stays places i p scope path h is same_scope same_path = λ all extends.
    let at : scoped_path p ≡ record { scope = scope; path = path } = ap₂ (λ scope path. record { scope = scope; path = path }) same_scope same_path in
    stays (scoped_paths places) all i _ extends (scoped_there places i p h is ∙ ap Some at)
