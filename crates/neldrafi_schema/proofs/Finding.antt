-- Members of an object that are found by their names, and values that are found by their paths.
use Rattle.std.proofs.Common.{◌≡◌, ◌⊎◌, ◌∙◌, ℕ, suc, List, [], ◌∷◌, ◌++◌, String, Global, Option, Some, None, inl, inr, refl, sym, ap, subst, arith, string_bytes}
use Rattle.std.specs.BTreeMap.{is_at}
use Rattle.std.specs.List.{All}
use Rattle.std.specs.Map.{lookup}
use Rattle.std.specs.Prelude.{option_and_then, option_map}
use Rattle.std.specs.String.{string_cmp}
use Rattle.serde_json.specs.Data.{Data, Members, no_members, member}
use Rattle.serde_json.specs.Find.{get_member}
use Rattle.serde_json.specs.View.{members_view, view}
use Rattle.serde_json.specs.declared.value.Value.{Value}
use Rattle.serde_json.proofs.Views.{view-lookup}
use Rattle.neldrafi_schema.specs.Documents.{Document, Documents, document_at, value_in}
use Rattle.neldrafi_schema.specs.Paths.{Path, Segment, key, place, document, child, value_at}

-- ---- members

abbrev pub IsAmong : List ℕ → Data → Members → Type 0
IsAmong name d no_members = ⊥
IsAmong name d (member own e ms) = ((own ≡ name) × (e ≡ d)) ⊎ IsAmong name d ms

-- where each of some entries is found in a map, so is each member that they stand for
pub all_found : (all es : List (String Global × Value)) → All (λ e. lookup (is_at (string_cmp e.0)) all ≡ Some e.1) es
    → (name : List ℕ) (d : Data) → IsAmong name d (members_view es) → get_member name (members_view all) ≡ Some d
all_found all [] found name d is = absurd is
all_found all (e ∷ es) found name d (inl (same, is)) =
    subst (λ n. get_member n (members_view all) ≡ Some d) same
    (sym (view-lookup (string_bytes e.0) all) ∙ ap (option_map view) (found 0 e (omega arith)) ∙ ap Some is)
all_found all (e ∷ es) found name d (inr later) = all_found all es (λ k x lt. found (suc k) x (omega arith)) name d later

-- ---- paths

value_at-append : (root below : Path) (d : Data) → value_at (root ++ below) d ≡ option_and_then (value_at below) (value_at root d)
value_at-append [] below d = refl
value_at-append (s ∷ root) below d = further (child s d) (value_at-append root below) where
  further : (o : Option Data) → ((d : Data) → value_at (root ++ below) d ≡ option_and_then (value_at below) (value_at root d))
      → option_and_then (value_at (root ++ below)) o ≡ option_and_then (value_at below) (option_and_then (value_at root) o)
  further None each = refl
  further (Some d) each = each d

-- what a path leads to from the value at another one
value_along : (root below : Path) (d v w : Data) → value_at root d ≡ Some v → value_at below v ≡ Some w → value_at (root ++ below) d ≡ Some w
value_along root below d v w there found = value_at-append root below d ∙ ap (option_and_then (value_at below)) there ∙ found

-- the same in one of several documents
pub value_behind : (root below : Path) (documents : Documents) (d v : Data) → value_in documents root ≡ Some d → value_at below d ≡ Some v
    → value_in documents (root ++ below) ≡ Some v
value_behind [] below documents d v there found = cc
value_behind (key name ∷ root) below documents d v there found = cc
value_behind (place n ∷ root) below documents d v there found = cc
value_behind (document n ∷ root) below documents d v there found = by (document_at documents n) there where
  by : (o : Option Document) → option_and_then (λ x. value_at root x.value) o ≡ Some d → option_and_then (λ x. value_at (root ++ below) x.value) o ≡ Some v
  by None there = cc
  by (Some x) there = value_along root below x.value d v there found

one_step : (s : Segment) (d v : Data) → child s d ≡ Some v → value_at (s ∷ []) d ≡ Some v
one_step s d v found = ap (option_and_then (value_at [])) found

-- what is at a step of a value stands below it, in the documents
pub value_below : (path : Path) (documents : Documents) (s : Segment) (d v : Data) → value_in documents path ≡ Some d → child s d ≡ Some v
    → value_in documents (path ++ s ∷ []) ≡ Some v
value_below path documents s d v there found = value_behind path (s ∷ []) documents d v there (one_step s d v found)

-- and in a value
pub value_inside : (path : Path) (whole : Data) (s : Segment) (d v : Data) → value_at path whole ≡ Some d → child s d ≡ Some v
    → value_at (path ++ s ∷ []) whole ≡ Some v
value_inside path whole s d v there found = value_along path (s ∷ []) whole d v there (one_step s d v found)
