-- The texts that the code has.
use Rattle.std.specs.Prelude.{ℕ, List, [], ◌∷◌, ◌++◌, map, Option, Some, None, option_map}
use Rattle.std.specs.Borrow.{Bor}
use Rattle.neldrafi_uri.specs.declared.components.Components.{Components as FoundComponents}
use Rattle.neldrafi_uri.specs.Components.{Components}
use Rattle.neldrafi_uri.specs.Resolution.{without_dots}

abbrev pub texts : List (Bor (List ℕ)) → List (List ℕ)
texts ts = map (λ t. t.now) ts

abbrev pub text_in : Option (Bor (List ℕ)) → Option (List ℕ)
text_in o = option_map (λ t. t.now) o

abbrev pub components_in : FoundComponents → Components
components_in c = record {
  scheme = text_in c.scheme;
  authority = text_in c.authority;
  path = c.path.now;
  query = text_in c.query;
}

-- the path of segments that begin with neither `.` nor `..`
abbrev pub begun : List (List ℕ) → List ℕ
begun [] = []
begun (s ∷ segments) = without_dots s [] segments

-- a component, if there is one, between two texts
abbrev pub around : List ℕ → Option (List ℕ) → List ℕ → List ℕ
around before (Some component) behind = before ++ component ++ behind
around before None behind = []
