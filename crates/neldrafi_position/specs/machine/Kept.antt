-- What the code keeps of a text: offsets in bytes at which values begin.
use Rattle.std.specs.Prelude.{◌≡◌, ℕ, List, IfSome, Option, Vec, drop, map, option_map}
use Rattle.std.specs.BTreeMap.{BTreeMap, get, get_by}
use Rattle.std.specs.Cmp.Lexicographic.{slice_cmp}
use Rattle.std.specs.declared.alloc.Global.{Global}
use Rattle.std.specs.List.{All}
use Rattle.std.specs.Ordering.{nat_cmp}
use Rattle.std.specs.Str.{IsCharBoundary}
use Rattle.neldrafi_position.specs.Parts.{behind_space, elements, parts}
use Rattle.neldrafi_position.specs.Places.{last_named}

-- where the value begins that is behind the white space in front of a rest of a text
pub record IsStart (text rest : List ℕ) (start : ℕ) : Type 0 where
  pub cut : IsCharBoundary text start
  pub same : drop start text ≡ behind_space rest

-- the same, or none if there is no such rest
pub record AreStarts (text : List ℕ) (found : Option ℕ) (rest : Option (List ℕ)) : Type 0 where
  pub cut : IfSome found (IsCharBoundary text)
  pub same : option_map (λ start. drop start text) found ≡ option_map behind_space rest

-- where the elements begin of an array whose text begins at an offset, behind the bracket
pub record AreElements (text : List ℕ) (inside : ℕ) (starts : List ℕ) : Type 0 where
  pub cut : All (IsCharBoundary text) starts
  pub same : map (λ start. drop start text) starts ≡ map behind_space (elements (drop inside text))

abbrev pub start_named : BTreeMap (Vec ℕ Global) ℕ → List ℕ → Option ℕ
start_named starts name = get_by (λ key. slice_cmp nat_cmp name key.items) starts

-- where the last member of each name begins, of an object whose text begins at an offset, behind the brace
pub record AreMembers (text : List ℕ) (inside : ℕ) (starts : BTreeMap (Vec ℕ Global) ℕ) : Type 0 where
  pub named : (name : List ℕ)
      → AreStarts text (start_named starts name) (last_named name (parts (drop inside text)))

-- what is kept of the containers that were passed over, by where their texts begin
pub record AreKept (text : List ℕ) (root : ℕ) (elements : BTreeMap ℕ (Vec ℕ Global))
    (members : BTreeMap ℕ (BTreeMap (Vec ℕ Global) ℕ)) : Type 0 where
  pub whole : IsStart text text root
  pub arrays : (inside : ℕ)
      → IfSome (get nat_cmp elements inside) (λ starts. AreElements text inside starts.items)
  pub objects : (inside : ℕ) → IfSome (get nat_cmp members inside) (AreMembers text inside)
