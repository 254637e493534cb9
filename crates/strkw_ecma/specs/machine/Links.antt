-- How the classes of a chain are looked up.
use Rattle.std.specs.Prelude.{◌≡◌, ℕ, ◌<◌, nat_lt, Bool, true, false, ◌&&◌, List, [], ◌∷◌, length}
use Rattle.std.specs.Prelude.{get_or, slice_get, Option, Some}
use Rattle.strkw_regex_search.specs.machine.Machine.{class_reads}
use Rattle.strkw_regex_search.specs.declared.code.Class.{Class}

-- a text begins with a character of each of the classes of these numbers, one behind another
abbrev pub begins_with : List Class → List ℕ → List ℕ → Bool
begins_with classes [] text = true
begins_with classes (n ∷ ns) [] = false
begins_with classes (n ∷ ns) (c ∷ cs) =
    class_reads (Some c) (slice_get classes n) && begins_with classes ns cs

-- a table tells of each character of ASCII whether a class has it
abbrev pub IsTableOf : Option Class → List Bool → Type 0
IsTableOf class table = (b : ℕ) → b < 128 → get_or table b false ≡ class_reads (Some b) class

-- each number is less than this
abbrev pub are_below : ℕ → List ℕ → Bool
are_below n [] = true
are_below n (m ∷ ms) = nat_lt m n && are_below n ms

-- there is one for each class
pub record AreTables (classes : List Class) (tables : List (List Bool)) : Type 0 where
  pub so_many : length tables ≡ length classes
  pub right : (n : ℕ) (table : List Bool) → slice_get tables n ≡ Some table
      → IsTableOf (slice_get classes n) table
