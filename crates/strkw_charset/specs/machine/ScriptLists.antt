-- The lists of scripts in ScriptExtensions.txt, and which of them a code point has.
use Rattle.std.specs.Prelude.{ℕ, ◌+◌, ◌<◌, ◌≤◌, List, [], ◌∷◌, ◌++◌, length, if◌then◌else◌}
use Rattle.std.specs.Prelude.{slice_index, slice_range}
use Rattle.std.specs.List.{list_any, flat_map}
use Rattle.std.specs.Cmp.Lexicographic.{pointwise}
use Rattle.ucd_table.specs.Rows.{Row}
use Rattle.ucd_script.specs.declared.Script.{Script}
use Rattle.ucd_script.specs.Script.{script_eq}
use Rattle.ucd_script.specs.ScriptExtensionRows.{script_extension_rows}
use Rattle.ucd_script.specs.ScriptExtensions.{listed_scripts}

-- the place of a list among some
unfoldable pub place_in : List (List Script) → List Script → ℕ
place_in [] list = 0
place_in (l ∷ ls) list = if pointwise script_eq l list then 0 else place_in ls list + 1

-- with each list of some rows that is not there yet behind the others
unfoldable pub with_lists : List (List Script) → List (Row (List Script)) → List (List Script)
with_lists ls [] = ls
with_lists ls (r ∷ rs) =
    with_lists (if list_any (pointwise script_eq r.2) ls then ls else ls ++ r.2 ∷ []) rs

-- each list of the table once, behind the empty one
unfoldable pub lists : List (List Script)
lists = with_lists ([] ∷ []) script_extension_rows

-- the place of the list of a code point
unfoldable pub list_number : ℕ → ℕ
list_number c = place_in lists (listed_scripts c)

-- the scripts of all lists, one list behind another
unfoldable pub list_scripts : List Script
list_scripts = flat_map (λ list. list) lists

-- where each list begins if the first one does at n, and where the last one ends
unfoldable pub starts_from : ℕ → List (List Script) → List ℕ
starts_from n [] = n ∷ []
starts_from n (l ∷ ls) = n ∷ starts_from (n + length l) ls

-- where each list begins among the scripts of all, and where the last one ends
unfoldable pub list_starts : List ℕ
list_starts = starts_from 0 lists

-- the list with a number: the scripts from where it begins to where the next one does
abbrev pub list_numbered : ℕ → List Script
list_numbered n =
    slice_range list_scripts (slice_index list_starts n) (slice_index list_starts (n + 1))

-- there is a list with that number
pub record HasList (n : ℕ) : Type 0 where
  pub listed : n + 1 < length list_starts
  pub ordered : slice_index list_starts n ≤ slice_index list_starts (n + 1)
  pub within : slice_index list_starts (n + 1) ≤ length list_scripts
