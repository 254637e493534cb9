-- Searches in which marks are told: for each place of a text, by the rows of answers of others,
-- which were put from its other end on.
use Rattle.std.specs.Prelude.{ℕ, suc, get_or, Bool, true, false, ◌||◌, List, [], ◌∷◌, ◌++◌, length}
use Rattle.std.specs.Prelude.{Option, Some, None}
use Rattle.strkw_regex_core.specs.machine.MarkedPattern.{MarkedPattern}
use Rattle.strkw_regex_core.specs.machine.Mirror.{along}
use Rattle.strkw_regex_search.specs.machine.OracleMarks.{told_by}
use Rattle.strkw_regex_core.specs.machine.Positions.{leaves, step}

-- a pattern that is looked for along a text, or from its end on, and by which rows its marks are
-- told
pub record Seeking : Type 0 where
  pub backward : Bool
  pub pattern : MarkedPattern
  pub told : List (Option ℕ)

-- what the row of this number says, where so many characters are still to come
abbrev pub row_answer : List (List Bool) → ℕ → ℕ → Bool
row_answer rows ahead k = get_or (get_or rows k []) ahead false

-- Behind the character `last`, and before the rest of a text.
module _ (rows : List (List Bool)) (ts : List (Option ℕ)) where
  -- at each place, whether the pattern ends there
  abbrev pub ends_from : MarkedPattern → Option ℕ → List ℕ → List Bool
  ends_from p last [] = leaves last None (told_by (row_answer rows 0) ts p) true ∷ []
  ends_from p last (c ∷ cs) =
      let q = told_by (row_answer rows (suc (length cs))) ts p in
      leaves last (Some c) q true ∷ ends_from (step last (Some c) q true) (Some c) cs

  -- whether it does at one
  abbrev pub ends_within : MarkedPattern → Option ℕ → List ℕ → Bool
  ends_within p last [] = leaves last None (told_by (row_answer rows 0) ts p) true
  ends_within p last (c ∷ cs) =
      let q = told_by (row_answer rows (suc (length cs))) ts p in
      leaves last (Some c) q true || ends_within (step last (Some c) q true) (Some c) cs

-- the answers of a search along a text
abbrev pub row_of : List (List Bool) → List ℕ → Seeking → List Bool
row_of rows text x = ends_from rows x.told x.pattern None (along x.backward text)

-- those of some, each told by those before it, behind others
abbrev pub rows_behind : List (List Bool) → List ℕ → List Seeking → List (List Bool)
rows_behind rows text [] = rows
rows_behind rows text (x ∷ xs) = rows_behind (rows ++ (row_of rows text x ∷ [])) text xs

-- the last is found, told by the others
abbrev pub is_sought : List Seeking → Seeking → List ℕ → Bool
is_sought xs x text =
    ends_within (rows_behind [] text xs) x.told x.pattern None (along x.backward text)
