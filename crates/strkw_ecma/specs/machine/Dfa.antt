-- A table of the search: a row for each state that it can come to, and in a row a column for each
-- answer about a character, and behind those one for the end of the text. A row is told by the
-- place of its first entry.
use Rattle.std.specs.Prelude.{◌≡◌, ℕ, ◌+◌, ◌*◌, ◌/◌, ◌≤◌, ◌<◌, ◌==◌, Bool, true, false, List, []}
use Rattle.std.specs.Prelude.{◌∷◌, length, Vec, Option, Some, None, option_and_then, get_or}
use Rattle.std.specs.Prelude.{slice_get, if◌then◌else◌}
use Rattle.std.specs.declared.alloc.Global.{Global}
use Rattle.strkw_regex_core.specs.machine.MarkedPattern.{MarkedPattern}
use Rattle.strkw_regex_core.specs.Meaning.{is_word, is_edge}
use Rattle.strkw_regex_core.specs.machine.Positions.{leaves, step, mark_classes}
use Rattle.strkw_regex_search.specs.machine.Search.{search_from}
use Rattle.strkw_charset.specs.machine.CharClasses.{answers}
use Rattle.strkw_regex_core.specs.machine.Boundaries.{has_boundary}
use Rattle.strkw_ecma.specs.machine.Told.{Tells}
use Rattle.strkw_ecma.specs.declared.states.State.{State}
use Rattle.strkw_charset.specs.declared.tree.CharSet.{CharSet}
use Rattle.strkw_charset.specs.machine.Lists.{IsFront}

abbrev pub found_row : ℕ
found_row = 0xFFFF

-- the entry that leads to the row behind its own
abbrev pub next_row : ℕ
next_row = 0xFFFE

abbrev pub entry_at : List ℕ → ℕ → ℕ → ℕ
entry_at entries row column = get_or entries (row + column) 0

-- the row that an entry of a row leads to, where the last column has this number
abbrev pub row_after : ℕ → ℕ → ℕ → ℕ
row_after end row entry = if entry == next_row then row + (end + 1) else entry

-- The search by a table: an entry says that the pattern is found, or it leads to a row. It comes to
-- nothing where a character has no column.
abbrev pub walk : (ℕ → Option ℕ) → ℕ → List ℕ → ℕ → List ℕ → Option Bool
walk column end entries row [] = Some (entry_at entries row end == found_row)
walk column end entries row (c ∷ cs) =
    option_and_then
    (λ k. if entry_at entries row k == found_row then Some true
    else walk column end entries (row_after end row (entry_at entries row k)) cs)
    (column c)

-- the entry at a place leads to no row, or to one that is there, from whichever row has the entry
abbrev pub IsInside : ℕ → List ℕ → ℕ → Type 0
IsInside end entries i =
    (get_or entries i 0 < next_row → get_or entries i 0 + end < length entries)
    × (get_or entries i 0 ≡ next_row → i + 2 * end + 1 < length entries)

-- the first row is there, and so is each that an entry leads to
pub record AreInside (end : ℕ) (entries : List ℕ) : Type 0 where
  pub begins : end < length entries
  pub leads : (i : ℕ) → i < length entries → IsInside end entries i

-- what the search by this table comes to is what the search of the pattern does
abbrev pub Searches : (ℕ → Option ℕ) → ℕ → List ℕ → MarkedPattern → Type 0
Searches column end entries p = (text : List ℕ) (b : Bool) → walk column end entries 0 text ≡ Some b
    → b ≡ search_from p None text

-- the row stands for a state
abbrev pub IsRowOf : ℕ → List State → ℕ → State → Type 0
IsRowOf end states row s = (n : ℕ) × (row ≡ n * (end + 1)) × (slice_get states n ≡ Some s)

-- the state of the row has these marks, and stands behind a character that the pattern does not
-- tell from c
abbrev pub IsBehind : MarkedPattern → ℕ → List State → ℕ → List Bool → ℕ → Type 0
IsBehind p end states row ms c =
    (t : State) × IsRowOf end states row t × (t.marks.items ≡ ms)
    × (has_boundary p ≡ true → is_word t.last ≡ is_word (Some c)) × (is_edge t.last ≡ false)

-- the state of the number has these marks, and stands behind a character that the pattern does not
-- tell from c
abbrev pub IsStateOf : MarkedPattern → List State → ℕ → List Bool → ℕ → Type 0
IsStateOf p states n ms c =
    (t : State) × (slice_get states n ≡ Some t) × (t.marks.items ≡ ms)
    × (has_boundary p ≡ true → is_word t.last ≡ is_word (Some c)) × (is_edge t.last ≡ false)

-- the pattern with the marks of a state
abbrev pub marks_in : MarkedPattern → State → MarkedPattern
marks_in p s = mark_classes s.marks.items p

-- the entry of a row is right for a state of the search and the next character
pub record IsEntry (p : MarkedPattern) (end : ℕ) (states : List State) (s : State) (row c entry : ℕ)
    : Type 0 where
  pub finds : (entry == found_row) ≡ leaves s.last (Some c) (marks_in p s) true
  pub goes : leaves s.last (Some c) (marks_in p s) true ≡ false
      → (ms : List Bool) × (mark_classes ms p ≡ step s.last (Some c) (marks_in p s) true)
      × IsBehind p end states (row_after end row entry) ms c

-- the row is right for a state, and for the character that stands for each column
pub record IsRow (p : MarkedPattern) (samples entries : List ℕ) (states : List State) (s : State)
    (row : ℕ) : Type 0 where
  pub ends : (entry_at entries row (length samples) == found_row)
      ≡ leaves s.last None (marks_in p s) true
  pub reads : (k : ℕ) → k < length samples
      → IsEntry p (length samples) states s row (get_or samples k 0) (entry_at entries row k)

-- each row is right for its state
abbrev pub AreRows : MarkedPattern → List ℕ → List ℕ → List State → Type 0
AreRows p samples entries states =
    (row : ℕ) (s : State) → IsRowOf (length samples) states row s
    → IsRow p samples entries states s row

-- the states of the numbers below this have a row each, which is right
pub record IsDraft (p : MarkedPattern) (samples entries : List ℕ) (states : List State) (number : ℕ)
    : Type 0 where
  pub placed : length entries ≡ number * (length samples + 1)
  pub rows : (n : ℕ) → n < number
      → (s : State) × (slice_get states n ≡ Some s)
      × IsRow p samples entries states s (n * (length samples + 1))

-- behind the entries of a draft, so many are right for the state of the number
pub record AreEntries (p : MarkedPattern) (samples before after : List ℕ) (states later : List State)
    (number columns : ℕ) : Type 0 where
  pub entries_stay : IsFront before after
  pub states_stay : IsFront states later
  pub placed : length after ≡ length before + columns
  pub reads : (k : ℕ) → k < columns → (s : State) → slice_get states number ≡ Some s
      → (row : ℕ) → IsEntry p (length samples) later s row (get_or samples k 0)
      (entry_at after (length before) k)

-- two entries of a row say the same: that the pattern is found, or the row that they lead to
abbrev pub SaysSame : ℕ → ℕ → ℕ → ℕ → Type 0
SaysSame end row e f =
    ((e == found_row) ≡ (f == found_row)) × (row_after end row e ≡ row_after end row f)

-- two tables with as many columns say the same, entry by entry
abbrev pub SayTheSame : ℕ → List ℕ → List ℕ → Type 0
SayTheSame end es fs =
    (i : ℕ) → SaysSame end (i / (end + 1) * (end + 1)) (get_or es i 0) (get_or fs i 0)

-- the table is right, with a state for each row and a character for each column, for a pattern
pub record IsTable (classes : List (Vec CharSet Global)) (keys samples entries : List ℕ)
    (states : List State) (p : MarkedPattern) : Type 0 where
  pub few : length classes ≤ 64
  pub few_columns : length keys < 256
  pub told : Tells classes p
  pub lengths : length samples ≡ length keys
  pub sampled : (k : ℕ) → k < length keys → get_or keys k 0 ≡ answers 0 classes (get_or samples k 0)
  pub begins : (s : State) × (slice_get states 0 ≡ Some s)
      × ((k : ℕ) → get_or s.marks.items k false ≡ false) × (s.last ≡ None)
  pub rows : AreRows p samples entries states
