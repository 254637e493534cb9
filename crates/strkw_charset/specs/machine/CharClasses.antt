-- Columns of a table: characters about which the classes of a pattern give the same answers share
-- one.
use Rattle.std.specs.Prelude.{◌≡◌, ℕ, suc, ◌+◌, ◌*◌, ◌/◌, ◌%◌, ◌≤◌, ◌<◌, ◌==◌, List, [], ◌∷◌}
use Rattle.std.specs.Prelude.{length, drop, get_or, Vec, Option, Some, None, option_map}
use Rattle.std.specs.Prelude.{if◌then◌else◌}
use Rattle.std.specs.Char.{InScalarRange, IsScalar}
use Rattle.std.specs.Str.Pattern.{StartsWithChar}
use Rattle.std.specs.declared.alloc.Global.{Global}
use Rattle.strkw_charset.specs.Membership.{in_sets}
use Rattle.strkw_charset.specs.declared.pages.Pages.{Pages}
use Rattle.strkw_charset.specs.declared.tree.CharSet.{CharSet}

-- whether the sets of each class have the character, as digits behind those of n
abbrev pub answers : ℕ → List (Vec CharSet Global) → ℕ → ℕ
answers n [] c = n
answers n (k ∷ ks) c = answers (2 * n + (if in_sets k.items c then 1 else 0)) ks c

-- the first place of a number
abbrev pub place_of : List ℕ → ℕ → Option ℕ
place_of [] n = None
place_of (k ∷ ks) n = if k == n then Some 0 else option_map suc (place_of ks n)

-- the column of a character is the place of the answers about it, where they have one
abbrev pub column_of : List (Vec CharSet Global) → List ℕ → ℕ → Option ℕ
column_of classes keys c = place_of keys (answers 0 classes c)

-- of characters from 0 on, the columns
abbrev pub AreColumns : List (Vec CharSet Global) → List ℕ → List ℕ → Type 0
AreColumns classes keys columns = (c : ℕ) → c < length columns
    → column_of classes keys c ≡ Some (get_or columns c 0)

-- at a place of a text stands a character of so many bytes, which has this column
abbrev pub IsColumnAt : List (Vec CharSet Global) → List ℕ → List ℕ → ℕ → ℕ → ℕ → Type 0
IsColumnAt classes keys text place column width = (c : ℕ) × IsScalar c
    × StartsWithChar (drop place text) c width × (column_of classes keys c ≡ Some column)

-- from a code point up to an end the characters share a column
abbrev pub ShareColumn : List (Vec CharSet Global) → List ℕ → ℕ → ℕ → ℕ → Type 0
ShareColumn classes keys c end column = (d : ℕ) → c ≤ d → d < end → InScalarRange d
    → column_of classes keys d ≡ Some column

-- 64 code points are a page, which has a cell for each of them
abbrev pub cell_of : List ℕ → List (List ℕ) → ℕ → ℕ
cell_of pages cells c = get_or (get_or cells (get_or pages (c / 64) 0) []) (c % 64) 0

-- each page has cells, and in them each character its column
pub record ArePages (classes : List (Vec CharSet Global)) (keys pages : List ℕ)
    (cells : List (List ℕ)) : Type 0 where
  pub within : (k : ℕ) → k < length pages → get_or pages k 0 < length cells
  pub right : (c : ℕ) → c / 64 < length pages → InScalarRange c
      → column_of classes keys c ≡ Some (cell_of pages cells c)

-- the cells that are those of a column throughout, column by column
pub record ArePlain (keys plain : List ℕ) (cells : List (List ℕ)) : Type 0 where
  pub so_many : length plain ≡ length keys
  pub within : (k : ℕ) → k < length plain → get_or plain k 0 < length cells
  pub throughout : (k j : ℕ) → k < length plain → j < 64
      → get_or (get_or cells (get_or plain k 0) []) j 0 ≡ k

-- pages are being made, and columns with them
pub record ArePaged (classes : List (Vec CharSet Global)) (keys plain pages : List ℕ)
    (cells : List (List ℕ)) : Type 0 where
  pub few_columns : length keys < 256
  pub few_cells : length cells ≤ length keys + length pages
  pub are_plain : ArePlain keys plain cells
  pub are_pages : ArePages classes keys pages cells

-- the pages and columns that are made so far are right
abbrev pub IsPaged : List (Vec CharSet Global) → Pages → Type 0
IsPaged classes made =
    ArePaged classes made.keys.items made.plain.items made.pages.items made.cells.items

-- they are, and there are fewer pages than there will be
pub record MayGrow (classes : List (Vec CharSet Global)) (made : Pages) : Type 0 where
  pub few : length classes ≤ 64
  pub few_pages : length made.pages.items < 17408
  pub paged : IsPaged classes made

-- the answers tell whether a character is in these sets
abbrev pub TellsSets : List (Vec CharSet Global) → List CharSet → Type 0
TellsSets classes rs = (c d : ℕ) → answers 0 classes c ≡ answers 0 classes d
    → in_sets rs c ≡ in_sets rs d
