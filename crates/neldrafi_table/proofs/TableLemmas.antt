-- The first record of a table.
use Rattle.std.proofs.Common.{◌≡◌, ℕ, List, Option, Some, None, false, sym, subst}
use Rattle.std.specs.Prelude.{IfSome, is_none}
use Rattle.neldrafi_csv.specs.Lines.{first_place}
use Rattle.neldrafi_csv.specs.Marks.{without_mark}
use Rattle.neldrafi_csv.specs.Reading.{IsAtStart}
use Rattle.neldrafi_table.specs.declared.rows.Rows.{Rows}
use Rattle.neldrafi_table.specs.Reading.{HasLeft, IsLeftBy}

-- what is said of a value that is there
pub of_some : {A : Type 0} (o : Option A) (P : A → Type 0) → IfSome o P → is_none o ≡ false → (a : A) × P a
of_some None P h is = cc is
of_some (Some a) P h is = (a, h)

module _ {R : Type 0} (rem : R → Option (List ℕ)) where
  -- at the start of a file the rows have left its text without a mark
  pub left_at_start : (file : R) (delimiter : ℕ) (rows : Rows R) (text : List ℕ) → rows.ahead ≡ None → IsAtStart rem file delimiter rows.reader
      → rem file ≡ Some text → HasLeft rem rows first_place (without_mark text)
  left_at_start file delimiter rows text none at is =
      subst (λ ahead. IsLeftBy rem rows.reader ahead first_place (without_mark text)) (sym none) (at.place, rw is at at.text)
