-- Where the code stands in a text.
use Rattle.std.specs.Prelude.{◌≡◌, ℕ, ◌≤◌, List, ◌∷◌, ◌++◌, length, drop}
use Rattle.std.specs.Str.{IsUtf8}
use Rattle.neldrafi_position.specs.Parts.{behind_separators, in_escape, in_string}
use Rattle.neldrafi_position.specs.declared.parts.Within.{Within}
use Rattle.neldrafi_position.specs.declared.parts.Within.TheVariants.{Escape, Parts, String}

-- a text that is the end of another
pub record EndOf (text rest : List ℕ) : Type 0 where
  pub passed : ℕ
  pub within : passed ≤ length text
  pub rest_is : rest ≡ drop passed text
  pub utf8 : IsUtf8 rest

-- the texts behind the commas and colons that are left, from outside strings or from within one
abbrev pub parts_left : Within → ℕ → List ℕ → List (List ℕ)
parts_left Parts depth text = behind_separators depth text
parts_left String depth text = in_string depth text
parts_left Escape depth text = in_escape depth text

-- a text that is a part, a comma or colon, and the rest
pub record Cut (text front rest : List ℕ) : Type 0 where
  pub mark : ℕ
  pub front_utf8 : IsUtf8 front
  pub end : EndOf text rest
  pub joined : text ≡ front ++ mark ∷ rest
  pub others : behind_separators 0 text ≡ rest ∷ behind_separators 0 rest
