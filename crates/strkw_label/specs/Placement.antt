-- A text from its insertions (RFC 3492 section 3.2).
use Rattle.std.specs.Prelude.{ℕ, List, [], ◌∷◌, insert}
use Rattle.strkw_label.specs.Punycode.{Insertion}

-- each insertion in turn
unfoldable pub place_all : List ℕ → List Insertion → List ℕ
place_all text [] = text
place_all text (x ∷ xs) = place_all (insert text x.place x.point) xs
