-- What follows of the values of a record.
use Rattle.std.proofs.Common.{◌≡◌, ◌∙◌, ◌++◌, ℕ, List, [], ◌∷◌, map, Option, Some, None, sym}
use Rattle.neldrafi_csv.specs.Records.{IsMisplaced}

not-both : (whole others : List (List ℕ)) (behind : List (Option (List ℕ)))
    → map (λ value. Some value) whole ≡ map (λ value. Some value) others ++ (None ∷ behind) → ⊥
not-both [] [] behind e = cc e
not-both [] (x ∷ others) behind e = cc e
not-both (w ∷ whole) [] behind e = cc e
not-both (w ∷ whole) (x ∷ others) behind e = not-both whole others behind cc

-- a quote is misplaced, or none is
pub misplaced-or-none : (values : List (Option (List ℕ))) (number : ℕ) → IsMisplaced values None → IsMisplaced values (Some number) → ⊥
misplaced-or-none values number (whole, is) (others, behind, splits, counts) = not-both whole others behind (sym is ∙ splits)
