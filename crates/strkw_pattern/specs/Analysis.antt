-- What the analysis of a literal pattern answers.
use Rattle.std.specs.Prelude.{◌≡◌, ℕ, List, map, IsPermutation}
use Rattle.std.specs.List.Sorted.{IsSorted}
use Rattle.std.specs.Ordering.{nat_cmp}
use Rattle.std.specs.Cmp.Lexicographic.{slice_cmp}
use Rattle.std.specs.String.{string_bytes}
use Rattle.strkw_pattern.specs.Literal.{Item, AreItems, AreAlternatives, text_of, spelling, prefix}
use Rattle.strkw_pattern.specs.Literal.{exact, alternation, no_whitespace}
use Rattle.strkw_pattern.specs.declared.literal.PatternOptimization.{PatternOptimization}
use Rattle.strkw_pattern.specs.declared.literal.PatternOptimization.TheVariants.{Prefix, Exact}
use Rattle.strkw_pattern.specs.declared.literal.PatternOptimization.TheVariants.{Alternation}
use Rattle.strkw_pattern.specs.declared.literal.PatternOptimization.TheVariants.{NoWhitespace}

-- the same texts, each as often, in the order of their bytes
pub record IsSortedGroup (texts sorted : List (List ℕ)) : Type 0 where
  pub same : IsPermutation texts sorted
  pub ordered : IsSorted (slice_cmp nat_cmp) sorted

-- the pattern is literal, and this is its kind and its text
abbrev pub IsAnalysis : List ℕ → PatternOptimization → Type 0
IsAnalysis pattern (Prefix s) = (xs : List Item) × AreItems xs × (pattern ≡ spelling (prefix xs))
    × (string_bytes s ≡ text_of xs)
IsAnalysis pattern (Exact s) = (xs : List Item) × AreItems xs × (pattern ≡ spelling (exact xs))
    × (string_bytes s ≡ text_of xs)
IsAnalysis pattern (Alternation v) = (xss : List (List Item)) × AreAlternatives xss
    × (pattern ≡ spelling (alternation xss))
    × IsSortedGroup (map text_of xss) (map string_bytes v.items)
IsAnalysis pattern NoWhitespace = pattern ≡ spelling no_whitespace

-- two analyses of one kind, with the same texts in the same order
abbrev pub SameAnalysis : PatternOptimization → PatternOptimization → Type 0
SameAnalysis (Prefix s) (Prefix t) = string_bytes s ≡ string_bytes t
SameAnalysis (Exact s) (Exact t) = string_bytes s ≡ string_bytes t
SameAnalysis (Alternation v) (Alternation w) = map string_bytes v.items ≡ map string_bytes w.items
SameAnalysis NoWhitespace NoWhitespace = Unit {0}
SameAnalysis a b = ⊥
