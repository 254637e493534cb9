-- What the steps of the analysis read at the front of a pattern.
use Rattle.std.specs.Prelude.{◌≡◌, ℕ, List, ◌++◌, map, codes, All}
use Rattle.std.specs.List.{join_with_byte}
use Rattle.std.specs.Str.{byte}
use Rattle.std.specs.String.{string_bytes}
use Rattle.strkw_pattern.specs.Literal.{Item, IsItem, item_spelling, item_char, spelling_of}
use Rattle.strkw_pattern.specs.Literal.{text_of, AreItems, AreAlternatives}
use Rattle.strkw_pattern.specs.declared.literal.PatternOptimization.{PatternOptimization}
use Rattle.strkw_pattern.specs.declared.literal.PatternOptimization.TheVariants.{Prefix, Exact}
use Rattle.strkw_pattern.specs.declared.literal.PatternOptimization.TheVariants.{Alternation}
use Rattle.strkw_pattern.specs.declared.literal.PatternOptimization.TheVariants.{NoWhitespace}

-- no item stands at the front
abbrev pub NoItem : List ℕ → Type 0
NoItem pattern = (x : Item) (rest : List ℕ) → IsItem x → pattern ≡ item_spelling x ++ rest → ⊥

-- the item at the front stands for c, and rest follows it
abbrev pub BeginsWithItem : List ℕ → ℕ → List ℕ → Type 0
BeginsWithItem pattern c rest = (x : Item) × IsItem x × (pattern ≡ item_spelling x ++ rest)
    × (c ≡ item_char x)

-- the items at the front of a pattern stand for the text, and no item follows them
abbrev pub ReadsItems : List ℕ → List ℕ → List ℕ → Type 0
ReadsItems pattern text rest =
    (xs : List Item) × All IsItem xs × (pattern ≡ spelling_of xs ++ rest) × (text ≡ text_of xs)
    × NoItem rest

-- no run of items, nor one before a `$`
abbrev pub IsNoRun : List ℕ → Type 0
IsNoRun pattern = (xs : List Item) → AreItems xs → (pattern ≡ spelling_of xs → ⊥)
    × (pattern ≡ spelling_of xs ++ codes "$" → ⊥)

-- a run of items, or one before a `$`, and its text
abbrev pub IsRun : List ℕ → PatternOptimization → Type 0
IsRun pattern (Prefix s) = (xs : List Item) × AreItems xs × (pattern ≡ spelling_of xs)
    × (string_bytes s ≡ text_of xs)
IsRun pattern (Exact s) = (xs : List Item) × AreItems xs × (pattern ≡ spelling_of xs ++ codes "$")
    × (string_bytes s ≡ text_of xs)
IsRun pattern (Alternation v) = ⊥
IsRun pattern NoWhitespace = ⊥

-- what follows the `^(` of an alternation
abbrev pub group_spelling : List (List Item) → List ℕ
group_spelling xss = join_with_byte (byte "|") (map spelling_of xss) ++ codes ")$"

-- alternatives with these texts follow the `^(`
abbrev pub IsGroup : List ℕ → List (List ℕ) → Type 0
IsGroup pattern texts =
    (xss : List (List Item)) × AreAlternatives xss × (pattern ≡ group_spelling xss)
    × (texts ≡ map text_of xss)

abbrev pub IsNoGroup : List ℕ → Type 0
IsNoGroup pattern = (xss : List (List Item)) → AreAlternatives xss → pattern ≡ group_spelling xss
    → ⊥
