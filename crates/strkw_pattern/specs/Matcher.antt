-- What a literal matcher answers for the texts that it holds, and when that is the search of a
-- literal.
use Rattle.std.specs.Prelude.{◌≡◌, ℕ, Bool, not, nat_eq, if◌then◌else◌, List, ◌⊎◌}
use Rattle.std.specs.List.{starts_with, list_any}
use Rattle.std.specs.Str.{chars, bytes_eq}
use Rattle.std.specs.String.{string_bytes}
use Rattle.strkw_pattern.specs.Literal.{Literal}
use Rattle.strkw_pattern.specs.Search.{Search}
use Rattle.strkw_pattern.specs.Whitespace.{is_ecma_whitespace}
use Rattle.strkw_pattern.specs.declared.engine.Outcome.{Outcome}
use Rattle.strkw_pattern.specs.declared.engine.Outcome.TheVariants as outcome
use Rattle.strkw_pattern.specs.declared.literal.PatternOptimization.{PatternOptimization}
use Rattle.strkw_pattern.specs.declared.literal.PatternOptimization.TheVariants as analysed
use Rattle.strkw_pattern.specs.declared.matcher.LiteralMatcher.{LiteralMatcher}
use Rattle.strkw_pattern.specs.declared.matcher.LiteralMatcher.TheVariants.{Prefix, Exact}
use Rattle.strkw_pattern.specs.declared.matcher.LiteralMatcher.TheVariants.{Alternation}
use Rattle.strkw_pattern.specs.declared.matcher.LiteralMatcher.TheVariants.{NoWhitespace}

abbrev pub outcome_of : Bool → Outcome
outcome_of b = if b then outcome.Match else outcome.NoMatch

-- a text that begins with the literal, that is it, that is one of the alternatives, that has no
-- white space
abbrev pub literal_outcome : LiteralMatcher → List ℕ → Outcome
literal_outcome (Prefix s) text = outcome_of (starts_with nat_eq text (chars (string_bytes s)))
literal_outcome (Exact s) text = outcome_of (bytes_eq text (chars (string_bytes s)))
literal_outcome (Alternation v) text =
    outcome_of (list_any (λ s. bytes_eq (chars (string_bytes s)) text) v.items)
literal_outcome NoWhitespace text = outcome_of (not (list_any is_ecma_whitespace text))

-- the matcher of an analysed pattern: of its kind, with its texts
abbrev pub matcher_of : PatternOptimization → LiteralMatcher
matcher_of (analysed.Prefix s) = Prefix s
matcher_of (analysed.Exact s) = Exact s
matcher_of (analysed.Alternation v) = Alternation v
matcher_of analysed.NoWhitespace = NoWhitespace

-- the outcome tells, of every text, whether the literal is found in it
abbrev pub IsSearch : Literal → (List ℕ → Outcome) → Type 0
IsSearch l o = (text : List ℕ) → (Search l text × (o text ≡ outcome.Match))
    ⊎ ((Search l text → ⊥) × (o text ≡ outcome.NoMatch))
