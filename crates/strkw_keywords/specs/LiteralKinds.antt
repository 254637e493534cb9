-- The four kinds of literal patterns.
use Rattle.strkw_pattern.specs.declared.matcher.LiteralMatcher.{LiteralMatcher}
use Rattle.strkw_pattern.specs.declared.matcher.LiteralMatcher.TheVariants.{Prefix, Exact}
use Rattle.strkw_pattern.specs.declared.matcher.LiteralMatcher.TheVariants.{Alternation}
use Rattle.strkw_pattern.specs.declared.matcher.LiteralMatcher.TheVariants.{NoWhitespace}

pub data LiteralKind : Type 0 where
  prefix : LiteralKind
  exact : LiteralKind
  alternation : LiteralKind
  no_whitespace : LiteralKind

-- what a matcher compares by
abbrev pub kind_of : LiteralMatcher → LiteralKind
kind_of (Prefix s) = prefix
kind_of (Exact s) = exact
kind_of (Alternation v) = alternation
kind_of NoWhitespace = no_whitespace
