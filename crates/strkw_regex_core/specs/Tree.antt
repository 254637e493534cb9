-- Patterns as trees.
use Rattle.std.specs.Prelude.{ℕ, Bool, List, Option}
use Rattle.strkw_charset.specs.declared.tree.CharSet.{CharSet}

-- ^, $, \b, \B
pub data Look : Type 0 where
  start end boundary no_boundary : Look

pub data Pattern : Type 0 where
  empty : Pattern
  -- one character of these sets, or where the first holds, one outside them
  class : Bool → List CharSet → Pattern
  look : Look → Pattern
  cat : Pattern → Pattern → Pattern
  alt : Pattern → Pattern → Pattern
  -- at least so often, and at most so often where there is a second number
  repeat : ℕ → Option ℕ → Pattern → Pattern
  -- these read nothing: the pattern matches up to here, or from here on; or where the first holds,
  -- it does not
  lookbehind lookahead : Bool → Pattern → Pattern
