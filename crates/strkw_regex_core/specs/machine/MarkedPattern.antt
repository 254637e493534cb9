-- Patterns as a search walks over them: each class of characters bears a mark, which means nothing
-- for what the pattern matches, and what is counted is written out in copies.
use Rattle.std.specs.Prelude.{Bool, List}
use Rattle.strkw_charset.specs.declared.tree.CharSet.{CharSet}
use Rattle.strkw_regex_core.specs.Tree.{Look}

pub data MarkedPattern : Type 0 where
  empty : MarkedPattern
  -- one character of these sets, or where the second holds, one outside them
  class : Bool → Bool → List CharSet → MarkedPattern
  look : Look → MarkedPattern
  cat : MarkedPattern → MarkedPattern → MarkedPattern
  alt : MarkedPattern → MarkedPattern → MarkedPattern
  star : MarkedPattern → MarkedPattern
  -- once or more
  plus : MarkedPattern → MarkedPattern
  -- these read nothing: the pattern matches up to here, or from here on; or where the first holds,
  -- it does not
  lookbehind lookahead : Bool → MarkedPattern → MarkedPattern
