-- What the code tells of the front of a pattern, and what it cuts off.
use Rattle.std.specs.Prelude.{◌≡◌, List, [], ◌∷◌, ◌++◌}
use Rattle.strkw_regex_core.specs.machine.MarkedPattern.{MarkedPattern}
use Rattle.strkw_regex_core.specs.machine.LeadingLookahead.{Part, lead, fronts, rest}
use Rattle.strkw_regex_core.specs.machine.Shape.{outline_pattern}
use Rattle.strkw_regex_core.specs.declared.leading_lookahead.Cut.{Cut}
use Rattle.strkw_regex_core.specs.declared.leading_lookahead.LeadingLookahead.{LeadingLookahead}

abbrev pub part_view : LeadingLookahead → Part
part_view f = record { negated = f.negated; pattern = outline_pattern f.pattern }

abbrev pub parts_view : List LeadingLookahead → List Part
parts_view [] = []
parts_view (f ∷ fs) = part_view f ∷ parts_view fs

-- these are cut off a pattern, and appended to others
pub record Cuts (c : Cut) (p : MarkedPattern) (old new : List LeadingLookahead) : Type 0 where
  pub lead : c.lead ≡ lead p
  pub rest : outline_pattern c.rest ≡ rest p
  pub fronts : parts_view new ≡ parts_view old ++ fronts p
