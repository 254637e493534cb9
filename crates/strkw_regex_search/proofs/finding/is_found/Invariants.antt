use Rattle.std.proofs.Common.{◌≡◌, length, None}
use Rattle.std.specs.Str.{chars}
use Rattle.strkw_regex_core.specs.machine.Mirror.{along}
use Rattle.strkw_regex_search.specs.machine.Along.{left_of}
use Rattle.strkw_regex_core.specs.machine.Positions.{mark_classes}
use Rattle.strkw_regex_search.specs.machine.Machine.{pattern_of}
use Rattle.strkw_regex_search.specs.machine.Search.{search_from}
use Rattle.strkw_regex_search.proofs.finding.is_found.Given as goal

-- the search of what is left comes to what that of the text does
abbrev pub invariant-characters : goal.invariant-characters
invariant-characters l = record {
  long : length l.marks ≡ 5200;
  so_far : search_from (mark_classes l.marks (pattern_of l.program)) l.last (left_of l.left)
      ≡ search_from (pattern_of l.program) None (along l.is_backward (chars l.text));
}

abbrev pub decreases-characters : goal.decreases-characters
decreases-characters l = length (left_of l.left)
