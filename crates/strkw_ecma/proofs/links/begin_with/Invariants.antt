use Rattle.std.proofs.Common.{◌≡◌, true, List, length}
use Rattle.std.specs.Str.{IsAscii}
use Rattle.strkw_regex_search.specs.declared.code.Class.{Class}
use Rattle.strkw_ecma.specs.machine.Links.{are_below, AreTables, begins_with}
use Rattle.strkw_ecma.proofs.links.begin_with.Given as goal

-- what is left of the classes and of the text tells the answer
abbrev pub invariant-fours : goal.invariant-fours
invariant-fours l = record {
  below : are_below (length l.tables) l.more ≡ true;
  ascii : IsAscii l.left;
  so_far : (classes : List Class) → AreTables classes l.tables → begins_with classes l.more l.left ≡ begins_with classes l.numbers l.bytes;
}

abbrev pub decreases-fours : goal.decreases-fours
decreases-fours l = length l.more
