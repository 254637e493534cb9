use Rattle.std.proofs.Common.{◌≡◌, List, length, replicate}
use Rattle.std.specs.Str.{IsAscii}
use Rattle.strkw_regex_search.specs.declared.code.Class.{Class}
use Rattle.strkw_ecma.specs.machine.Links.{AreTables, begins_with}
use Rattle.strkw_ecma.proofs.links.are_of.Given as goal

-- what is left of the text tells the answer
abbrev pub invariant-fours : goal.invariant-fours
invariant-fours l = record {
  ascii : IsAscii l.left;
  so_far : (classes : List Class) → AreTables classes l.tables
      → begins_with classes (replicate (length l.left) l.number) l.left ≡ begins_with classes (replicate (length l.bytes) l.number) l.bytes;
}

abbrev pub decreases-fours : goal.decreases-fours
decreases-fours l = length l.left
