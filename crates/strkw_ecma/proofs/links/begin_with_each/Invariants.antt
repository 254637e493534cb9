use Rattle.std.proofs.Common.{◌≡◌, true, List, drop, length}
use Rattle.strkw_regex_search.specs.declared.code.Class.{Class}
use Rattle.strkw_ecma.specs.machine.Links.{are_below, AreTables, begins_with}
use Rattle.strkw_ecma.proofs.links.begin_with_each.Given as goal

-- what is left of the classes and of the text tells the answer
abbrev pub invariant-loop-place : goal.invariant-loop-place
invariant-loop-place l = record {
  below : are_below (length l.tables) (drop l.place l.numbers) ≡ true;
  so_far : (classes : List Class) → AreTables classes l.tables
      → begins_with classes (drop l.place l.numbers) (drop l.place l.bytes) ≡ begins_with classes l.numbers l.bytes;
}
