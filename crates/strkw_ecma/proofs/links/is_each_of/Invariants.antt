use Rattle.std.proofs.Common.{◌≡◌, List, drop, length, replicate}
use Rattle.strkw_regex_search.specs.declared.code.Class.{Class}
use Rattle.strkw_ecma.specs.machine.Links.{AreTables, begins_with}
use Rattle.strkw_ecma.proofs.links.is_each_of.Given as goal

-- what is left of the text tells the answer
abbrev pub invariant-loop-byte : goal.invariant-loop-byte
invariant-loop-byte l = (classes : List Class) → AreTables classes l.tables
    → begins_with classes (replicate (length (drop l.byte-index l.bytes)) l.number) (drop l.byte-index l.bytes)
    ≡ begins_with classes (replicate (length l.bytes) l.number) l.bytes
