use Rattle.std.proofs.Common.{◌≡◌, drop}
use Rattle.strkw_regex_search.specs.machine.Along.{left_of}
use Rattle.strkw_ecma.specs.machine.Links.{begins_with}
use Rattle.strkw_ecma.proofs.links.read_each.Given as goal

-- what is left of the classes and of the text tells the answer
abbrev pub invariant-loop-number : goal.invariant-loop-number
invariant-loop-number l = record {
  so_far : begins_with l.classes (drop l.number-index l.numbers) (left_of l.left) ≡ begins_with l.classes l.numbers (left_of l.fn.left);
  behind : left_of l.left ≡ drop l.number-index (left_of l.fn.left);
}
