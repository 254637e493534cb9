use Rattle.std.proofs.Common.{◌≡◌, ◌-◌, drop, replicate}
use Rattle.strkw_regex_search.specs.machine.Along.{left_of}
use Rattle.strkw_ecma.specs.machine.Links.{begins_with}
use Rattle.strkw_ecma.proofs.links.read_some.Given as goal

-- what is left of the count and of the text tells the answer
abbrev pub invariant-loop : goal.invariant-loop
invariant-loop l = record {
  so_far : begins_with l.classes (replicate (l.count - l.counter) l.number) (left_of l.left)
      ≡ begins_with l.classes (replicate l.count l.number) (left_of l.fn.left);
  behind : left_of l.left ≡ drop l.counter (left_of l.fn.left);
}
