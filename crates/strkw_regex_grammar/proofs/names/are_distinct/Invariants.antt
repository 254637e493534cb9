use Rattle.std.proofs.Common.{◌≡◌, map, length}
use Rattle.strkw_regex_grammar.specs.Names.{are_distinct as spec_are_distinct}
use Rattle.strkw_regex_grammar.proofs.names.are_distinct.Given as goal

abbrev pub invariant-loop-name : goal.invariant-loop-name
invariant-loop-name l = spec_are_distinct (map (λ n. n.items) l.names) ≡ spec_are_distinct (map (λ n. n.items) l.rest)

abbrev pub decreases-loop-name : goal.decreases-loop-name
decreases-loop-name l = length l.rest
