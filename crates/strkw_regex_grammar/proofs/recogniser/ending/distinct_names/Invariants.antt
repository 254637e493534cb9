use Rattle.std.proofs.Common.{◌≡◌, map, take, true}
use Rattle.strkw_regex_grammar.specs.Names.{are_distinct}
use Rattle.strkw_regex_grammar.proofs.RegexNames.{HasNames}
use Rattle.strkw_regex_grammar.proofs.recogniser.ending.distinct_names.Given as goal

-- the set has the names so far, and none of them is there twice
abbrev pub invariant-loop-name : goal.invariant-loop-name
invariant-loop-name l = record {
  same : HasNames l.set (map (λ n. n.items) (take l.name-index l.names));
  apart : are_distinct (map (λ n. n.items) (take l.name-index l.names)) ≡ true;
}
