use Rattle.std.proofs.Common.{◌≡◌, drop, length, map}
use Rattle.std.specs.List.{zip}
use Rattle.ucd_sets.specs.Loose.{value_named}
use Rattle.strkw_charset.proofs.properties.value_named.Given as goal

abbrev pub invariant-loop-spelling : goal.invariant-loop-spelling
invariant-loop-spelling g l = value_named (map (λ row. (row.0.now, row.1)) (zip l.spellings l.values)) l.name
    ≡ value_named (map (λ row. (row.0.now, row.1)) (drop (length l.yielded) (zip l.spellings l.values))) l.name
