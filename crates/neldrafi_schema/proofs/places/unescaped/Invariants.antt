use Rattle.std.proofs.Common.{◌≡◌, ◌++◌, map, take, string_bytes}
use Rattle.std.specs.List.{flat_map}
use Rattle.neldrafi_schema.specs.machine.Words.{after_tilde}
use Rattle.neldrafi_schema.proofs.places.unescaped.Given as goal

abbrev pub invariant-loop-part : goal.invariant-loop-part
invariant-loop-part l = string_bytes l.key ≡ string_bytes l.initial.key ++ flat_map after_tilde (map (λ t. t.now) (take l.part-index l.others))
