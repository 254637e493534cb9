use Rattle.std.proofs.Common.{◌≡◌, ◌++◌, string_bytes}
use Rattle.std.specs.List.{flat_map}
use Rattle.neldrafi_check.specs.Escapes.{escaped_char}
use Rattle.neldrafi_check.proofs.escapes.push_escaped.Given as goal

abbrev pub invariant-loop-c : goal.invariant-loop-c
invariant-loop-c l = string_bytes l.out ≡ string_bytes l.initial.out ++ flat_map (escaped_char l.syntax) l.yielded
