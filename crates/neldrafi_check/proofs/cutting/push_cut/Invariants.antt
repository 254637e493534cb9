use Rattle.std.proofs.Common.{◌≡◌, ◌++◌, string_bytes, length}
use Rattle.neldrafi_check.specs.machine.Cuts.{cut_front}
use Rattle.neldrafi_check.proofs.cutting.push_cut.Given as goal

abbrev pub invariant-loop-c : goal.invariant-loop-c
invariant-loop-c l = (string_bytes l.out ≡ string_bytes l.initial.out ++ cut_front l.count l.yielded) × (l.index ≡ length l.yielded)
