use Rattle.std.proofs.Common.{◌≡◌, ◌+◌, drop}
use Rattle.std.specs.Prelude.{option_map}
use Rattle.strkw_charset.specs.machine.CharClasses.{place_of}
use Rattle.strkw_charset.proofs.char_classes.place_of.Given as goal

-- what was passed over is another number
abbrev pub invariant-loop-place : goal.invariant-loop-place
invariant-loop-place l = place_of l.keys l.key ≡ option_map (λ k. l.place + k) (place_of (drop l.place l.keys) l.key)
