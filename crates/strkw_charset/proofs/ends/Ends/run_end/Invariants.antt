use Rattle.std.proofs.Common.{◌≡◌, ◌≤◌, ◌<◌, ℕ, drop}
use Rattle.strkw_charset.specs.machine.CharClasses.{answers}
use Rattle.strkw_charset.proofs.ends.Ends.run_end.Given as goal

-- the classes that were passed have all code points up to the end alike
abbrev pub invariant-loop-class : goal.invariant-loop-class
invariant-loop-class l = record {
  beyond : l.c < l.end;
  within : l.end ≤ 0x110000;
  alike : (d : ℕ) → l.c ≤ d → d < l.end
      → ((n : ℕ) → answers n (drop l.class-index l.classes) d ≡ answers n (drop l.class-index l.classes) l.c)
      → (n : ℕ) → answers n l.classes d ≡ answers n l.classes l.c;
}
