use Rattle.std.proofs.Common.{◌≡◌, ◌+◌, ◌^◌, ◌≤◌, drop}
use Rattle.strkw_charset.specs.machine.CharClasses.{answers}
use Rattle.strkw_charset.proofs.char_classes.answers.Given as goal

-- the digits so far, and those behind them
abbrev pub invariant-loop-class : goal.invariant-loop-class
invariant-loop-class l = record {
  few : l.answers + 1 ≤ 2 ^ l.class-index;
  so_far : answers l.answers (drop l.class-index l.classes) l.c ≡ answers 0 l.classes l.c;
}
