use Rattle.std.proofs.Common.{ℕ, ◌<◌, get_or}
use Rattle.strkw_charset.specs.machine.CharClasses.{TellsSets}
use Rattle.strkw_regex_search.specs.declared.code.Class.{Class}
use Rattle.strkw_ecma.proofs.representatives.tells.Given as goal

abbrev pub invariant-loop-class : goal.invariant-loop-class
invariant-loop-class l =
    (k : ℕ) → k < l.class-index → (d : Class) → TellsSets l.classes (get_or l.program.code.classes.items k d).sets.items
