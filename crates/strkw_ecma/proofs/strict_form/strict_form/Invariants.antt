use Rattle.std.proofs.Common.{◌≡◌, drop, length}
use Rattle.std.specs.Str.{chars}
use Rattle.strkw_ecma.specs.Lenient.{strict_form}
use Rattle.strkw_ecma.specs.machine.StrictForm.{completed}
use Rattle.strkw_ecma.proofs.strict_form.strict_form.Given as goal

-- with what is left, the text is the whole form
abbrev pub invariant-loop-c : goal.invariant-loop-c
invariant-loop-c l = completed l.draft (drop (length l.yielded) (chars l.pattern)) ≡ strict_form (chars l.pattern)
