use Rattle.std.proofs.Common.{◌∙◌, ap, sym}
use Rattle.std.specs.Str.{chars}
use Rattle.strkw_regex_core.specs.machine.Mirror.{along}
use Rattle.strkw_ecma.specs.machine.Dfa.{walk}
use Rattle.strkw_ecma.proofs.dfa.Dfa.is_found_along.Goals as goal

pub returns-then-is_backward : goal.returns-then-is_backward
returns-then-is_backward c =
    c.is_found_back.ensures ∙ ap (walk _ _ _ 0) (ap (λ b. along b (chars c.args.text.now)) (sym c.if-is_backward.true))

pub returns : goal.returns
returns c = c.is_found.ensures ∙ ap (walk _ _ _ 0) (ap (λ b. along b (chars c.args.text.now)) (sym c.if-is_backward.false))
