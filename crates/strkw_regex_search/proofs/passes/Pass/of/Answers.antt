use Rattle.std.proofs.Common.{◌∙◌, sym}
use Rattle.strkw_regex_core.specs.machine.Shape.{outline_pattern}
use Rattle.strkw_regex_search.proofs.PassParts.{forth_pass, back_pass}
use Rattle.strkw_regex_search.proofs.passes.Pass.of.Goals as goal

pub returns-then-not-is_sought_back : goal.returns-then-not-is_sought_back
returns-then-not-is_sought_back c =
    forth_pass c.args.negated (outline_pattern c.args.pattern) (sym c.is_sought_back.ensures ∙ c.if-not-is_sought_back.true)

pub returns : goal.returns
returns c =
    back_pass c.args.negated (outline_pattern c.args.pattern) (outline_pattern c.in_ok-mirrored.mirrored)
    (sym c.is_sought_back.ensures ∙ c.if-not-is_sought_back.false) c.in_ok-mirrored.ensures
