use Rattle.strkw_uses.proofs.Alone.{says}
use Rattle.strkw_uses.proofs.patterns.object_says_its_pattern.Goals as goal

pub returns : goal.returns
returns c = λ draft place lists p other. says c.patterns_are_exact.ensures c.entries_are_determined.ensures draft place lists p other
