use Rattle.std.proofs.Common.{take}
use Rattle.strkw_keywords.specs.Lengths.{interval}
use Rattle.strkw_keywords.specs.Validators.{demands_in}
use Rattle.strkw_object.proofs.Folding.{AreEnds}
use Rattle.strkw_object.proofs.strings.StringKeywords.folds_to_false.Given as goal

-- the ends so far
abbrev pub invariant-loop-validator : goal.invariant-loop-validator
invariant-loop-validator g l = AreEnds l.least l.greatest (interval (demands_in g.E.RegexEngine.outcome (take l.validator-index l.self.validators.items)))
