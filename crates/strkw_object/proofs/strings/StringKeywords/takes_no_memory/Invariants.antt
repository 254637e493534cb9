use Rattle.std.proofs.Common.{◌≡◌, take, true}
use Rattle.strkw_keywords.specs.Demands.{all_quiet}
use Rattle.strkw_keywords.specs.Validators.{demands_in}
use Rattle.strkw_object.proofs.strings.StringKeywords.takes_no_memory.Given as goal

abbrev pub invariant-loop-validator : goal.invariant-loop-validator
invariant-loop-validator g l = all_quiet (demands_in g.E.RegexEngine.outcome (take l.validator-index l.self.validators.items)) ≡ true
