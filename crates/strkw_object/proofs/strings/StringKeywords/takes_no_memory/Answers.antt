use Rattle.std.proofs.Common.{◌≡◌, true, false, sym}
use Rattle.strkw_keywords.specs.Demands.{all_quiet}
use Rattle.strkw_keywords.specs.Validators.{demands_of}
use Rattle.strkw_object.proofs.Many.{loud_at, quiet_more}
use Rattle.strkw_object.proofs.strings.StringKeywords.takes_no_memory.Goals as goal

pub returns-then-not-takes_no_memory : goal.returns-then-not-takes_no_memory
returns-then-not-takes_no_memory g c =
    let loud : all_quiet (demands_of g.E.RegexEngine.outcome c.validator-item.result) ≡ false = cc in
    sym (loud_at g.E.RegexEngine.outcome c.args.self.now.validators.items c.loop-validator.validator-index c.validator-item.result
    (rw c.deref-validator-items.ensures.value at c.loop-validator-test.true)
    (rw c.deref-validator-items.ensures.value at c.validator-item.is) loud)

pub loop-validator-preserved : goal.loop-validator-preserved
loop-validator-preserved g c =
    let quiet : all_quiet (demands_of g.E.RegexEngine.outcome c.validator-item.result) ≡ true = cc in
    quiet_more g.E.RegexEngine.outcome c.args.self.now.validators.items c.loop-validator.validator-index c.validator-item.result
    (rw c.deref-validator-items.ensures.value at c.loop-validator-test.true)
    (rw c.deref-validator-items.ensures.value at c.validator-item.is)
    c.loop-validator.invariant quiet
