use Rattle.std.proofs.Common.{arith, refl}
use Rattle.std.proofs.lemmas.List.{take_all}
use Rattle.strkw_object.specs.Compiled.{keywords_interval}
use Rattle.strkw_object.proofs.Folding.{ends_more, empty_at_end}
use Rattle.strkw_object.proofs.strings.StringKeywords.folds_to_false.Goals as goal

pub loop-validator-init : goal.loop-validator-init
loop-validator-init g c = record { low = refl; high = refl; low_fits = omega arith; high_fits = omega arith }

pub loop-validator-preserved : goal.loop-validator-preserved
loop-validator-preserved g c =
    rw (c.max-least.ensures, c.min-greatest.ensures)
    (ends_more g.E.RegexEngine.outcome c.args.self.now.validators.items c.loop-validator.validator-index c.validator-item.result c.loop-validator.least
    c.loop-validator.greatest _ _
    (rw c.deref-validator-items.ensures.value at c.loop-validator-test.true)
    (rw c.deref-validator-items.ensures.value at c.validator-item.is)
    c.loop-validator.invariant c.interval-low.ensures (omega arith) (omega arith))

pub returns : goal.returns
returns g c =
    let whole = take_all c.loop-validator.validator-index c.args.self.now.validators.items
    (rw c.deref-validator-items.ensures.value at c.loop-validator-test.false) in
    empty_at_end c.loop-validator.least c.loop-validator.greatest (keywords_interval g.E.RegexEngine.outcome c.args.self.now)
    (rw whole at c.loop-validator.invariant)
