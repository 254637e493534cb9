use Rattle.std.proofs.Common.{[], Err, subst}
use Rattle.std.proofs.lemmas.List.{take_all}
use Rattle.strkw_keywords.specs.Errors.{NodeReports}
use Rattle.strkw_keywords.specs.Handed.{lists_of}
use Rattle.strkw_keywords.specs.Validators.{assertions_of}
use Rattle.strkw_keywords.specs.Verdicts.{IsVerdict}
use Rattle.strkw_object.proofs.Many.{in_use_at, nothing_asserted, fault_at, silent_more}
use Rattle.strkw_object.proofs.strings.StringKeywords.validate.Goals as goal

pub loop-validator-init : goal.loop-validator-init
loop-validator-init g c =
    let checks = (lists_of (λ b. (goal.Format-dyn g b).admits b.1) (λ b. (goal.MediaTypeCheck-dyn g b).accepts b.1)
    (λ b. (goal.ContentCodec-dyn g b).is_encoding b.1) (λ b. (goal.ContentCodec-dyn g b).decoding b.1) c.args.checks.now) in
    nothing_asserted checks c.args.site.now (g.N.Node.text c.args.node.now)

pub validate_text-requires : goal.validate_text-requires
validate_text-requires g c =
    let checks = (lists_of (λ b. (goal.Format-dyn g b).admits b.1) (λ b. (goal.MediaTypeCheck-dyn g b).accepts b.1)
    (λ b. (goal.ContentCodec-dyn g b).is_encoding b.1) (λ b. (goal.ContentCodec-dyn g b).decoding b.1) c.args.checks.now) in
    in_use_at g.E.RegexEngine.outcome checks c.args.self.now.validators.items c.loop-validator.validator-index c.validator-item.result
    (rw c.deref-validator-items.ensures.value at c.loop-validator-test.true)
    (rw c.deref-validator-items.ensures.value at c.validator-item.is)
    c.requires

pub loop-validator-preserved : goal.loop-validator-preserved
loop-validator-preserved g c =
    let checks = (lists_of (λ b. (goal.Format-dyn g b).admits b.1) (λ b. (goal.MediaTypeCheck-dyn g b).accepts b.1)
    (λ b. (goal.ContentCodec-dyn g b).is_encoding b.1) (λ b. (goal.ContentCodec-dyn g b).decoding b.1) c.args.checks.now) in
    let asserted = assertions_of g.E.RegexEngine.outcome c.validator-item.result in
    silent_more g.E.RegexEngine.outcome checks c.args.site.now (g.N.Node.text c.args.node.now) c.args.self.now.validators.items c.loop-validator.validator-index
    c.validator-item.result
    (rw c.deref-validator-items.ensures.value at c.loop-validator-test.true)
    (rw c.deref-validator-items.ensures.value at c.validator-item.is)
    c.loop-validator.invariant
    (subst (λ there. NodeReports asserted checks c.args.site.now there []) c.in-Some.ensures c.in-Ok.ensures)

pub returns-in-Err : goal.returns-in-Err
returns-in-Err g c =
    let checks = (lists_of (λ b. (goal.Format-dyn g b).admits b.1) (λ b. (goal.MediaTypeCheck-dyn g b).accepts b.1)
    (λ b. (goal.ContentCodec-dyn g b).is_encoding b.1) (λ b. (goal.ContentCodec-dyn g b).decoding b.1) c.args.checks.now) in
    let asserted = assertions_of g.E.RegexEngine.outcome c.validator-item.result in
    fault_at g.E.RegexEngine.outcome checks c.args.site.now (g.N.Node.text c.args.node.now) c.args.self.now.validators.items c.loop-validator.validator-index
    c.validator-item.result c.in-Err.fault
    (rw c.deref-validator-items.ensures.value at c.loop-validator-test.true)
    (rw c.deref-validator-items.ensures.value at c.validator-item.is)
    c.loop-validator.invariant
    (subst (λ there. IsVerdict asserted checks c.args.site.now there (Err c.in-Err.fault)) c.in-Some.ensures c.in-Err.ensures)

pub returns : goal.returns
returns g c =
    let whole = take_all c.loop-validator.validator-index c.args.self.now.validators.items
    (rw c.deref-validator-items.ensures.value at c.loop-validator-test.false) in
    rw whole at c.loop-validator.invariant
