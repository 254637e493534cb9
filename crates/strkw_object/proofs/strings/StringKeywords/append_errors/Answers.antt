use Rattle.std.proofs.Common.{Some, ◌∙◌}
use Rattle.strkw_keywords.specs.Handed.{lists_of}
use Rattle.strkw_object.proofs.Many.{in_use_at, nothing_yet, collected_more}
use Rattle.strkw_object.proofs.Results.{on_err}
use Rattle.strkw_object.proofs.strings.StringKeywords.append_errors.Goals as goal

pub loop-validator-init : goal.loop-validator-init
loop-validator-init g c =
    let checks = (lists_of (λ b. (goal.Format-dyn g b).admits b.1) (λ b. (goal.MediaTypeCheck-dyn g b).accepts b.1)
    (λ b. (goal.ContentCodec-dyn g b).is_encoding b.1) (λ b. (goal.ContentCodec-dyn g b).decoding b.1) c.args.checks.now) in
    nothing_yet checks c.args.site.now (Some c.args.text.now) c.args.errors.now.items

pub push_errors-requires : goal.push_errors-requires
push_errors-requires g c =
    let checks = (lists_of (λ b. (goal.Format-dyn g b).admits b.1) (λ b. (goal.MediaTypeCheck-dyn g b).accepts b.1)
    (λ b. (goal.ContentCodec-dyn g b).is_encoding b.1) (λ b. (goal.ContentCodec-dyn g b).decoding b.1) c.args.checks.now) in
    in_use_at g.E.RegexEngine.outcome checks c.args.self.now.validators.items c.loop-validator.validator-index c.validator-item.result
    (rw c.deref-validator-items.ensures.value at c.loop-validator-test.true)
    (rw c.deref-validator-items.ensures.value at c.validator-item.is)
    c.requires

pub loop-validator-preserved : goal.loop-validator-preserved
loop-validator-preserved g c =
    let checks = (lists_of (λ b. (goal.Format-dyn g b).admits b.1) (λ b. (goal.MediaTypeCheck-dyn g b).accepts b.1)
    (λ b. (goal.ContentCodec-dyn g b).is_encoding b.1) (λ b. (goal.ContentCodec-dyn g b).decoding b.1) c.args.checks.now) in
    collected_more g.E.RegexEngine.outcome checks c.args.site.now (Some c.args.text.now) c.args.self.now.validators.items c.loop-validator.validator-index
    c.validator-item.result
    _ _ _
    (rw c.deref-validator-items.ensures.value at c.loop-validator-test.true)
    (rw c.deref-validator-items.ensures.value at c.validator-item.is)
    c.loop-validator.invariant
    c.in_ok-push_errors.ensures.appended

pub returns-in_err-push_errors-clause-err : goal.returns-in_err-push_errors-clause-err
returns-in_err-push_errors-clause-err g c =
    let before = c.loop-validator.invariant in
    on_err c.from_residual.result (before.added, c.in_err-push_errors.ensures.kept ∙ before.grown)
