use Rattle.std.proofs.Common.{Some}
use Rattle.std.proofs.lemmas.List.{take_all}
use Rattle.strkw_keywords.specs.Demands.{IsInUse}
use Rattle.strkw_keywords.specs.Handed.{lists_of}
use Rattle.strkw_keywords.specs.Validators.{demands_in}
use Rattle.strkw_print.specs.Printed.{error_lines}
use Rattle.strkw_object.proofs.Many.{in_use_at}
use Rattle.strkw_object.proofs.Results.{on_err, grown_more}
use Rattle.strkw_print.proofs.Errors.{nothing_written, of_text, written_more}
use Rattle.strkw_print.proofs.lines.push_errors.Goals as goal

pub loop-validator-init : goal.loop-validator-init
loop-validator-init g c =
    let checks = (lists_of (λ b. (goal.Format-dyn g b).admits b.1) (λ b. (goal.MediaTypeCheck-dyn g b).accepts b.1)
    (λ b. (goal.ContentCodec-dyn g b).is_encoding b.1) (λ b. (goal.ContentCodec-dyn g b).decoding b.1) c.args.checks.now) in
    nothing_written checks (Some c.args.text.now) c.args.out.now.items

pub findings-requires : goal.findings-requires
findings-requires g c =
    let checks = (lists_of (λ b. (goal.Format-dyn g b).admits b.1) (λ b. (goal.MediaTypeCheck-dyn g b).accepts b.1)
    (λ b. (goal.ContentCodec-dyn g b).is_encoding b.1) (λ b. (goal.ContentCodec-dyn g b).decoding b.1) c.args.checks.now) in
    let validators = c.validators-validator-items.result.now in
    let in_use : IsInUse (demands_in g.E.RegexEngine.outcome validators) checks = rw c.validators-validator-items.ensures.demands c.requires in
    in_use_at g.E.RegexEngine.outcome checks validators c.loop-validator.validator-index c.validator-item.result c.loop-validator-test.true
    c.validator-item.is in_use

pub loop-validator-preserved : goal.loop-validator-preserved
loop-validator-preserved g c =
    let checks = (lists_of (λ b. (goal.Format-dyn g b).admits b.1) (λ b. (goal.MediaTypeCheck-dyn g b).accepts b.1)
    (λ b. (goal.ContentCodec-dyn g b).is_encoding b.1) (λ b. (goal.ContentCodec-dyn g b).decoding b.1) c.args.checks.now) in
    written_more g.E.RegexEngine.outcome checks (Some c.args.text.now) c.validators-validator-items.result.now c.loop-validator.validator-index
    c.validator-item.result _ _ _ c.loop-validator-test.true c.validator-item.is c.loop-validator.invariant
    (of_text _ _ _ _ _ _ _ _ _ c.in_ok-found.ensures.found
    (rw c.as_str-text.ensures at c.in_ok-push_found_line.ensures.ok) (rw c.as_str-text.ensures at c.in_ok-push_found_line-2.ensures.ok))

pub returns-in_err-found-clause-err : goal.returns-in_err-found-clause-err
returns-in_err-found-clause-err g c =
    let before = c.loop-validator.invariant in
    on_err c.from_residual.result (error_lines before.errors, before.grown)

pub returns-in_err-push_found_line-clause-err : goal.returns-in_err-push_found_line-clause-err
returns-in_err-push_found_line-clause-err g c =
    let before = c.loop-validator.invariant in
    let (more, grown) = c.in_err-push_found_line.ensures.err in
    on_err c.from_residual-in_err-push_found_line.result
    (grown_more c.args.out.now.items (error_lines before.errors) c.loop-validator.out.items more c.push_found_line.new.out.items before.grown grown)

pub returns-in_err-push_found_line-2-clause-err : goal.returns-in_err-push_found_line-2-clause-err
returns-in_err-push_found_line-2-clause-err g c =
    let before = c.loop-validator.invariant in
    let (some, first) = grown_more c.args.out.now.items (error_lines before.errors) c.loop-validator.out.items _ c.push_found_line.new.out.items
    before.grown c.in_ok-push_found_line.ensures.ok in
    let (more, grown) = c.in_err-push_found_line-2.ensures.err in
    on_err c.from_residual-in_err-push_found_line-2.result
    (grown_more c.args.out.now.items some c.push_found_line.new.out.items more c.push_found_line-in-loop-validator.new.out.items first grown)

pub returns-clause-ok : goal.returns-clause-ok
returns-clause-ok g c =
    let whole = take_all c.loop-validator.validator-index c.validators-validator-items.result.now c.loop-validator-test.false in
    let found = c.loop-validator.invariant in
    (found.errors, found.grown, rw (whole, c.validators-validator-items.ensures.asserts) at found.reported)
