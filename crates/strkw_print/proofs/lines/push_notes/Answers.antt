use Rattle.std.proofs.Common.{◌≡◌, ◌∙◌, ◌++◌, take, subst, sym, ap}
use Rattle.strkw_keywords.specs.Parts.{noted_remark}
use Rattle.strkw_keywords.specs.Validators.{listed_remark, remark_made, remarks_in}
use Rattle.strkw_print.specs.Printed.{note_lines}
use Rattle.strkw_object.specs.Printable.{ArePrintable}
use Rattle.strkw_print.proofs.Notes.{printable_at, noted_more}
use Rattle.strkw_object.proofs.Results.{on_err, grown_more}
use Rattle.strkw_print.proofs.lines.push_notes.Goals as goal

pub push_note_line-requires : goal.push_note_line-requires
push_note_line-requires g c =
    let validators = c.validators-validator-items.result.now in
    let printable : ArePrintable (remarks_in validators) = rw c.validators-validator-items.ensures.notes c.requires in
    let parts = c.parts-parts in
    let said : noted_remark parts.result.origin.now.schema parts.result.noted ≡ remark_made c.validator-item.result =
    ap (λ place. noted_remark place.schema parts.result.noted) parts.ensures.origin ∙ parts.ensures.noted in
    subst (λ remark. ArePrintable (listed_remark remark)) (sym said)
    (printable_at validators c.loop-validator.validator-index c.validator-item.result printable c.loop-validator-test.true c.validator-item.is)

pub loop-validator-preserved : goal.loop-validator-preserved
loop-validator-preserved g c =
    let parts = c.parts-parts in
    let said : noted_remark parts.result.origin.now.schema parts.result.noted ≡ remark_made c.validator-item.result =
    ap (λ place. noted_remark place.schema parts.result.noted) parts.ensures.origin ∙ parts.ensures.noted in
    noted_more g.E.RegexEngine.outcome c.validators-validator-items.result.now c.loop-validator.validator-index c.validator-item.result
    c.args.out.now.items c.loop-validator.out.items c.push_note_line.new.out.items c.loop-validator-test.true c.validator-item.is
    c.loop-validator.invariant
    (subst (λ remark. c.push_note_line.new.out.items ≡ c.loop-validator.out.items ++ note_lines (listed_remark remark)) said
    c.in_ok-push_note_line.ensures.ok)

pub returns-in_err-push_note_line-clause-err : goal.returns-in_err-push_note_line-clause-err
returns-in_err-push_note_line-clause-err g c =
    let (more, grown) = c.in_err-push_note_line.ensures.err in
    on_err c.from_residual.result (grown_more c.args.out.now.items
    (note_lines (remarks_in (take c.loop-validator.validator-index c.validators-validator-items.result.now))) c.loop-validator.out.items more
    c.push_note_line.new.out.items c.loop-validator.invariant grown)
