use Rattle.std.proofs.Common.{◌++◌, ap, ◌∙◌, sym}
use Rattle.strkw_keywords.specs.Validators.{listed_remark, remark_made}
use Rattle.strkw_object.proofs.Many.{remarks_more}
use Rattle.strkw_object.proofs.strings.StringKeywords.notes.Goals as goal

pub loop-validator-preserved : goal.loop-validator-preserved
loop-validator-preserved g c =
    let more = remarks_more g.E.RegexEngine.outcome c.args.self.now.validators.items c.loop-validator.validator-index c.validator-item.result
    (rw c.deref-validator-items.ensures.value at c.loop-validator-test.true)
    (rw c.deref-validator-items.ensures.value at c.validator-item.is) in
    c.in_ok-push_note.ensures ∙ ap (λ l. l ++ listed_remark (remark_made c.validator-item.result)) c.loop-validator.invariant ∙ sym more
