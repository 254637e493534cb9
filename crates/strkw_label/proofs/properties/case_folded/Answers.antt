use Rattle.std.proofs.Common.{◌∙◌, [], ◌∷◌, ◌++◌, take, sym, ap}
use Rattle.std.proofs.lemmas.List.{take_more, get_or_read}
use Rattle.caseless.specs.Caseless.{default_case_fold}
use Rattle.caseless.proofs.CaselessLemmas.{default_case_fold-nil}
use Rattle.strkw_label.proofs.Stability.{folded_push}
use Rattle.strkw_label.proofs.properties.case_folded.Goals as goal

pub loop-c-init : goal.loop-c-init
loop-c-init c = c.new-folded.ensures.items ∙ sym default_case_fold-nil

pub loop-c-preserved : goal.loop-c-preserved
loop-c-preserved c =
    let text = c.args.text.now in
    let at = c.loop-c.c-index in
    folded_push (take at text) c.c-item.result c.loop-c.folded.items c.push_folded.new.folded.items c.loop-c.invariant c.in_ok-push_folded.ensures
    ∙ ap (λ x. default_case_fold (take at text ++ x ∷ [])) (get_or_read text at _ c.loop-c-test.true c.c-item.is 0)
    ∙ ap default_case_fold (sym (take_more text at 0 c.loop-c-test.true))
