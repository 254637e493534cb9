use Rattle.std.proofs.Common.{◌≡◌, ◌<◌, length, get_or, rules, tests, sym, subst, ◌∙◌}
use Rattle.std.proofs.lemmas.List.{get_or_read}
use Rattle.std.proofs.lemmas.Bool.{false≢true}
use Rattle.strkw_label.proofs.AsciiCategories.{ascii_is_no_mark}
use Rattle.strkw_label.proofs.label_rules.begins_with_mark.Goals as goal

pub returns-then-is_ascii : goal.returns-then-is_ascii
returns-then-is_ascii c =
    let some : 0 < length c.args.label.now = search (rules, tests) in
    let read : c.index-label-0.result ≡ get_or c.args.label.now 0 0 = get_or_read _ _ _ some c.index-label-0.is 0 in
    let small : get_or c.args.label.now 0 0 < 128 = subst (λ x. x < 128) read (search (rules, tests)) in
    (λ e. absurd (false≢true e), λ h. sym (ascii_is_no_mark _ small) ∙ h.1)
