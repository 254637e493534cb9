use Rattle.std.proofs.Common.{◌≡◌, ◌<◌, length, get_or, rules, tests, not, sym, ap, subst, ◌∙◌, lit<}
use Rattle.std.proofs.lemmas.List.{nil_from_length}
use Rattle.strkw_label.proofs.AsciiCategories.{ascii_is_no_mark}
use Rattle.strkw_label.proofs.unicode_label.begins_with_mark.Goals as goal

pub returns-else-not-is_empty : goal.returns-else-not-is_empty
returns-else-not-is_empty c =
    let label = c.args.label.now in
    let none : length label ≡ 0 = search (rules, tests) in
    let small : get_or label 0 0 < 128 = subst (λ x. get_or x 0 0 < 128) (sym (nil_from_length label none)) (lit< tt) in
    ap not c.if-not-is_empty.false ∙ sym (ascii_is_no_mark (get_or label 0 0) small)
