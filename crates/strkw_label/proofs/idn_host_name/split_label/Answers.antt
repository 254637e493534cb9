use Rattle.std.proofs.Common.{◌≡◌, true, false, get_or, take_all, All, arith, sym, ap, subst, ◌∙◌}
use Rattle.std.proofs.lemmas.List.{get_or_read}
use Rattle.std.proofs.lemmas.List.Elements.{All-more}
use Rattle.std.proofs.lemmas.List.Splits.{slice_split_none}
use Rattle.strkw_label.specs.IdnHostName.{is_label_separator}
use Rattle.strkw_label.proofs.Splitting.{split_here}
use Rattle.strkw_label.proofs.idn_host_name.split_label.Goals as goal

pub returns-then-is_label_separator-clause-parts : goal.returns-then-is_label_separator-clause-parts
returns-then-is_label_separator-clause-parts c =
    let text = c.args.text.now in
    let at = c.loop-at.at in
    let read : c.index-text-at.result ≡ get_or text at 0 = get_or_read text at _ c.loop-at-test.true c.index-text-at.is 0 in
    let sep : is_label_separator (get_or text at 0) ≡ true =
    ap is_label_separator (sym read) ∙ sym c.is_label_separator.ensures ∙ c.if-is_label_separator.true in
    split_here text at c.loop-at-test.true sep c.loop-at.invariant

pub loop-at-preserved : goal.loop-at-preserved
loop-at-preserved c =
    let text = c.args.text.now in
    let at = c.loop-at.at in
    let read : c.index-text-at.result ≡ get_or text at 0 = get_or_read text at _ c.loop-at-test.true c.index-text-at.is 0 in
    All-more (λ x. is_label_separator x ≡ false) text at 0 c.loop-at-test.true c.loop-at.invariant
    (ap is_label_separator (sym read) ∙ sym c.is_label_separator.ensures ∙ c.if-is_label_separator.false)

pub returns-clause-parts : goal.returns-clause-parts
returns-clause-parts c =
    let text = c.args.text.now in
    slice_split_none is_label_separator text
    (subst (All (λ x. is_label_separator x ≡ false)) (take_all c.loop-at.at text (omega (arith, c.loop-at-test.false))) c.loop-at.invariant)
