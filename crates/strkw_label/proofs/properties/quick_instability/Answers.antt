use Rattle.std.proofs.Common.{◌≡◌, length, refl, sym, rules, tests}
use Rattle.strkw_label.proofs.Stability.{unstable_from_abnormal, stable_from_normal}
use Rattle.strkw_label.proofs.properties.quick_instability.Goals as goal

pub returns-in-No : goal.returns-in-No
returns-in-No c = sym (unstable_from_abnormal c.args.c (c.in-No.ensures.no refl))

pub returns-then-is_empty : goal.returns-then-is_empty
returns-then-is_empty c =
    let none : length c.full_folding.result.now ≡ 0 = search (rules, tests) in
    sym (stable_from_normal c.args.c c.full_folding.result.now (c.in-Yes.ensures.yes refl) c.full_folding.ensures.value none)
