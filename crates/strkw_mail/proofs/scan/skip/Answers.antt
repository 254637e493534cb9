use Rattle.std.proofs.Common.{◌-◌, not, length, drop, ap, subst, sym, ◌∙◌, arith, rules, tests}
use Rattle.std.specs.Option.{unwrap_or}
use Rattle.std.proofs.lemmas.Iterator.{YieldsList-from_slice}
use Rattle.std.proofs.lemmas.Iterator.Search.{position_from_yields_List}
use Rattle.std.proofs.lemmas.List.{take_all, length-drop}
use Rattle.strkw_text.specs.Abnf.{OneOf}
use Rattle.strkw_text.specs.Fronts.{RunThen}
use Rattle.strkw_mail.specs.Scan.{is_class_char}
use Rattle.strkw_mail.proofs.Scans.{first_other, run_to_first_other}
use Rattle.strkw_mail.proofs.scan.skip.Goals as goal

pub returns-clause-run : goal.returns-clause-run
returns-clause-run c =
    let bs = c.args.bytes.now in
    let p = is_class_char c.args.class in
    let n = c.unwrap_or-len.result in
    let found = position_from_yields_List (λ b. not (p b)) _ _ c.position.result c.position.ensures.ran (YieldsList-from_slice bs cc)
    (λ x b q k. search (rules, tests)) in
    let is = c.unwrap_or-len.ensures ∙ ap (λ o. unwrap_or o (length bs)) found ∙ first_other p bs in
    let rest = take_all (length bs - n) (drop n bs) (omega (arith, length-drop n bs)) in
    subst (RunThen (OneOf p) bs) (ap (λ k. drop k bs) (sym is) ∙ sym rest) (run_to_first_other p bs)
