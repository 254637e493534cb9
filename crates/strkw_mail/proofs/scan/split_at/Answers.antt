use Rattle.std.proofs.Common.{eqb, sym, ◌∙◌, rules, tests}
use Rattle.std.proofs.lemmas.Iterator.{YieldsList-from_slice}
use Rattle.std.proofs.lemmas.Iterator.Search.{position_from_yields_List}
use Rattle.strkw_mail.proofs.Scans.{cut_at_position}
use Rattle.strkw_mail.proofs.scan.split_at.Goals as goal

pub returns-clause-cases : goal.returns-clause-cases
returns-clause-cases c =
    let bs = c.args.bytes.now in
    let w = c.args.wanted in
    let found = position_from_yields_List (λ b. eqb b w) _ _ c.position.result c.position.ensures.ran (YieldsList-from_slice bs cc)
    (λ x b q k. search (rules, tests)) in
    cut_at_position w bs c.in_ok-at.at (sym found ∙ c.in_ok-at.was)
