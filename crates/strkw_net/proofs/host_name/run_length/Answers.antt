use Rattle.std.proofs.Common.{not, length, ap, ◌∙◌, rules, tests}
use Rattle.std.specs.Option.{unwrap_or}
use Rattle.std.proofs.lemmas.Iterator.{YieldsList-from_slice}
use Rattle.std.proofs.lemmas.Iterator.Search.{position_from_yields_List}
use Rattle.strkw_net.specs.HostName.{is_letter_digit_hyphen}
use Rattle.strkw_net.proofs.FirstLabels.{run_by_position}
use Rattle.strkw_net.proofs.host_name.run_length.Goals as goal

pub returns : goal.returns
returns c =
    let bs = c.args.bytes.now in
    let found = position_from_yields_List (λ b. not (is_letter_digit_hyphen b)) _ _ c.position.result c.position.ensures.ran (YieldsList-from_slice bs cc)
    (λ x b q k. search (rules, tests)) in
    c.unwrap_or.ensures ∙ ap (λ o. unwrap_or o (length bs)) found ∙ run_by_position bs
