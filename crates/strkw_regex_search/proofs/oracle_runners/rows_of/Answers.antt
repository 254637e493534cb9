use Rattle.std.proofs.Common.{◌≡◌, ◌+◌, ◌++◌, ◌∷◌, [], Bool, List, drop, sym, ap, ◌∙◌}
use Rattle.std.specs.Str.{chars}
use Rattle.std.proofs.lemmas.List.{drop_more}
use Rattle.strkw_regex_search.specs.machine.Bits.{rows_of}
use Rattle.strkw_regex_search.specs.machine.OracleRunners.{seeking_of, seekings}
use Rattle.strkw_regex_search.specs.machine.Seeking.{row_of, rows_behind}
use Rattle.strkw_regex_search.specs.declared.bits.Bits.{Bits}
use Rattle.strkw_regex_search.specs.declared.oracle_runner.OracleRunner.{OracleRunner}
use Rattle.strkw_regex_search.proofs.OracleCode.{rows_append}
use Rattle.strkw_regex_search.proofs.oracle_runners.rows_of.Goals as goal

pub loop-seeker-preserved : goal.loop-seeker-preserved
loop-seeker-preserved c =
    let seekers = c.args.seekers.now in
    let k = c.loop-seeker.seeker-index in
    let text = chars c.args.text.now in
    let rows = rows_of c.loop-seeker.rows.items in
    let x = c.seeker-item.result in
    let rest = seekings (drop (k + 1) seekers) in
    let left : drop k seekers ≡ x ∷ drop (k + 1) seekers =
    drop_more seekers k x c.loop-seeker-test.true ∙ ap (λ (s : OracleRunner). s ∷ drop (k + 1) seekers) (sym c.seeker-item.is) in
    ap (λ (l : List Bits). rows_behind (rows_of l) text rest) c.in_ok-push.ensures.items
    ∙ ap (λ (l : List (List Bool)). rows_behind l text rest) (rows_append c.loop-seeker.rows.items c.in_ok-bits.bits)
    ∙ ap (λ (l : List Bool). rows_behind (rows ++ (l ∷ [])) text rest)
    (c.in_ok-bits.ensures ∙ ap (λ (l : List Bits). row_of (rows_of l) text (seeking_of x)) c.deref.ensures.value)
    ∙ sym (ap (λ (l : List OracleRunner). rows_behind rows text (seekings l)) left) ∙ c.loop-seeker.invariant
