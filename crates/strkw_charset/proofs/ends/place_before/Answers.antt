use Rattle.std.proofs.Common.{◌≡◌, ◌+◌, ◌-◌, ℕ, drop, ap, ◌∙◌, arith}
use Rattle.ucd_table.specs.Steps.{run_value}
use Rattle.ucd_table.proofs.RunsLemmas.{run_value-after}
use Rattle.strkw_charset.proofs.ends.place_before.Goals as goal

pub returns : goal.returns
returns c d from =
    let runs = c.args.runs.now in
    let next : c.args.place - 1 + 1 ≡ c.args.place = omega arith in
    run_value-after runs (c.args.place - 1) d c.requires (omega arith) (omega (arith, from)) ∙ ap (λ (k : ℕ). run_value (drop k runs) d) next
