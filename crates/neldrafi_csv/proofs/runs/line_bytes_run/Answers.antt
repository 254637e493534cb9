use Rattle.std.proofs.Common.{◌≡◌, true, get_or, sym, ◌∙◌}
use Rattle.std.proofs.lemmas.List.{take_more}
use Rattle.neldrafi_csv.specs.Grammar.{is_line_byte}
use Rattle.neldrafi_csv.proofs.LineLemmas.{are_line_bytes-more}
use Rattle.neldrafi_csv.proofs.runs.line_bytes_run.Goals as goal

pub loop-at-init : goal.loop-at-init
loop-at-init c = tt

pub loop-at-preserved : goal.loop-at-preserved
loop-at-preserved c =
    let more = take_more c.args.bytes.now c.loop-at.at 0 c.loop-at-test.true in
    let line : is_line_byte (get_or c.args.bytes.now c.loop-at.at 0) ≡ true = sym c.is_line_byte.ensures ∙ c.if-not-is_line_byte.false in
    rw more (are_line_bytes-more _ _ c.loop-at.invariant line)
