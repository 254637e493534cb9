use Rattle.std.proofs.Common.{sym, arith}
use Rattle.strkw_text.proofs.Runs.{run_push}
use Rattle.strkw_uri.specs.Scan.{is_part_char}
use Rattle.strkw_uri.specs.Uri.{Encoded}
use Rattle.strkw_uri.specs.declared.part.Syntax.TheVariants.{Rfc3987}
use Rattle.strkw_uri.proofs.Encodings.{encoded_char}
use Rattle.strkw_uri.proofs.AsciiRuns.{part_from_wide}
use Rattle.strkw_uri.proofs.scan.after_wide.Goals as goal

pub loop-c-preserved : goal.loop-c-preserved
loop-c-preserved c =
    let class = is_part_char Rfc3987 c.args.part in
    let is_wide = part_from_wide Rfc3987 c.args.part c.in-Some.c (sym c.if-not-is_wide_part_char.ensures) in
    let one = encoded_char class c.in-Some.c _ _ c.in-Some.ensures.cases is_wide in (
      c.in-Some.ensures.utf8,
      run_push (Encoded class) _ _ _ c.loop-c.invariant.1 one,
      omega (arith, c.in-Some.ensures.shorter, c.loop-c.invariant.2),
    )
