use Rattle.std.proofs.Common.{sym}
use Rattle.strkw_text.proofs.Runs.{run_push}
use Rattle.strkw_uri.specs.Scan.{is_part_char}
use Rattle.strkw_uri.specs.Uri.{Encoded}
use Rattle.strkw_uri.specs.declared.part.Syntax.TheVariants.{Rfc3987}
use Rattle.strkw_uri.proofs.Encodings.{encoded_char}
use Rattle.strkw_uri.proofs.AsciiRuns.{run_more, part_from_wide, part_stops_at}
use Rattle.strkw_uri.proofs.scan.skip_wide.Goals as goal

pub loop-c-preserved : goal.loop-c-preserved
loop-c-preserved c =
    let class = is_part_char Rfc3987 c.args.part in
    let is_wide = part_from_wide Rfc3987 c.args.part c.in-Some.c (sym c.if-not-is_wide_part_char.ensures) in
    let one = run_push (Encoded class) _ _ _ c.loop-c.invariant.1 (encoded_char class c.in-Some.c _ _ c.in-Some.ensures.cases is_wide) in (
      c.after_ascii-rest-in-Some.utf8,
      run_more (Encoded class) _ _ _ (run_more (Encoded class) _ _ _ one c.after_wide.ensures.run) c.after_ascii-rest-in-Some.ensures.run,
      c.after_ascii-rest-in-Some.ensures.stops,
    )

pub returns-then-not-is_wide_part_char : goal.returns-then-not-is_wide_part_char
returns-then-not-is_wide_part_char c = record {
  run = c.loop-c.invariant.1;
  stops = part_stops_at Rfc3987 c.args.part c.in-Some.c _ _ c.in-Some.ensures.cases c.loop-c.invariant.2 (sym c.if-not-is_wide_part_char.ensures);
}
