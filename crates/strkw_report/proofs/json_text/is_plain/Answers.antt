use Rattle.std.proofs.Common.{arith}
use Rattle.strkw_report.proofs.JsonText.{escape_plain, plain_more}
use Rattle.strkw_report.proofs.json_text.is_plain.Goals as goal

pub loop-byte-preserved : goal.loop-byte-preserved
loop-byte-preserved c =
    plain_more c.args.text.now c.loop-byte.byte-index (omega (arith, c.loop-byte-test.true)) c.loop-byte.invariant
    (escape_plain _ (omega (arith, c.if-byte-lt32.false)) c.if-byte-eq34.false c.if-byte-eq92.false)
