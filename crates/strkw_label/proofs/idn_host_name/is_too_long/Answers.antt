use Rattle.std.proofs.Common.{subst}
use Rattle.std.specs.Bool.{MatchBool}
use Rattle.std.specs.Str.{IsAscii, IsNotAscii}
use Rattle.strkw_label.proofs.LongNames.{many_bytes, many_in_ascii}
use Rattle.strkw_label.proofs.idn_host_name.is_too_long.Goals as goal

pub returns-then-text-gt-MOST_BYTES : goal.returns-then-text-gt-MOST_BYTES
returns-then-text-gt-MOST_BYTES c = λ t. many_bytes c.args.text.now c.utf8.text c.if-text-gt-MOST_BYTES.true

pub returns-then-text-gt-LONGEST_HOST_NAME : goal.returns-then-text-gt-LONGEST_HOST_NAME
returns-then-text-gt-LONGEST_HOST_NAME c = λ t.
    let ascii = subst (λ b. MatchBool b (IsAscii c.args.text.now) (IsNotAscii c.args.text.now)) t c.is_ascii.ensures.cases in
    many_in_ascii c.args.text.now ascii c.if-text-gt-LONGEST_HOST_NAME.true
