use Rattle.std.proofs.Common.{sym, subst}
use Rattle.std.specs.Str.{chars}
use Rattle.strkw_text.specs.Fronts.{StartsWithNo}
use Rattle.strkw_uri.specs.Scan.{is_part_char}
use Rattle.strkw_uri.specs.Uri.{Encoded}
use Rattle.strkw_uri.proofs.scan.skip.Goals as goal

pub returns-in-Rfc3986 : goal.returns-in-Rfc3986
returns-in-Rfc3986 c = record {
  run = c.after_ascii.ensures.run;
  stops = subst (λ s. StartsWithNo (Encoded (is_part_char s c.args.part)) (chars c.after_ascii.result.now)) (sym c.in-Rfc3986.is) c.after_ascii.ensures.stops;
}
