use Rattle.std.proofs.Common.{◌++◌, string_bytes}
use Rattle.std.proofs.KnownBytes.{Appends-trans}
use Rattle.neldrafi_check.proofs.FileLemmas.{fresh_remaining}
use Rattle.neldrafi_check.proofs.lines.check_lines.Goals as goal

pub returns-in-Ok-check_each : goal.returns-in-Ok-check_each
returns-in-Ok-check_each g c = record {
  messages = λ text is.
      let r = c.in-Ok.ensures in
      let told = c.in-Ok-check_each.ensures text (fresh_remaining g.R.Read.remaining c.in-Ok.reader c.args.file text r.inner r.empty r.capacity is) in (
        told.0 ++ string_bytes c.check_each.new.out,
        told.1,
        Appends-trans (g.W.Write.contents c.args.writer.now) _ _ _ _ told.2 c.in_ok-write_out-in-Ok-check_each.ensures.written,
      );
}
