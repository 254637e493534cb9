use Rattle.std.proofs.Common.{◌++◌, string_bytes}
use Rattle.std.proofs.KnownBytes.{Appends-trans}
use Rattle.neldrafi_check.proofs.tables.check_table.Goals as goal

pub returns-in-Ok : goal.returns-in-Ok
returns-in-Ok g c = record {
  messages = λ place text left.
      let told = c.in-Ok.ensures place text left in (
        told.0 ++ string_bytes c.check_each.new.out,
        told.1,
        Appends-trans (g.W.Write.contents c.args.writer.now) _ _ _ _ told.2 c.in_ok-write_out-in-Ok.ensures.written,
      );
}
