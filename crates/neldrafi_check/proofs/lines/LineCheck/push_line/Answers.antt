use Rattle.neldrafi_check.proofs.FileLemmas.{adds_not_utf8}
use Rattle.neldrafi_check.proofs.lines.LineCheck.push_line.Goals as goal

pub returns-in_default : goal.returns-in_default
returns-in_default g c = adds_not_utf8 _ (g.F.ErrorForm.writes c.args.self.now.form.now) c.args.self.now.kind c.args.number c.args.line.now _ _ _ c.in_default.ensures c.push_unread.ensures
