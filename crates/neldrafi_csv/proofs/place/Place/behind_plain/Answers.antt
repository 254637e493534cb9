use Rattle.std.proofs.Common.{refl}
use Rattle.neldrafi_csv.proofs.LineLemmas.{place_after-plain}
use Rattle.neldrafi_csv.proofs.place.Place.behind_plain.Goals as goal

pub returns-then-self : goal.returns-then-self
returns-then-self c bytes none same = place_after-plain c.args.self c.args.count _ bytes (rw c.if-self.true refl) none same

pub returns-else-self : goal.returns-else-self
returns-else-self c bytes none same = place_after-plain c.args.self c.args.count _ bytes (rw c.if-self.false refl) none same
