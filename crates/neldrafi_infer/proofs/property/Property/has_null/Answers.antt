use Rattle.neldrafi_infer.proofs.property.Property.has_null.Goals as goal
use Rattle.neldrafi_infer.proofs.PropertyLemmas.{null_if}

pub returns : goal.returns
returns c ss of = null_if ss c.args.self.now.values c.args.self.now.total of.values of.total
