use Rattle.std.proofs.Common.{◌-◌, ◌∙◌, ap, take}
use Rattle.neldrafi_csv.proofs.BufferLemmas.{moved}
use Rattle.neldrafi_csv.proofs.buffer.move_to_front.Goals as goal

pub returns-clause-moved : goal.returns-clause-moved
returns-clause-moved c =
    ap (take (c.args.to - c.args.from)) c.copy_within.ensures.items ∙ moved c.args.bytes.now.items c.args.from c.args.to c.requires.ordered c.requires.within
