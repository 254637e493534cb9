use Rattle.std.proofs.Common.{inl, inr}
use Rattle.neldrafi_csv.proofs.ScanLemmas.{misplaced-end}
use Rattle.neldrafi_csv.proofs.scan.end_misplaced.Goals as goal

pub returns : goal.returns
returns c =
    let run = c.unended_run.ensures in
    misplaced-end c.args.delimiter.byte c.args.bytes.now c.args.from c.unended_run.result c.args.is_last c.requires.within c.requires.misplaced run.within run.run
    run.stops
    (λ whole. elim c.else-end-bytes.either [ inl last ↦ last.1 | inr short ↦ absurd (short whole) ])
