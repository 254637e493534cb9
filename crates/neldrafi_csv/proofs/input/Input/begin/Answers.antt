use Rattle.neldrafi_csv.proofs.InputLemmas.{begun-text}
use Rattle.neldrafi_csv.proofs.input.Input.begin.Goals as goal

pub returns-clause-text : goal.returns-clause-text
returns-clause-text g c text e =
    let skip = c.skip_mark.ensures in
    begun-text g.R.Read.remaining c.args.self.now c.skip_mark.new.self text c.skip_mark.result c.if-self.false e skip.ok skip.err skip.begun skip.not_begun
