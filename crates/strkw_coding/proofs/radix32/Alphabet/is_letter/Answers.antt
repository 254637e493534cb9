use Rattle.strkw_coding.proofs.Groups.{table_letter}
use Rattle.strkw_coding.proofs.radix32.Alphabet.is_letter.Goals as goal

pub returns : goal.returns
returns c = rw c.from.ensures
    (table_letter c.args.self.now.letters c.args.self.now.places c.args.character c.args.self.now.table c.ranges.character.fits)
