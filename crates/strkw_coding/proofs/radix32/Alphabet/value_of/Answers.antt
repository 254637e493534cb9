use Rattle.strkw_coding.proofs.Groups.{table_value}
use Rattle.strkw_coding.proofs.radix32.Alphabet.value_of.Goals as goal

pub returns-clause-value : goal.returns-clause-value
returns-clause-value c = rw (c.from-2.ensures, c.from.ensures)
    (table_value c.args.self.now.letters c.args.self.now.places c.args.character c.args.self.now.table c.ranges.character.fits)
