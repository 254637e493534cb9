use Rattle.strkw_coding.proofs.GroupCodes.{group_code-code}
use Rattle.strkw_coding.proofs.radix32.Alphabet.code_of.Goals as goal

pub returns : goal.returns
returns c =
    let g = group_code-code c.args.self.now.letters c.args.bytes.now c.args.len c.told-bytes c.fits-bytes c.requires.some c.requires.few c.requires.zeros in
    rw (
      c.letter.ensures,
      c.letter-2.ensures,
      c.letter-3.ensures,
      c.letter-4.ensures,
      c.letter-5.ensures,
      c.letter-6.ensures,
      c.letter-7.ensures,
      c.letter-8.ensures,
    ) g
