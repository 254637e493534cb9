use Rattle.strkw_coding.proofs.Base16.{digits_answer, odd_answer}
use Rattle.strkw_coding.proofs.radix16.is_base16.Goals as goal

pub returns-then-text-eq0 : goal.returns-then-text-eq0
returns-then-text-eq0 c = digits_answer c.args.text.now _ c.if-text-eq0.true c.are_hex_digits.ensures

pub returns-else-text-eq0 : goal.returns-else-text-eq0
returns-else-text-eq0 c = odd_answer c.args.text.now c.if-text-eq0.false
