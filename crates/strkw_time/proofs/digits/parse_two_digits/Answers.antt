use Rattle.std.proofs.Common.{arith}
use Rattle.strkw_time.proofs.Words.{two_digits_by_word}
use Rattle.strkw_time.proofs.digits.parse_two_digits.Goals as goal

pub returns : goal.returns
returns c =
    let fits = c.type_inv.bytes in
    let reads = two_digits_by_word c.args.bytes.now c.from_le_bytes-word.result c.requires (omega (arith, fits 0)) (omega (arith, fits 1))
    c.from_le_bytes-word.ensures in
    reads.0 c.if-halves-halves_with_six-ne0.false

pub returns-then-halves-halves_with_six-ne0 : goal.returns-then-halves-halves_with_six-ne0
returns-then-halves-halves_with_six-ne0 c =
    let fits = c.type_inv.bytes in
    let reads = two_digits_by_word c.args.bytes.now c.from_le_bytes-word.result c.requires (omega (arith, fits 0)) (omega (arith, fits 1))
    c.from_le_bytes-word.ensures in
    λ d. c.if-halves-halves_with_six-ne0.true (reads.1 d)
