use Rattle.std.proofs.Common.{◌<◌, length, sym, ap, ◌∙◌, arith}
use Rattle.std.proofs.lemmas.List.{length-take-le}
use Rattle.strkw_coding.proofs.FirstBlocks.{front_block, positive, too_short}
use Rattle.strkw_coding.proofs.radix32.Alphabet.first_block.Goals as goal

pub returns-then-text-lt8 : goal.returns-then-text-lt8
returns-then-text-lt8 c = λ (b, bytes, is). too_short c.args.self.now.letters c.args.text.now b c.requires.some c.if-text-lt8.true bytes is

pub returns-in_default : goal.returns-in_default
returns-in_default c = λ (b, bytes, is).
    let f = front_block c.args.self.now.letters c.args.text.now c.split_at.result.0.now c.split_at.result.1.now b c.split_at.ensures.front
    c.split_at.ensures.back c.requires.some bytes is in
    c.in_default.ensures.only f.0 f.1 f.2 f.3 f.4

pub returns-then-not-is_empty : goal.returns-then-not-is_empty
returns-then-not-is_empty c = λ (b, bytes, is).
    let f = front_block c.args.self.now.letters c.args.text.now c.split_at.result.0.now c.split_at.result.1.now b c.split_at.ensures.front
    c.split_at.ensures.back c.requires.some bytes is in
    let p = c.in-Some.ensures.only f.0 f.1 f.2 f.3 f.4 in
    let found = c.in-Some.ensures.found in
    let len = length-take-le c.in-Some.group.len c.in-Some.group.bytes (omega (arith, found.five, found.few)) in
    let same = ap length p in
    let short : length f.0 < 5 = omega (arith, len, same, c.if-group-lt5.true) in
    let none = ap length (f.5 short) in
    let more = positive _ (sym c.is_empty.ensures ∙ c.if-not-is_empty.true) in
    omega (arith, none, more)
