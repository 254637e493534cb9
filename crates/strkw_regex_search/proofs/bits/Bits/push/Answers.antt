use Rattle.std.proofs.Common.{◌≡◌, ℕ, ◌+◌, ◌*◌, ◌<◌, ◌^◌, bit_or, sym, ap, subst, ◌∙◌, arith}
use Rattle.std.proofs.lemmas.Nat.{or_shifted}
use Rattle.strkw_regex_search.proofs.Bitted.{digit, bit_within, put_in, put_full}
use Rattle.strkw_regex_search.proofs.bits.Bits.push.Goals as goal

pub invariant_of-self : goal.invariant_of-self
invariant_of-self c =
    let b = c.args.self.now in
    let put : bit_or c.raise.result b.last ≡ digit c.args.bit * 2 ^ b.filled + b.last =
    ap (λ (n : ℕ). bit_or n b.last) c.raise.ensures ∙ or_shifted (digit c.args.bit) b.filled b.last b.low in
    record {
      room = c.if-self-lt-WORD_BITS.true;
      low = subst (λ (n : ℕ). n < 2 ^ (b.filled + 1)) (sym put) (bit_within c.args.bit b.filled b.last b.low);
    }

pub returns-then-self-lt-WORD_BITS : goal.returns-then-self-lt-WORD_BITS
returns-then-self-lt-WORD_BITS c =
    let b = c.args.self.now in
    put_in b.words.items b.last b.filled _ c.args.bit b.low
    (ap (λ (n : ℕ). bit_or n b.last) c.raise.ensures ∙ or_shifted (digit c.args.bit) b.filled b.last b.low)

pub returns : goal.returns
returns c =
    let b = c.args.self.now in
    put_full b.words.items b.last b.filled _ c.args.bit b.low
    (ap (λ (n : ℕ). bit_or n b.last) c.raise.ensures ∙ or_shifted (digit c.args.bit) b.filled b.last b.low)
    (omega (arith, b.room, c.if-self-lt-WORD_BITS.false)) _ c.in_ok-push.ensures.items
