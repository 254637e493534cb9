use Rattle.std.proofs.Common.{◌≡◌, ◌-◌, List, ℕ, length, sym, ap, ◌∙◌, drop, replicate, take, false, true, arith}
use Rattle.std.proofs.lemmas.List.{drop_at, length-replicate, take_all, take_at}
use Rattle.std.proofs.lemmas.Slice.Eq.{bytes_eq-Decides}
use Rattle.std.specs.Str.{bytes_eq}
use Rattle.strkw_coding.specs.Blocks.{code32}
use Rattle.strkw_coding.proofs.radix32.Alphabet.decode_block.Goals as goal

pub returns-else-eq-clause-only : goal.returns-else-eq-clause-only
returns-else-eq-clause-only c = λ p bytes some few is.
    let g = c.group_of-group.ensures.only p bytes some few is in
    let front : take c.group_of-group.result.len c.group_of-group.result.bytes ≡ p = rw g.1 (take_at p _ _ (sym g.0)) in
    let same : c.args.block.now ≡ c.as_slice.result.now = is ∙ ap (code32 c.args.self.now.letters) (sym front) ∙ sym c.code_of-code.ensures
    ∙ sym c.as_slice.ensures in
    let yes : bytes_eq c.args.block.now c.as_slice.result.now ≡ true = (bytes_eq-Decides _ _).1 same in
    cc (yes, c.eq.ensures, c.if-eq.false)

pub returns-then-not-is_zero-clause-only : goal.returns-then-not-is_zero-clause-only
returns-then-not-is_zero-clause-only c = λ p bytes some few is.
    let g = c.group_of-group.ensures.only p bytes some few is in
    let len = c.group_of-group.result.len in
    let zeros : List ℕ = replicate (5 - length p) 0 in
    let size : length zeros ≡ 5 - length p = length-replicate (5 - length p) 0 in
    let after : drop len c.group_of-group.result.bytes ≡ zeros = rw g.1 (drop_at p zeros _ (sym g.0)) in
    let back : take (5 - len) (drop len c.group_of-group.result.bytes) ≡ zeros = ap (take (5 - len)) after
    ∙ take_all (5 - len) zeros (omega (arith, size, g.0)) in
    let all : c.is_zero.result ≡ true = c.is_zero.ensures.1 (back ∙ ap (λ n. replicate n 0) (sym (ap length back ∙ size))) in
    let not_all : c.is_zero.result ≡ false = c.if-not-is_zero.true in
    cc (all, not_all)
