use Rattle.std.proofs.Common.{◌≡◌, List, ℕ, ◌++◌, take, arith}
use Rattle.std.proofs.lemmas.List.{take_all}
use Rattle.strkw_coding.proofs.FirstBlocks.{decoded_on}
use Rattle.strkw_coding.proofs.radix32.Alphabet.push_full_blocks.Goals as goal

pub loop-group-init : goal.loop-group-init
loop-group-init c = λ whole to. to

pub loop-group-preserved : goal.loop-group-preserved
loop-group-preserved c = λ whole to.
    let first = c.in-Some.ensures in
    let five : List ℕ = c.in-Some.group.bytes in
    let pushed : c.extend_from_slice.new.self.items ≡ c.loop-group.bytes.items ++ five = c.in_ok-extend_from_slice.ensures.items in
    let all : take 5 five ≡ five = take_all 5 five (omega (arith, first.five)) in
    rw (pushed, ← all) (decoded_on _ _ _ _ _ _ _ first (c.loop-group.invariant whole to))
