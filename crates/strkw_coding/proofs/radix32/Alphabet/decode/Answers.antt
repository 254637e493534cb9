use Rattle.std.proofs.Common.{◌≡◌, List, ℕ, [], take, ◌++◌}
use Rattle.strkw_coding.proofs.FirstBlocks.{decoded_on, none_decoded}
use Rattle.strkw_coding.proofs.radix32.Alphabet.decode.Goals as goal

pub loop-rest-init : goal.loop-rest-init
loop-rest-init c =
    let empty : c.in_ok-bytes.bytes.items ≡ [] = c.in_ok-bytes.ensures.items in
    c.in_ok-rest.ensures c.args.text.now (rw empty (none_decoded c.args.self.now.letters c.args.text.now))

pub loop-rest-preserved : goal.loop-rest-preserved
loop-rest-preserved c =
    let p : List ℕ = take c.in-Some.group.len c.in-Some.group.bytes in
    let pushed : c.extend_from_slice.new.self.items ≡ c.loop-rest.bytes.items ++ p = c.in_ok-extend_from_slice.ensures.items in
    rw pushed (decoded_on _ _ _ _ _ _ _ c.in-Some.ensures c.loop-rest.invariant)
