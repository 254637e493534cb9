use Rattle.std.proofs.Common.{◌≡◌, ◌≤◌, ◌+◌, ◌-◌, arith, drop, length, length-drop, rules, sym, take}
use Rattle.std.proofs.lemmas.List.{length-take-le, take_rest}
use Rattle.neldrafi_csv.proofs.BufferLemmas.{read-there}
use Rattle.neldrafi_csv.proofs.buffer.read_behind.Goals as goal

pub returns-clause-read : goal.returns-clause-read
returns-clause-read g c =
    let count = c.in_ok-count.count in
    let items = c.args.bytes.now.items in
    let bound = c.in_ok-count.ensures.bound in
    let long : c.args.bytes.now.len ≡ length items = search rules in
    let within : c.args.filled + count ≤ length items = search rules in (
      take count c.read.new.buf,
      sym bound.1,
      read-there items c.deref_mut.result.now c.read.new.buf _ _ c.args.filled count c.args.bytes.now.len c.deref_mut.ensures.value long within bound.0,
      c.in_ok-count.ensures.bytes.0,
    )
