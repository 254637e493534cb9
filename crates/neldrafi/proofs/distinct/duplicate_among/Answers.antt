use Rattle.std.proofs.Common.{◌≡◌, true, false, arith}
use Rattle.std.specs.BTreeSet.{contains}
use Rattle.neldrafi.proofs.Names.{name_cmp, all_seen, next_again, next_seen}
use Rattle.neldrafi.proofs.distinct.duplicate_among.Goals as goal

pub returns-then-not-branch : goal.returns-then-not-branch
returns-then-not-branch c =
    let has : contains name_cmp c.loop-member.names c.member-item.result.0 ≡ true = grind arith in
    next_again c.loop-member.names c.args.members.now c.loop-member.member-index c.loop-member.invariant c.member-item.result c.member-item.is (omega arith) has

pub loop-member-preserved : goal.loop-member-preserved
loop-member-preserved c =
    let new : contains name_cmp c.loop-member.names c.member-item.result.0 ≡ false = grind arith in
    next_seen c.loop-member.names c.args.members.now c.loop-member.member-index c.loop-member.invariant c.member-item.result c.member-item.is (omega arith)
    c.insert.new.self new c.in_ok-insert.ensures.updates

pub returns : goal.returns
returns c = all_seen c.loop-member.names c.args.members.now c.loop-member.member-index c.loop-member.invariant (omega arith)
