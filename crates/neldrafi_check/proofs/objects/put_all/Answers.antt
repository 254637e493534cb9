use Rattle.std.proofs.Common.{◌∙◌, arith, sym}
use Rattle.serde_json.specs.View.{members_view}
use Rattle.neldrafi_check.proofs.ObjectLemmas.{none_left, put_next}
use Rattle.neldrafi_check.proofs.objects.put_all.Goals as goal

pub loop-member-preserved : goal.loop-member-preserved
loop-member-preserved c =
    put_next c.args.members.now c.loop-member.member-index c.member-item.result _ _ _ (omega arith) c.member-item.is c.in_ok-value.ensures c.in_ok-put.ensures.ok ∙ c.loop-member.invariant

pub returns : goal.returns
returns c =
    sym (none_left c.args.members.now c.loop-member.member-index (omega arith) (members_view c.loop-member.object.entries)) ∙ c.loop-member.invariant
