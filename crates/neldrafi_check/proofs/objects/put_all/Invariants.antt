use Rattle.std.proofs.Common.{◌≡◌, drop}
use Rattle.serde_json.specs.View.{members_view}
use Rattle.neldrafi_check.specs.Objects.{with_members}
use Rattle.neldrafi_check.proofs.objects.put_all.Given as goal

-- with the members that are left, the object is the one with all of them
abbrev pub invariant-loop-member : goal.invariant-loop-member
invariant-loop-member l =
    with_members (drop l.member-index l.members) (members_view l.object.entries) ≡ with_members l.members (members_view l.initial.object.entries)
