use Rattle.serde_json.specs.View.{members_view}
use Rattle.neldrafi_schema.specs.Values.{dependency_leads}
use Rattle.neldrafi_schema.specs.machine.Compiled.{path_of}
use Rattle.neldrafi_schema.proofs.Leading.{LeadsSoFar}
use Rattle.neldrafi_schema.proofs.leads.dependency_leads.Given as goal

-- the leads so far, with members that are left
abbrev pub invariant-loop-name : goal.invariant-loop-name
invariant-loop-name l =
    LeadsSoFar (path_of l.at) (dependency_leads (path_of l.at)) (members_view l.members.entries) (members_view l.name-iterator) l.leads.items
