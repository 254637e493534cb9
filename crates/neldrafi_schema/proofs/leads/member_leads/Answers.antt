use Rattle.std.proofs.Common.{rules, ◌≡◌, refl, subst, string_bytes}
use Rattle.serde_json.specs.Data.{member}
use Rattle.serde_json.specs.View.{members_view, view}
use Rattle.neldrafi_schema.specs.Paths.{key}
use Rattle.neldrafi_schema.specs.Values.{member_leads, lead_below}
use Rattle.neldrafi_schema.specs.machine.Compiled.{path_of}
use Rattle.neldrafi_schema.specs.machine.Said.{lead_of}
use Rattle.neldrafi_schema.proofs.Finding.{all_found}
use Rattle.neldrafi_schema.proofs.Leading.{LeadsSoFar, no_leads, one_lead}
use Rattle.neldrafi_schema.proofs.leads.member_leads.Goals as goal

pub loop-name-init : goal.loop-name-init
loop-name-init c =
    let all = c.args.members.now.entries in
    let same : c.into_iter-name-iterator.result ≡ all = search rules in
    rw (same, c.new-leads.ensures.items) (no_leads (path_of c.args.at.now) (member_leads (path_of c.args.at.now)) (members_view all)
    (λ name d is. all_found all all c.iter-name-items.ensures.found name d is))

pub loop-name-preserved : goal.loop-name-preserved
loop-name-preserved c =
    let at = path_of c.args.at.now in
    let all = members_view c.args.members.now.entries in
    let name = string_bytes c.in-Some.name.now in
    let d = view c.in-Some.value.now in
    let rest = members_view c.next.new.self in
    let so_far : LeadsSoFar at (member_leads at) all (member name d rest) c.loop-name.leads.items =
    subst (λ es. LeadsSoFar at (member_leads at) all (members_view es) c.loop-name.leads.items) c.in-Some.ensures.steps c.loop-name.invariant in
    let path : lead_of c.in_ok-lead_below.field-0 ≡ lead_below at (key name) = search rules in
    one_lead at (member_leads at) all name d rest c.loop-name.leads.items c.push.new.self.items c.in_ok-lead_below.field-0 so_far refl path
    c.in_ok-lead_below.ensures.value c.in_ok-push.ensures.items
