use Rattle.std.proofs.Common.{rules, ◌≡◌, ◌++◌, ◌∷◌, [], None, Some}
use Rattle.std.specs.Prelude.{codes}
use Rattle.serde_json.specs.Data.{object}
use Rattle.serde_json.specs.Find.{get_member}
use Rattle.serde_json.specs.View.{members_view, view}
use Rattle.neldrafi_schema.specs.declared.leads.Lead.{Lead}
use Rattle.neldrafi_schema.specs.Paths.{key}
use Rattle.neldrafi_schema.specs.machine.Compiled.{path_of}
use Rattle.neldrafi_schema.specs.machine.Places.{IsPlace}
use Rattle.neldrafi_schema.proofs.Finding.{value_below}
use Rattle.neldrafi_schema.proofs.Leading.{only_lead}
use Rattle.neldrafi_schema.proofs.senses.branch_sense.Goals as goal

pub returns-clause-leads : goal.returns-clause-leads
returns-clause-leads g c = λ documents there.
    let path = path_of c.args.member.now.path.now in
    let first : IsPlace documents c.in_ok-lead_to.field-0.place =
    rw (only_lead c.in_ok-lead_to.field-0 (path_of c.args.member.now.at.now) c.in_ok-lead_to.ensures.path, c.in_ok-lead_to.ensures.value) there.value in
    let found : get_member (codes "if") (members_view c.args.member.now.object.now.entries) ≡ Some (view c.in-Some.value.now) = search rules in
    let below : path_of c.in_ok-path.path.items ≡ path ++ key (codes "if") ∷ [] = c.in_ok-path.ensures in
    let second : IsPlace documents (record { path = c.in_ok-path.path; value = c.in-Some.value }) =
    rw below (value_below path documents (key (codes "if")) (object (members_view c.args.member.now.object.now.entries)) (view c.in-Some.value.now) there.object found) in
    let one : Lead = c.in_ok-lead_to.field-0 in
    let two : Lead = record { key = None; place = record { path = c.in_ok-path.path; value = c.in-Some.value } } in
    let all : c.push-2.new.self.items ≡ one ∷ two ∷ [] = search rules in
    rw all (first, (second, tt))
