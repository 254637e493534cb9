use Rattle.std.proofs.Common.{◌≡◌, [], arith, refl, subst}
use Rattle.std.specs.Vec.Iter.{into_iter_items}
use Rattle.neldrafi_schema.specs.declared.node.Branch.{Branch}
use Rattle.neldrafi_schema.specs.machine.Places.{scope_of}
use Rattle.neldrafi_schema.proofs.Lists.{nothing_in}
use Rattle.neldrafi_schema.proofs.Numbering.{NumberedSoFar, all_numbered, one_numbered}
use Rattle.neldrafi_schema.proofs.branches.branches_of.Goals as goal

pub loop-lead-preserved : goal.loop-lead-preserved
loop-lead-preserved c =
    let rest = into_iter_items c.next.new.self in
    let branch : Branch = record { key = c.in-Some.lead.key; schema = c.in_ok-schema.schema } in
    one_numbered c.args.places.now (scope_of c.args.scope.now) c.args.leads.items c.in-Some.lead rest c.loop-lead.places c.number_of.new.places c.loop-lead.branches.items c.push.new.self.items branch
    (subst (λ ls. NumberedSoFar c.args.places.now (scope_of c.args.scope.now) c.args.leads.items ls c.loop-lead.places c.loop-lead.branches.items) c.in-Some.ensures.steps.0 c.loop-lead.invariant)
    c.in_ok-schema.ensures.grown c.in_ok-schema.ensures.number refl c.in_ok-push.ensures.items

pub returns-clause-numbered : goal.returns-clause-numbered
returns-clause-numbered c =
    let it = c.loop-lead.lead-iterator in
    let none : into_iter_items it ≡ [] = nothing_in (into_iter_items it) (omega (arith, it.rest.ok.0, c.in-None.ensures.steps.0)) in
    all_numbered c.args.places.now (scope_of c.args.scope.now) c.args.leads.items c.loop-lead.places c.loop-lead.branches.items
    (subst (λ ls. NumberedSoFar c.args.places.now (scope_of c.args.scope.now) c.args.leads.items ls c.loop-lead.places c.loop-lead.branches.items) none c.loop-lead.invariant)
