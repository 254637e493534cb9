use Rattle.std.proofs.Common.{rules, ◌≡◌, ◌∙◌, false, true, sym}
use Rattle.std.specs.Prelude.{is_some}
use Rattle.serde_json.specs.Find.{as_bool}
use Rattle.serde_json.specs.View.{members_view, view}
use Rattle.neldrafi_schema.specs.Values.{has_placed_items}
use Rattle.neldrafi_schema.proofs.senses.additional_sense.Goals as goal

pub returns-then-has_placed_items-clause-sense : goal.returns-then-has_placed_items-clause-sense
returns-then-has_placed_items-clause-sense g c = λ outcome.
    let has : has_placed_items (members_view c.args.member.now.object.now.entries) ≡ true = sym c.has_placed_items.ensures ∙ c.if-has_placed_items.true in
    rw has (c.others_sense.ensures.sense outcome)

pub returns-else-is_boolean-clause-sense : goal.returns-else-is_boolean-clause-sense
returns-else-is_boolean-clause-sense g c = λ outcome.
    let has : has_placed_items (members_view c.args.member.now.object.now.entries) ≡ false = sym c.has_placed_items.ensures ∙ c.if-has_placed_items.false in
    let is : is_some (as_bool (view c.args.member.now.value.now)) ≡ false = search rules in
    rw (has, is) (c.one_sense.ensures.sense outcome)
