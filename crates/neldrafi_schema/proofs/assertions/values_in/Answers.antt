use Rattle.std.proofs.Common.{rules, ◌≡◌, ◌∙◌, ap, length, false, sym, Some}
use Rattle.serde_json.specs.Find.{as_array}
use Rattle.serde_json.specs.View.{items_view, view}
use Rattle.neldrafi_schema.specs.Values.{needs_values}
use Rattle.neldrafi_schema.specs.machine.Leads.{is_lacking}
use Rattle.neldrafi_schema.proofs.Cases.{values_given}
use Rattle.neldrafi_schema.proofs.assertions.values_in.Goals as goal

pub returns : goal.returns
returns c =
    let vs = c.deref-2.result.now in
    let is : as_array (view c.args.value.now) ≡ Some (items_view vs) = search rules in
    let some : is_lacking (needs_values c.args.draft) (length vs) ≡ false = search rules in
    ap Some c.in_ok-copies_of.ensures ∙ sym (values_given (needs_values c.args.draft) vs (as_array (view c.args.value.now)) is some)
