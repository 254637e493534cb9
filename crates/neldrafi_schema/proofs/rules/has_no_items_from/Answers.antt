use Rattle.std.proofs.Common.{◌≡◌, arith, length, Some}
use Rattle.std.proofs.lemmas.Grind.{common_steps}
use Rattle.serde_json.specs.Find.{as_array}
use Rattle.serde_json.specs.View.{items_view, view}
use Rattle.neldrafi_schema.proofs.Choosing.{no_items_from}
use Rattle.neldrafi_schema.proofs.rules.has_no_items_from.Goals as goal

pub returns-in-Some : goal.returns-in-Some
returns-in-Some c =
    let items = c.in-Some.items.now.items in
    let found : as_array (view c.args.instance.now) ≡ Some (items_view items) = grind (arith, common_steps) in
    let many : c.len.result ≡ length items = grind (arith, common_steps) in
    no_items_from (view c.args.instance.now) items c.args.from c.len.result found many
