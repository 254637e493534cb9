use Rattle.std.proofs.Common.{rules, ◌≡◌, ◌+◌, ◌∙◌, ap, length}
use Rattle.std.proofs.lemmas.List.{length_push}
use Rattle.serde_json.specs.Data.{array}
use Rattle.serde_json.specs.View.{items_view, view}
use Rattle.neldrafi_schema.specs.Paths.{place}
use Rattle.neldrafi_schema.specs.Values.{item_leads, lead_below}
use Rattle.neldrafi_schema.specs.machine.Compiled.{path_of}
use Rattle.neldrafi_schema.specs.machine.Said.{lead_of}
use Rattle.neldrafi_schema.proofs.Items.{item_at}
use Rattle.neldrafi_schema.proofs.Leading.{item_led_to, one_there}
use Rattle.neldrafi_schema.proofs.leads.item_leads.Goals as goal

pub loop-item-preserved : goal.loop-item-preserved
loop-item-preserved c =
    let at = path_of c.args.at.now in
    let i = c.loop-item.item-index in
    let count : c.len.result ≡ i = search rules in
    let path : lead_of c.in_ok-lead_below.field-0 ≡ lead_below at (place i) = c.in_ok-lead_below.ensures.path ∙ ap (λ n. lead_below at (place n)) count in
    record {
      said = item_led_to at c.args.items.now i c.item-item.result c.loop-item.leads.items c.push.new.self.items c.in_ok-lead_below.field-0
          (item_leads at 0 (items_view c.args.items.now)) c.loop-item-test.true c.item-item.is c.loop-item.invariant.said path c.in_ok-push.ensures.items;
      count = ap length c.in_ok-push.ensures.items ∙ length_push c.loop-item.leads.items c.in_ok-lead_below.field-0 ∙ ap (λ n. n + 1) c.loop-item.invariant.count;
      there = one_there at (array (items_view c.args.items.now)) c.loop-item.leads.items c.push.new.self.items c.in_ok-lead_below.field-0 (place i) (view c.item-item.result)
          c.loop-item.invariant.there path c.in_ok-lead_below.ensures.value (item_at c.args.items.now i c.item-item.result c.loop-item-test.true c.item-item.is) c.in_ok-push.ensures.items;
    }
