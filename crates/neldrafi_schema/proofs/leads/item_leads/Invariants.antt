use Rattle.std.proofs.Common.{◌≡◌, ◌++◌, drop, length, map}
use Rattle.serde_json.specs.Data.{array}
use Rattle.serde_json.specs.View.{items_view}
use Rattle.neldrafi_schema.specs.Values.{item_leads}
use Rattle.neldrafi_schema.specs.machine.Compiled.{path_of}
use Rattle.neldrafi_schema.specs.machine.Said.{lead_of}
use Rattle.neldrafi_schema.proofs.Leading.{AreThere}
use Rattle.neldrafi_schema.proofs.leads.item_leads.Given as goal

-- the leads so far, and those to the items that are left
abbrev pub invariant-loop-item : goal.invariant-loop-item
invariant-loop-item l = record {
  said : map lead_of l.leads.items ++ item_leads (path_of l.at) l.item-index (items_view (drop l.item-index l.items)) ≡ item_leads (path_of l.at) 0 (items_view l.items);
  count : length l.leads.items ≡ l.item-index;
  there : AreThere (path_of l.at) (array (items_view l.items)) l.leads.items;
}
