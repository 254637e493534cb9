use Rattle.std.proofs.Common.{◌≡◌, ◌++◌, ◌-◌, drop, map}
use Rattle.serde_json.specs.View.{view}
use Rattle.neldrafi_schema.specs.Rules.{on_items, placed_from, placed_items}
use Rattle.neldrafi_schema.specs.machine.Compiled.{branch_of, targets_of}
use Rattle.neldrafi_schema.proofs.targets.push_items.Given as goal

-- the targets so far, and those of the items that are left
abbrev pub invariant-loop-place : goal.invariant-loop-place
invariant-loop-place l =
    targets_of l.targets.items ++ on_items (drop (l.from - l.place) (placed_from l.place (map view (drop l.place l.item-items)))) (branch_of l.branch)
    ≡ targets_of l.fn.targets.items ++ on_items (drop l.from (placed_items (view l.instance))) (branch_of l.branch)
