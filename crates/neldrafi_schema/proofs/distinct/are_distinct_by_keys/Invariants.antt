use Rattle.std.proofs.Common.{◌≡◌, ◌-◌, length, drop, true}
use Rattle.serde_json.specs.View.{items_view}
use Rattle.neldrafi_schema.specs.Equality.{are_distinct}
use Rattle.neldrafi_schema.proofs.AmongKeys.{HasKeys}
use Rattle.neldrafi_schema.proofs.distinct.are_distinct_by_keys.Given as goal

-- the items from here on are distinct, and their keys are there
abbrev pub invariant-loop-done : goal.invariant-loop-done
invariant-loop-done l = record {
  distinct : are_distinct (items_view (drop (length l.items - l.done) l.items)) ≡ true;
  keys : HasKeys (items_view (drop (length l.items - l.done) l.items)) l.keys.keys;
}
