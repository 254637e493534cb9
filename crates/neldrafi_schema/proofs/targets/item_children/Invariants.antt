use Rattle.std.proofs.Common.{◌≡◌, ◌++◌, drop, length, map}
use Rattle.serde_json.specs.View.{view}
use Rattle.neldrafi_schema.specs.declared.node.Part.TheVariants as part
use Rattle.neldrafi_schema.specs.Rules.{children, placed_from}
use Rattle.neldrafi_schema.specs.machine.Compiled.{children_of}
use Rattle.neldrafi_schema.proofs.Items.{as_child}
use Rattle.neldrafi_schema.proofs.targets.item_children.Given as goal

-- the items so far, and those that are left
abbrev pub invariant-loop-value : goal.invariant-loop-value
invariant-loop-value l = record {
  count : length l.children.items ≡ l.value-index;
  all : children_of l.children.items ++ map as_child (placed_from l.value-index (map view (drop l.value-index l.value-items)))
      ≡ children part.Items (view l.instance);
}
