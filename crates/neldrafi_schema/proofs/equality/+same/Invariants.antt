use Rattle.std.proofs.Common.{◌≡◌, length}
use Rattle.std.specs.Iterator.Adapters.{zip_first, zip_second}
use Rattle.std.specs.Slice.Iter.{iter_rest}
use Rattle.serde_json.specs.View.{items_view, members_view}
use Rattle.neldrafi_schema.specs.Equality.{same_items, same_members}
use Rattle.neldrafi_schema.proofs.equality.+same.Given as goal

-- the items that are left are the same just where all are
abbrev pub invariant-same_items-loop-x : goal.invariant-same_items-loop-x
invariant-same_items-loop-x l = record {
  same : same_items (items_view (iter_rest (zip_first l.x-iterator))) (items_view (iter_rest (zip_second l.x-iterator))) ≡ same_items (items_view l.a) (items_view l.b);
  long : length (iter_rest (zip_first l.x-iterator)) ≡ length (iter_rest (zip_second l.x-iterator));
}

abbrev pub invariant-same_members-loop-name : goal.invariant-same_members-loop-name
invariant-same_members-loop-name l = record {
  same : same_members (members_view (zip_first l.name-iterator)) (members_view (zip_second l.name-iterator)) ≡ same_members (members_view l.a.entries) (members_view l.b.entries);
  long : length (zip_first l.name-iterator) ≡ length (zip_second l.name-iterator);
}
