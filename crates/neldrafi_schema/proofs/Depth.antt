-- What is in a value is less deep, and is checked with fewer steps.
use Rattle.std.proofs.Common.{◌≡◌, ℕ, zero, suc, ◌+◌, ◌*◌, ◌<◌, ◌≤◌, List, max, arith, Some, None, Option, Less, Equal, Greater}
use Rattle.std.proofs.Math.Nat.{suc-mul, mul_comm, mul-le-mul_right}
use Rattle.std.specs.Prelude.{option_and_then}
use Rattle.std.specs.Cmp.Lexicographic.{slice_cmp}
use Rattle.std.specs.declared.cmp.Ordering.{Ordering}
use Rattle.std.specs.Ordering.{nat_cmp, match_ordering}
use Rattle.serde_json.specs.Data.{Data, null, boolean, number, string, array, object, Items, no_items, item, Members, no_members, member, depth, items_depth, members_depth}
use Rattle.serde_json.specs.Find.{at, get, get_item, get_member}
use Rattle.neldrafi_schema.specs.Paths.{Segment, key, place, document, child}
use Rattle.neldrafi_schema.specs.Rules.{child_at}
use Rattle.neldrafi_schema.specs.Schemas.{Branch}

found_below : (o : Ordering) (d v : Data) (ms : Members) (name : List ℕ) → ((get_member name ms ≡ Some v) → depth v ≤ members_depth ms)
    → match_ordering o (get_member name ms) (Some d) (get_member name ms) ≡ Some v → depth v ≤ max (depth d) (members_depth ms)
found_below Less d v ms name f e = omega (arith, f e)
found_below Equal d v ms name f e = let same : d ≡ v = cc in rw same (omega arith)
found_below Greater d v ms name f e = omega (arith, f e)

member_depth : (name : List ℕ) (ms : Members) (v : Data) → get_member name ms ≡ Some v → depth v ≤ members_depth ms
member_depth name no_members v e = cc
member_depth name (member other d ms) v e = found_below (slice_cmp nat_cmp name other) d v ms name (member_depth name ms v) e

pub value_depth : (name : List ℕ) (d v : Data) → get name d ≡ Some v → depth v < depth d
value_depth name null v e = cc
value_depth name (boolean b) v e = cc
value_depth name (number x) v e = cc
value_depth name (string s) v e = cc
value_depth name (array ds) v e = cc
value_depth name (object ms) v e = omega (arith, member_depth name ms v e)

item_depth : (n : ℕ) (ds : Items) (v : Data) → get_item n ds ≡ Some v → depth v ≤ items_depth ds
item_depth n no_items v e = cc
item_depth zero (item d ds) v e = let same : d ≡ v = cc in rw same (omega arith)
item_depth (suc n) (item d ds) v e = omega (arith, item_depth n ds v e)

place_depth : (n : ℕ) (d v : Data) → at n d ≡ Some v → depth v < depth d
place_depth n null v e = cc
place_depth n (boolean b) v e = cc
place_depth n (number x) v e = cc
place_depth n (string s) v e = cc
place_depth n (array ds) v e = omega (arith, item_depth n ds v e)
place_depth n (object ms) v e = cc

step_depth : (d : Data) (o : Option Segment) (v : Data) → option_and_then (λ s. child s d) o ≡ Some v → depth v < depth d
step_depth d None v e = cc
step_depth d (Some (key name)) v e = value_depth name d v e
step_depth d (Some (place n)) v e = place_depth n d v e
step_depth d (Some (document n)) v e = cc

-- the value at a branch's segment
pub child_depth : (d : Data) (b : Branch) (v : Data) → child_at d b ≡ Some v → depth v < depth d
child_depth d b v e = step_depth d b.key v e

-- fewer steps are enough for a value that is less deep, with all the steps that do not enter it
pub fewer_steps : (count a b s : ℕ) → a < b → a * suc count + count < b * suc count + s
fewer_steps count a b s h =
    let more : suc a * suc count ≤ b * suc count = mul-le-mul_right (suc count) h in
    let one_more = suc-mul a (suc count) in
    omega arith

-- that many steps are enough for a whole instance
pub enough_steps : (count n : ℕ) → n * suc count + count ≤ suc count * suc n
enough_steps count n = omega (arith, mul_comm (suc count) (suc n), suc-mul n (suc count))
