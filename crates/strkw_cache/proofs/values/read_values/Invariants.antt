use Rattle.std.proofs.Common.{◌≡◌, ℕ, ◌≤◌, length}
use Rattle.json.specs.Json.{members, value}
use Rattle.serde_json.specs.Data.{Members}
use Rattle.serde_json.specs.Read.{of_members, converted}
use Rattle.strkw_json.specs.Passing.{members_read}
use Rattle.strkw_object.specs.Values.{AreOwnedOf}
use Rattle.strkw_cache.specs.Depths.{value_depth}
use Rattle.strkw_cache.proofs.values.read_values.Given as goal

-- the values are those of what was read of the object, and the members that are to come go into it
abbrev pub invariant-members : goal.invariant-members
invariant-members l = record {
  turns : ℕ;
  enough : length l.tokens ≤ turns;
  found : Members;
  same : members_read value_depth l.initial.tokens ≡ converted (λ js. of_members js found) (members (value value_depth) turns l.tokens);
  are : AreOwnedOf found l.values;
  no_longer : length l.tokens ≤ length l.initial.tokens;
}

abbrev pub decreases-members : goal.decreases-members
decreases-members l = length l.tokens
