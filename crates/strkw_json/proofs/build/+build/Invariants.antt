use Rattle.std.proofs.Common.{◌≡◌, ℕ, ◌+◌, ◌*◌, ◌≤◌, length}
use Rattle.json.specs.Json.{items, members, value, parse_map}
use Rattle.serde_json.specs.Read.{of_items, of_members, converted}
use Rattle.serde_json.specs.View.{members_view}
use Rattle.strkw_json.specs.Passing.{items_read, members_read}
use Rattle.strkw_json.proofs.Built.{behind_built}
use Rattle.strkw_json.proofs.build.+build.Given as goal

abbrev pub decreases-build_json : goal.decreases-build_json
decreases-build_json l = 2 * l.depth

abbrev pub decreases-build_items : goal.decreases-build_items
decreases-build_items l = 2 * l.depth + 1

abbrev pub decreases-build_members : goal.decreases-build_members
decreases-build_members l = 2 * l.depth + 1

-- what is built stands before the items that are to come
abbrev pub invariant-build_items-items : goal.invariant-build_items-items
invariant-build_items-items l = record {
  turns : ℕ;
  enough : length l.tokens ≤ turns;
  same : items_read l.depth l.initial.tokens ≡ parse_map (behind_built l.built.items) (converted of_items (items (value l.depth) turns l.tokens));
  fewer : length l.tokens ≤ length l.initial.tokens;
}

abbrev pub decreases-build_items-items : goal.decreases-build_items-items
decreases-build_items-items l = length l.tokens

-- the members that are to come go into what is built
abbrev pub invariant-build_members-members : goal.invariant-build_members-members
invariant-build_members-members l = record {
  turns : ℕ;
  enough : length l.tokens ≤ turns;
  same : members_read l.depth l.initial.tokens ≡ converted (λ ms. of_members ms (members_view l.built.entries)) (members (value l.depth) turns l.tokens);
  fewer : length l.tokens ≤ length l.initial.tokens;
}

abbrev pub decreases-build_members-members : goal.decreases-build_members-members
decreases-build_members-members l = length l.tokens
