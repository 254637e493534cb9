use Rattle.std.proofs.Common.{◌≡◌, ℕ, ◌+◌, ◌*◌, ◌≤◌, length}
use Rattle.json.specs.Json.{items, members, value}
use Rattle.serde_json.specs.Data.{Members}
use Rattle.serde_json.specs.Read.{of_items, of_members, converted}
use Rattle.strkw_json.specs.Passing.{tokens_left, after_items, after_members}
use Rattle.strkw_json.proofs.check.+pass.Given as goal

abbrev pub decreases-passes_value : goal.decreases-passes_value
decreases-passes_value l = 3 * l.depth + 1

abbrev pub decreases-passes_json : goal.decreases-passes_json
decreases-passes_json l = 3 * l.depth

abbrev pub decreases-passes_items : goal.decreases-passes_items
decreases-passes_items l = 3 * l.depth + 2

abbrev pub decreases-passes_members : goal.decreases-passes_members
decreases-passes_members l = 3 * l.depth + 2

abbrev pub invariant-passes_items-loop-tokens : goal.invariant-passes_items-loop-tokens
invariant-passes_items-loop-tokens l = record {
  turns : ℕ;
  enough : length l.tokens ≤ turns;
  same : after_items l.depth l.initial.tokens ≡ tokens_left (converted of_items (items (value l.depth) turns l.tokens));
  fewer : length l.tokens ≤ length l.initial.tokens;
}

abbrev pub decreases-passes_items-loop-tokens : goal.decreases-passes_items-loop-tokens
decreases-passes_items-loop-tokens l = length l.tokens

abbrev pub invariant-passes_members-loop-key : goal.invariant-passes_members-loop-key
invariant-passes_members-loop-key l = record {
  turns : ℕ;
  enough : length l.tokens ≤ turns;
  found : Members;
  same : after_members l.depth l.initial.tokens ≡ tokens_left (converted (λ ms. of_members ms found) (members (value l.depth) turns l.tokens));
  fewer : length l.tokens ≤ length l.initial.tokens;
}

abbrev pub decreases-passes_members-loop-key : goal.decreases-passes_members-loop-key
decreases-passes_members-loop-key l = length l.tokens
