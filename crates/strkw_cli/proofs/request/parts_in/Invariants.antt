use Rattle.std.proofs.Common.{◌≡◌, ℕ, ◌≤◌, is_some, length}
use Rattle.json.specs.Json.{members, value}
use Rattle.serde_json.specs.Data.{Members}
use Rattle.serde_json.specs.Read.{of_members, converted}
use Rattle.strkw_cli.specs.Parts.{AreParts, members_behind}
use Rattle.strkw_cache.specs.Depths.{member_depth}
use Rattle.strkw_cli.proofs.request.parts_in.Given as goal

-- the parts are those of what was read, and the members that are to come go into it
abbrev pub invariant-members : goal.invariant-members
invariant-members l = (before : Members) (most : ℕ) → length l.initial.tokens ≤ most
    → AreParts (is_some l.line.cached) l.initial.values l.initial.parts before → record {
      turns : ℕ;
      enough : length l.tokens ≤ turns;
      found : Members;
      same : members_behind most before l.initial.tokens ≡ converted (λ js. of_members js found) (members (value member_depth) turns l.tokens);
      are : AreParts (is_some l.line.cached) l.values l.parts found;
    }

abbrev pub decreases-members : goal.decreases-members
decreases-members l = length l.tokens
