use Rattle.std.proofs.Common.{◌++◌, ◌≡◌, length}
use Rattle.strkw_cache.specs.Tokens.{tokens_owned}
use Rattle.strkw_cache.proofs.tokens.tokens_in.Given as goal

-- what is kept comes before the tokens that are to come
abbrev pub invariant-tokens : goal.invariant-tokens
invariant-tokens l = l.initial.tokens ≡ tokens_owned l.kept.items ++ l.tokens

abbrev pub decreases-tokens : goal.decreases-tokens
decreases-tokens l = length l.tokens
