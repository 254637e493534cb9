use Rattle.std.proofs.Common.{◌++◌, ◌≡◌, take}
use Rattle.strkw_cache.specs.Fronts.{AreGood}
use Rattle.strkw_cache.specs.Tokens.{tokens_owned}
use Rattle.strkw_cache.proofs.tokens.take_same.Given as goal

-- the tokens up to this one were taken, and none of them is bad
abbrev pub invariant-loop-token : goal.invariant-loop-token
invariant-loop-token l = (l.initial.tokens ≡ tokens_owned (take l.token-index l.kept) ++ l.tokens)
    × AreGood (tokens_owned (take l.token-index l.kept))
