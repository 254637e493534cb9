use Rattle.std.proofs.Common.{◌++◌, ◌≡◌, ◌+◌, ◌∷◌, [], take, refl, sym, subst, arith}
use Rattle.std.proofs.lemmas.Grind.{common_steps}
use Rattle.strkw_cache.specs.Fronts.{AreGood}
use Rattle.strkw_cache.specs.Tokens.{token_owned, tokens_owned}
use Rattle.strkw_cache.proofs.Asking.{good_push}
use Rattle.strkw_cache.proofs.tokens.take_same.Goals as goal

pub loop-token-preserved : goal.loop-token-preserved
loop-token-preserved c =
    let kept = c.args.kept.now in
    let i = c.loop-token.token-index in
    let token = c.token-item.result in
    let more : tokens_owned (take (i + 1) kept) ≡ tokens_owned (take i kept) ++ token_owned token ∷ [] = grind (arith, common_steps) in (
      grind (arith, common_steps),
      subst AreGood (sym more)
          (good_push (tokens_owned (take i kept)) (token_owned token) c.loop-token.invariant.1 (c.if-is.ensures.good refl)),
    )
