use Rattle.neldrafi_position.proofs.Naming.{alone, nothing, plain, slash, tilde, tilde_zero}
use Rattle.neldrafi_position.proofs.tokens.first_of.Goals as goal

pub returns-in_default-clause-name : goal.returns-in_default-clause-name
returns-in_default-clause-name c = nothing c.args.token.now c.in_default.len_below

pub returns-in_default-behind-clause-name : goal.returns-in_default-behind-clause-name
returns-in_default-behind-clause-name c = alone c.args.token.now c.in-len1-up.len_at_least c.in_default-behind.len_below

pub returns-then-first-ne126-clause-name : goal.returns-then-first-ne126-clause-name
returns-then-first-ne126-clause-name c = plain c.args.token.now c.in-len1-up.len_at_least c.if-first-ne126.true

pub returns-then-second-eq49-clause-name : goal.returns-then-second-eq49-clause-name
returns-then-second-eq49-clause-name c =
    slash c.args.token.now c.in-len1-up.len_at_least c.in-len1-up-behind.len_at_least c.if-first-ne126.false c.if-second-eq49.true

pub returns-then-second-eq48-clause-name : goal.returns-then-second-eq48-clause-name
returns-then-second-eq48-clause-name c =
    tilde_zero c.args.token.now c.in-len1-up.len_at_least c.in-len1-up-behind.len_at_least c.if-first-ne126.false c.if-second-eq48.true

pub returns-clause-name : goal.returns-clause-name
returns-clause-name c = tilde c.args.token.now c.in-len1-up.len_at_least c.if-first-ne126.false c.if-second-eq49.false c.if-second-eq48.false
