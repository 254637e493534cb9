use Rattle.std.proofs.Common.{◌≡◌, ◌∷◌, rules, ap, ◌∙◌, arith}
use Rattle.json.specs.Token.{number}
use Rattle.strkw_cache.proofs.fronts.take_number.Goals as goal

pub returns-in-Number : goal.returns-in-Number
returns-in-Number c =
    let first : c.args.tokens.now ≡ number c.in-Number.found.now ∷ c.next.new.self = grind arith in
    let same : c.in-Number.found.now ≡ c.number_of.result.now = search rules in
    let (named, written) = c.number_of.ensures in
    (named, first ∙ ap (λ digits. number digits ∷ c.next.new.self) (same ∙ written))
