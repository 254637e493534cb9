use Rattle.std.proofs.Common.{◌≡◌, ◌∷◌, ◌++◌, arith, string_bytes, OnOk}
use Rattle.std.proofs.lemmas.Grind.{common_steps}
use Rattle.neldrafi_schema.specs.machine.Words.{after_tilde}
use Rattle.neldrafi_schema.proofs.Tokens.{after_other}
use Rattle.neldrafi_schema.proofs.places.push_after_tilde.Goals as goal

pub returns-in_ok-push_str-3 : goal.returns-in_ok-push_str-3
returns-in_ok-push_str-3 c =
    let same : after_tilde c.args.part.now ≡ 126 ∷ c.args.part.now =
    after_other c.args.part.now c.in_default.ensures.cases c.in_default-strip_prefix.ensures.cases in
    let pushed : OnOk c.push_str-in_default-strip_prefix-2.result
    (string_bytes c.push_str-in_default-strip_prefix-2.new.self ≡ string_bytes c.args.key.now ++ 126 ∷ c.args.part.now)
    = grind (arith, common_steps) in
    rw same pushed
