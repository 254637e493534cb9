use Rattle.std.proofs.Common.{rules, ◌≡◌, ◌∙◌, ◌++◌, IfOk, ap, string_bytes}
use Rattle.std.proofs.lemmas.Result.{IfOk-weaker}
use Rattle.std.specs.Prelude.{codes}
use Rattle.neldrafi_schema.proofs.Refusing.{placed_text}
use Rattle.neldrafi_schema.proofs.refusal.SchemaError.text.Goals as goal

pub returns-in_default : goal.returns-in_default
returns-in_default c =
    let uri = string_bytes c.args.self.now.uri in
    let location = c.args.self.now.location in
    let said : IfOk c.placed.result (λ s. string_bytes s ≡ codes "at " ++ uri ++ codes "#" ++ location ++ codes ": " ++ string_bytes c.in_ok-why.why) = search rules in
    IfOk-weaker c.placed.result _ _ (λ s e whole.
    e ∙ ap (λ t. codes "at " ++ uri ++ codes "#" ++ location ++ codes ": " ++ t) (c.in_ok-why.ensures whole) ∙ placed_text c.args.self.now.kind uri location c.in_default.not-Memory) said
