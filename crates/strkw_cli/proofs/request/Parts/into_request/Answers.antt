use Rattle.std.proofs.Common.{◌≡◌, true, None, option_map, refl, sym, ap, ◌∙◌, rules}
use Rattle.strkw_cli.proofs.Parts.{held_object, made_if, parts_made}
use Rattle.strkw_cli.proofs.request.Parts.into_request.Goals as goal

pub returns-clause-request : goal.returns-clause-request
returns-clause-request c kept values ms are =
    let only : c.args.self.has_only_request_keys ≡ true = search rules in
    let (object, is, belongs) = held_object values c.in_ok-self.field-0 ms _ are.schema c.in_ok-self.was in
    let made = parts_made _ _ _ _ _ _ _ object _ _ _ _ (sym are.draft ∙ c.in_ok-draft.was) is
    (sym are.instance ∙ ap (option_map (option_map (λ text. text.now))) c.in_ok-instance.was) (sym are.validate_formats ∙ c.in_ok-validate_formats.was)
    (sym are.ignore_unknown_formats ∙ c.in_ok-ignore_unknown_formats.was) (sym are.fold ∙ c.in_ok-fold.was) in
    let whole = made_if _ _ None _ (sym are.known ∙ only) made in
    (_, whole, record { object = belongs; others = rw (c.unwrap_or.ensures, c.unwrap_or-2.ensures) refl })
