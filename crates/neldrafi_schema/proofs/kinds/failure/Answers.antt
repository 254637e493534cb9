use Rattle.std.proofs.Common.{◌∙◌, ◌∷◌, [], ap}
use Rattle.serde_json.specs.View.{view}
use Rattle.neldrafi_schema.proofs.Reported.{none_is_valid, same_views, some_are_several, unless_fails}
use Rattle.neldrafi_schema.specs.Errors.{not_among}
use Rattle.neldrafi_schema.proofs.kinds.failure.Goals as goal

pub returns-in_ok-options-in-Among : goal.returns-in_ok-options-in-Among
returns-in_ok-options-in-Among g c = λ outcome beside d single fails. rw c.in-Among.is
    (ap (λ ds. not_among ds ∷ []) (same_views _ view c.in-Among.options.items c.in_ok-options-in-Among.options.items c.in_ok-options-in-Among.ensures.cases.0 (λ x y e. e))
    ∙ unless_fails _ _ (rw c.in-Among.is at fails))

pub returns-in-OneOf : goal.returns-in-OneOf
returns-in-OneOf g c = λ outcome beside d single fails. rw c.in-OneOf.is
    (some_are_several c.args.name.now c.args.verdicts.now c.any_is_valid.result c.any_is_valid.ensures c.if-any_is_valid.true (rw c.in-OneOf.is at fails))

pub returns-in-OneOf-2 : goal.returns-in-OneOf-2
returns-in-OneOf-2 g c = λ outcome beside d single fails. rw c.in-OneOf-2.is
    (rw (none_is_valid c.args.name.now c.args.verdicts.now c.any_is_valid.result c.any_is_valid.ensures c.if-any_is_valid.false) c.none_of-in-OneOf-2.ensures)
