use Rattle.std.proofs.Common.{◌∙◌, ap}
use Rattle.std.specs.List.{list_any}
use Rattle.serde_json.specs.View.{view}
use Rattle.neldrafi_schema.specs.Types.{counts_as}
use Rattle.neldrafi_schema.proofs.Reported.{unless_holds}
use Rattle.neldrafi_schema.proofs.kinds.holds.Goals as goal

pub returns-in-Types : goal.returns-in-Types
returns-in-Types g c = λ outcome beside word single. rw c.in-Types.is (unless_holds _ _ _
    (c.is_of_some.ensures ∙ ap (list_any (λ t. counts_as c.in-Types.floats t (view c.args.instance.now))) c.deref.ensures.value))
