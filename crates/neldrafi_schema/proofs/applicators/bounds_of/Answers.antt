use Rattle.std.proofs.Common.{refl}
use Rattle.serde_json.specs.View.{view}
use Rattle.neldrafi_schema.specs.Errors.{negated, valid_by_none}
use Rattle.neldrafi_schema.proofs.Counts.{none_by_count, some_by_count}
use Rattle.neldrafi_schema.proofs.applicators.bounds_of.Goals as goal

pub returns-in-Negation : goal.returns-in-Negation
returns-in-Negation g c = λ outcome. rw c.in-Negation.is (refl, λ beside word d vs. none_by_count (negated (view c.in-Negation.field-0)) vs)

pub returns-in-AnyOf : goal.returns-in-AnyOf
returns-in-AnyOf g c = λ outcome. rw c.in-AnyOf.is (refl, λ beside word d vs. some_by_count (valid_by_none word) vs)
