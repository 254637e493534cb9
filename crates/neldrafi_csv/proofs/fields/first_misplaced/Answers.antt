use Rattle.std.proofs.Common.{◌≡◌, ◌∙◌, ◌++◌, ◌∷◌, [], Some, ap, subst, sym}
use Rattle.neldrafi_csv.specs.Records.{IsMisplaced}
use Rattle.neldrafi_csv.specs.machine.Spans.{value_in}
use Rattle.neldrafi_csv.proofs.FieldLemmas.{misplaced-first, misplaced-kept, misplaced-not, no_first}
use Rattle.neldrafi_csv.proofs.fields.first_misplaced.Goals as goal

pub returns-then-is_some : goal.returns-then-is_some
returns-then-is_some c bytes copied values before counts = misplaced-kept values _ c.args.before (sym c.is_some.ensures ∙ c.if-is_some.true) before

pub returns-in_default : goal.returns-in_default
returns-in_default c bytes copied values before counts =
    misplaced-not bytes copied values c.args.before c.args.span (sym c.is_some.ensures ∙ c.if-is_some.false) c.in_default.not-Misplaced before

pub returns-in-Misplaced : goal.returns-in-Misplaced
returns-in-Misplaced c bytes copied values before counts =
    subst (λ v. IsMisplaced (values ++ (v ∷ [])) (Some c.args.number)) (sym (ap (value_in bytes copied) c.in-Misplaced.is))
    (misplaced-first values c.args.number (subst (λ o. IsMisplaced values o) (no_first c.args.before (sym c.is_some.ensures ∙ c.if-is_some.false)) before) counts)
