use Rattle.std.proofs.Common.{rules, sym, subst, ◌∙◌}
use Rattle.strkw_c.specs.Kept.{IsKeptOf}
use Rattle.strkw_c.specs.Verdicts.{AreVerdicts, IsValid}
use Rattle.strkw_c.proofs.KeptLemmas.{is_asked, is_kept}
use Rattle.strkw_c.proofs.handles.strkw_nonnull_schema_check.Goals as goal

pub copy_from_slice-requires : goal.copy_from_slice-requires
copy_from_slice-requires c =
    let (s, object, of) = is_asked _ _ c.in-Some.ensures.taken c.requires in
    let counted = (c.in-Ok.ensures.done s object (subst (λ k. IsKeptOf k s object) (sym c.deref.ensures) of)).0 in
    search (rules, counted)

pub returns-in-Ok-clause-done : goal.returns-in-Ok-clause-done
returns-in-Ok-clause-done c = λ status s object keeps.
    let of = is_kept _ _ c.in-Some.ensures.taken s object keeps in
    let answered = c.in-Ok.ensures.done s object (subst (λ k. IsKeptOf k s object) (sym c.deref.ensures) of) in
    let (list, are, verdicts) = answered.1 in
    (list, are, subst (AreVerdicts (IsValid s object) list) (sym (c.copy_from_slice.ensures.after ∙ c.deref-in-Ok.ensures.value)) verdicts)
