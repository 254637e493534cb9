use Rattle.std.proofs.Common.{◌≡◌, ◌∙◌, [], ◌∷◌, ap, subst}
use Rattle.std.specs.Prelude.{◌↔◌, IsTrue}
use Rattle.caseless.specs.Caseless.{default_case_fold}
use Rattle.unicode_normalization.specs.Forms.{nfkc}
use Rattle.strkw_label.proofs.Stability.{unstable_by_steps}
use Rattle.strkw_label.proofs.properties.is_changed.Goals as goal

pub returns : goal.returns
returns c =
    unstable_by_steps c.args.c c.in_ok-normal.normal.items c.in_ok-folded.folded.items c.in_ok-stable.stable.items c.are_same.result
    c.in_ok-normal.ensures (c.in_ok-folded.ensures ∙ ap default_case_fold c.deref.ensures.value) (c.in_ok-stable.ensures ∙ ap nfkc c.deref-2.ensures.value)
    (subst (λ x. IsTrue c.are_same.result ↔ (x ≡ c.args.c ∷ [])) c.deref-3.ensures.value c.are_same.ensures)
