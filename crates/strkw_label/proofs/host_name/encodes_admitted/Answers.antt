use Rattle.std.proofs.Common.{◌∙◌, sym, subst}
use Rattle.std.proofs.lemmas.Bool.{false≢true}
use Rattle.strkw_label.specs.LabelRules.{IsAdmittedLabel}
use Rattle.strkw_label.proofs.host_name.encodes_admitted.Goals as goal

pub returns-in-Some : goal.returns-in-Some
returns-in-Some c = (
  λ e. (
    c.in-Some.text.items,
    c.in-Some.ensures.scalar,
    c.in-Some.ensures.sound,
    subst IsAdmittedLabel c.as_slice.ensures.value
        (c.validate_unicode_label.ensures.0 e),
  ),
  λ h. c.validate_unicode_label.ensures.1 (subst IsAdmittedLabel (sym (c.as_slice.ensures.value ∙ c.in-Some.ensures.complete h.0 h.1 c.requires h.2)) h.3),
)

pub returns-in-None : goal.returns-in-None
returns-in-None c = (λ e. absurd (false≢true e), λ h. absurd (c.in-None.ensures.complete h.0 h.1 c.requires h.2))
