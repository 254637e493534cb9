use Rattle.std.proofs.Common.{◌≡◌, ◌∙◌, map, drop, codes, refl, sym, ap, subst}
use Rattle.std.specs.Char.{to_ascii_lowercase}
use Rattle.std.proofs.lemmas.Bool.{false≢true}
use Rattle.strkw_label.specs.HostName.{EncodesAdmitted}
use Rattle.strkw_label.proofs.PlainLabels.{keeps_rules}
use Rattle.strkw_label.proofs.XnLabels.{HasPrefix, IsXnLabel-from_prefix, prefix_and_payload}
use Rattle.strkw_label.proofs.host_name.keeps_xn_rules.Goals as goal

pub returns-then-not-has_reserved_hyphens : goal.returns-then-not-has_reserved_hyphens
returns-then-not-has_reserved_hyphens c =
    (λ e. keeps_rules c.args.label.now (λ r. false≢true (sym c.if-not-has_reserved_hyphens.true ∙ c.has_reserved_hyphens.ensures.1 r)), λ s. refl)

pub returns-then-eq_ignore_ascii_case : goal.returns-then-eq_ignore_ascii_case
returns-then-eq_ignore_ascii_case c =
    let label = c.args.label.now in
    let rest = c.split_at.ensures.back in
    let prefix : HasPrefix label = subst (λ l. map to_ascii_lowercase l ≡ codes "xn--") c.split_at.ensures.front
    (c.eq_ignore_ascii_case.ensures.test.0 c.if-eq_ignore_ascii_case.true) in
    let whole = IsXnLabel-from_prefix label prefix in (
      λ e. record {
        reserved = λ _ _. (drop 4 label, whole);
        encodes = λ payload h. subst EncodesAdmitted (rest ∙ (prefix_and_payload label payload h).1) (c.encodes_admitted.ensures.0 e);
      },
      λ s. c.encodes_admitted.ensures.1 (subst EncodesAdmitted (sym rest) (s.encodes (drop 4 label) whole)),
    )

pub returns-else-eq_ignore_ascii_case : goal.returns-else-eq_ignore_ascii_case
returns-else-eq_ignore_ascii_case c = (
  λ e. absurd (false≢true (sym c.if-eq_ignore_ascii_case.false ∙ e)),
  λ s.
      let hyphens = c.has_reserved_hyphens.ensures.0 c.if-not-has_reserved_hyphens.false in
      let front = (prefix_and_payload c.args.label.now _ (s.reserved hyphens.0 hyphens.1).1).0 in
      c.eq_ignore_ascii_case.ensures.test.1 (ap (map to_ascii_lowercase) c.split_at.ensures.front ∙ front),
)
