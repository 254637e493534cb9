use Rattle.std.proofs.Common.{[], ◌∷◌, inl, inr, arith}
use Rattle.strkw_text.specs.Abnf.{◌⨾◌, Literal}
use Rattle.strkw_text.proofs.Equivalences.{nope}
use Rattle.strkw_text.proofs.Laws.{literal_at, literal_not}
use Rattle.strkw_mail.specs.AddressLiteral.{Bracketed}
use Rattle.strkw_mail.proofs.Domains.{no_bracket_first}
use Rattle.strkw_mail.proofs.domain.is_domain.Goals as goal

pub returns-then-bytes-gt-LONGEST_DOMAIN : goal.returns-then-bytes-gt-LONGEST_DOMAIN
returns-then-bytes-gt-LONGEST_DOMAIN c = nope (λ d. omega (arith, d.size, c.if-bytes-gt-LONGEST_DOMAIN.true))

pub returns-in-Some : goal.returns-in-Some
returns-in-Some c =
    let at = literal_at (Bracketed ⨾ Literal (93 ∷ [])) 91 c.args.bytes.now _ c.in-Some.ensures.cases in (
      λ t. record { rule = inr (at.1 (c.is_address_literal.ensures.0 t)); size = c.if-bytes-gt-LONGEST_DOMAIN.false },
      λ d. c.is_address_literal.ensures.1 (elim d.rule [ inl n ↦ absurd (no_bracket_first c.args.bytes.now _ c.in-Some.ensures.cases n) | inr l ↦ at.0 l ]),
    )

pub returns-in-None : goal.returns-in-None
returns-in-None c = (
  λ t. record { rule = inl (c.is_domain_name.ensures.0 t); size = c.if-bytes-gt-LONGEST_DOMAIN.false },
  λ d. c.is_domain_name.ensures.1
      (elim d.rule [ inl n ↦ n | inr l ↦ absurd (literal_not (Bracketed ⨾ Literal (93 ∷ [])) 91 c.args.bytes.now c.in-None.ensures.cases l) ]),
)
