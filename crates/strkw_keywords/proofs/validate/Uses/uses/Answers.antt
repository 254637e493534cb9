use Rattle.strkw_keywords.proofs.validate.Uses.uses.Goals as goal

pub returns : goal.returns
returns g c = (
  (λ t. (c.parts.ensures.rows _).0 (c.rows_are_first.ensures.0 t)),
  (λ u. c.rows_are_first.ensures.1 ((c.parts.ensures.rows _).1 u)),
)
