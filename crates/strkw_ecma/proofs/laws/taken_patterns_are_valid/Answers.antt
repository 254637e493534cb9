use Rattle.strkw_ecma.proofs.laws.taken_patterns_are_valid.Goals as goal

pub returns : goal.returns
returns c = λ source d p. (d, p.made)
