use Rattle.std.proofs.Common.{refl, sym, ◌∙◌}
use Rattle.strkw_text.proofs.Equivalences.{iff_trans}
use Rattle.strkw_coding.proofs.FirstBlocks.{code-none, none_left, rest_is_code}
use Rattle.strkw_coding.proofs.radix32.Alphabet.is_code.Goals as goal

pub loop-rest-preserved : goal.loop-rest-preserved
loop-rest-preserved c = iff_trans c.loop-rest.invariant (rest_is_code _ _ _ _ _ c.in-Some.ensures)

pub returns : goal.returns
returns c =
    let none = none_left _ (sym c.is_empty.ensures ∙ c.loop-rest-test.false) in
    (λ _. c.loop-rest.invariant.1 (code-none _ _ none), λ _. refl)
