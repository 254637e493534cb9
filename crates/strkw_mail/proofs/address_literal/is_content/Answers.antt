use Rattle.std.proofs.Common.{sym, subst, IsTrue, ◌↔◌}
use Rattle.strkw_text.specs.Abnf.{Empty, Repeat, OneOf}
use Rattle.strkw_text.proofs.Equivalences.{carry, nope}
use Rattle.strkw_text.proofs.Laws.{no_start_then}
use Rattle.strkw_text.proofs.Optionals.{empty_test}
use Rattle.strkw_mail.specs.Characters.{is_dcontent}
use Rattle.strkw_mail.proofs.Tags.{run1_all}
use Rattle.strkw_mail.proofs.address_literal.is_content.Goals as goal

pub returns-in-Some : goal.returns-in-Some
returns-in-Some c =
    let nothing = subst (λ b. IsTrue b ↔ Empty c.skip.result.now) (sym c.is_empty.ensures) (empty_test c.skip.result.now) in
    carry nothing (run1_all is_dcontent _ _ _ c.in-Some.ensures.cases c.skip.ensures.run)

pub returns-in-None : goal.returns-in-None
returns-in-None c = nope (no_start_then (OneOf is_dcontent) (Repeat (OneOf is_dcontent)) _ c.in-None.ensures.cases)
