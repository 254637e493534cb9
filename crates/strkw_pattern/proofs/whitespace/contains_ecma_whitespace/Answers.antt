use Rattle.std.proofs.Common.{sym, ap, ◌∙◌}
use Rattle.std.specs.List.{list_any}
use Rattle.std.specs.Str.{chars}
use Rattle.std.proofs.lemmas.Bool.{eqb-true}
use Rattle.std.proofs.lemmas.List.{nil_from_length}
use Rattle.std.proofs.lemmas.Str.{chars-nil}
use Rattle.strkw_pattern.specs.Whitespace.{is_ecma_whitespace}
use Rattle.strkw_pattern.proofs.whitespace.contains_ecma_whitespace.Goals as goal

pub loop-rest-preserved : goal.loop-rest-preserved
loop-rest-preserved c = (c.in-Some.ensures.utf8, c.loop-rest.invariant.1 ∙ c.after_clear.ensures.same ∙ c.in-Some.ensures.cases)

pub returns-in-None : goal.returns-in-None
returns-in-None c = sym (c.loop-rest.invariant.1 ∙ c.after_clear.ensures.same ∙ c.in-None.ensures.cases)

pub returns : goal.returns
returns c =
    let none = nil_from_length _ (eqb-true _ 0 (sym c.is_empty.ensures ∙ c.loop-rest-test.false)) in
    sym (c.loop-rest.invariant.1 ∙ ap (λ t. list_any is_ecma_whitespace (chars t)) none ∙ ap (list_any is_ecma_whitespace) chars-nil)
