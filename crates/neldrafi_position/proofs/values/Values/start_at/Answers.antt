use Rattle.std.proofs.Common.{◌≡◌, ◌∙◌, ◌==◌, ℕ, List, [], Bor, get_or, length, ap, eqb-true, sym, lit<, Ok, arith}
use Rattle.std.proofs.lemmas.Bool.Decides.{nat_tests}
use Rattle.std.proofs.lemmas.Iterator.Consumers.{map_from_collect}
use Rattle.std.proofs.lemmas.Iterator.Splits.{YieldsList-from_str_split}
use Rattle.std.proofs.lemmas.Result.{IfOk-weaker}
use Rattle.std.specs.List.{slice_split}
use Rattle.neldrafi_position.proofs.Pointing.{pointer_none, pointer_read, texts}
use Rattle.neldrafi_position.proofs.values.Values.start_at.Goals.{After-as_slice}
use Rattle.neldrafi_position.proofs.values.Values.start_at.Goals as goal

abbrev none : Bor (List ℕ)
none = record { ref_ptr = (0, 0); now = [] }

cut : (c : After-as_slice) → texts c.as_slice.result.now ≡ slice_split (λ b. b == 47) c.args.pointer.now
cut c = ap texts c.as_slice.ensures.value ∙ map_from_collect {E = Unit {0}} (Ok c.in_ok-tokens.tokens) c.in_ok-tokens.ensures.ran
    (YieldsList-from_str_split 47 c.args.pointer.now (lit< tt) c.split.ensures.text c.split.ensures.has_more c.split.ensures.pattern)

pub returns-then-not-is_empty-clause-start : goal.returns-then-not-is_empty-clause-start
returns-then-not-is_empty-clause-start c =
    pointer_none c.args.self.now c.args.pointer.now c.as_slice.result.now none
    (cut (goal.at.returns-then-not-is_empty-clause-start c).After-as_slice) c.in-len1-up.len_at_least (grind (arith, nat_tests))

pub returns-clause-start : goal.returns-clause-start
returns-clause-start c =
    let at = pointer_read c.args.self.now c.args.pointer.now c.as_slice.result.now none
    (cut (goal.at.returns-clause-start c).After-as_slice) c.in-len1-up.len_at_least
    (eqb-true (length (get_or c.as_slice.result.now 0 none).now) 0 (sym c.is_empty.ensures ∙ c.if-not-is_empty.false)) in
    IfOk-weaker c.start_along.result _ _ (λ found is. is ∙ at) c.start_along.ensures.start
