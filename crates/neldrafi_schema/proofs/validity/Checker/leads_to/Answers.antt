use Rattle.std.proofs.lemmas.Result.{IfOk-weaker}
use Rattle.neldrafi_schema.proofs.validity.Checker.leads_to.Goals as goal

pub returns-in-Matching : goal.returns-in-Matching
returns-in-Matching g c = λ lists tests. IfOk-weaker c.is_matched.result _ _ (λ b e. rw (c.in-Rule.is, c.in-Matching.is, ← c.deref-in-Matching.ensures.value) e)
    (c.is_matched.ensures lists tests)
