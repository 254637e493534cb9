use Rattle.std.proofs.Common.{◌≡◌, ◌≢◌, ℕ, List, Option, Some, IfOk, IfSome, ap, subst, ◌∙◌}
use Rattle.std.specs.Str.{chars}
use Rattle.std.proofs.lemmas.Result.{IfOk-weaker}
use Rattle.strkw_regex_reader.specs.Refusals.{IsReason}
use Rattle.strkw_regex_reader.specs.declared.refusals.PatternRefusal.{PatternRefusal}
use Rattle.strkw_regex_reader.specs.declared.refusals.PatternRefusal.TheVariants.{IdentityEscape}
use Rattle.strkw_ecma.specs.Lenient.{strict_form}
use Rattle.strkw_ecma.proofs.StrictReasons.{no_escape}
use Rattle.strkw_ecma.proofs.lenient.why_refused_leniently.Goals as goal

pub returns-clause-reason : goal.returns-clause-reason
returns-clause-reason c =
    let form : chars c.deref.result.now ≡ strict_form (chars c.args.pattern.now) = ap chars c.deref.ensures ∙ c.in_ok-form.ensures in
    subst (λ (z : List ℕ). IfOk c.why_refused.result (λ why. IfSome why (IsReason z))) form c.why_refused.ensures.reason

pub returns-clause-no_escape : goal.returns-clause-no_escape
returns-clause-no_escape c =
    let source = chars c.args.pattern.now in
    let Reason = λ (why : Option PatternRefusal). IfSome why (IsReason (strict_form source)) in
    IfOk-weaker c.why_refused.result Reason (λ why. (d : ℕ) → why ≢ Some (IdentityEscape d))
    (λ why h d e. no_escape source d (subst Reason e h)) (returns-clause-reason c)
