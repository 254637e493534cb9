use Rattle.std.proofs.Common.{rules, refl}
use Rattle.std.specs.Str.{chars}
use Rattle.std.proofs.lemmas.Result.{err_from_is_err_and}
use Rattle.serde_json.specs.View.{view}
use Rattle.strkw_pattern.specs.Matcher.{literal_outcome, matcher_of}
use Rattle.strkw_keywords.proofs.Engines.{engine_stands, literal_stands, string_refused, regex_refused, out_of_memory_refused}
use Rattle.strkw_keywords.proofs.pattern.build.build_pattern.Goals as goal

pub returns-in-Some-2 : goal.returns-in-Some-2
returns-in-Some-2 g c =
    literal_stands _ _ (view c.args.value.now) c.in-Some.text.now (literal_outcome (matcher_of c.in-Some-2.literal)) _
    (search rules)
    (c.matcher_answers_search.ensures (chars c.in-Some.text.now) c.in-Some-2.literal (rw c.in-Some-2.is at c.in_ok-literal.ensures))
    (search rules) c.literal_validator.ensures.remark (search rules)

pub returns-in_ok-origin-in-Ok : goal.returns-in_ok-origin-in-Ok
returns-in_ok-origin-in-Ok g c =
    engine_stands _ _ (view c.args.value.now) c.in-Some.text.now _
    (search rules) (rw c.in_default-2.is at c.in_ok-literal.ensures)
    (c.in-Ok.ensures.taken) (search rules) refl (search rules)

pub returns-in_default : goal.returns-in_default
returns-in_default g c = string_refused _ _ (view c.args.value.now) _ c.in_default.ensures c.no_string.ensures

pub returns-in_err-pattern : goal.returns-in_err-pattern
returns-in_err-pattern g c =
    let (e, is, same) = err_from_is_err_and c.from_residual.result c.from_residual.ensures.1 in
    rw is (out_of_memory_refused _ _ (view c.args.value.now) e same)

pub returns-in_err-literal : goal.returns-in_err-literal
returns-in_err-literal g c =
    let (e, is, same) = err_from_is_err_and c.from_residual-in_err-literal.result c.from_residual-in_err-literal.ensures.1 in
    rw is (out_of_memory_refused _ _ (view c.args.value.now) e same)

pub returns-in_err-origin_of : goal.returns-in_err-origin_of
returns-in_err-origin_of g c =
    let (e, is, same) = err_from_is_err_and c.from_residual-in_err-origin_of.result c.from_residual-in_err-origin_of.ensures.1 in
    rw is (out_of_memory_refused _ _ (view c.args.value.now) e same)

pub returns-in_err-origin-in-Ok : goal.returns-in_err-origin-in-Ok
returns-in_err-origin-in-Ok g c =
    let (e, is, same) = err_from_is_err_and c.from_residual-in_err-origin-in-Ok.result c.from_residual-in_err-origin-in-Ok.ensures.1 in
    rw is (out_of_memory_refused _ _ (view c.args.value.now) e same)

pub returns-in-Err-Pattern : goal.returns-in-Err-Pattern
returns-in-Err-Pattern g c =
    regex_refused _ _ (view c.args.value.now) c.in-Some.text.now _ (search rules) (rw c.in_default-2.is at c.in_ok-literal.ensures) (search rules)
    (λ place. search rules)

pub returns-in-Err-Memory : goal.returns-in-Err-Memory
returns-in-Err-Memory g c = out_of_memory_refused _ _ (view c.args.value.now) _ refl
