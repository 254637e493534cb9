use Rattle.std.proofs.Common.{codes, option_and_then, subst, sym, ap}
use Rattle.strkw_object.specs.Values.{AreOwnedOf}
use Rattle.serde_json.specs.Read.{read as read_text}
use Rattle.strkw_cli.specs.Answer.{settings_for}
use Rattle.strkw_cli.specs.Both.{AreBoth}
use Rattle.strkw_cli.specs.Borrowed.{IsObject, IsRequest}
use Rattle.strkw_cache.specs.Cached.{IsCompiledTo, Keeps, settings_under}
use Rattle.strkw_cli.specs.Request.{request_in}
use Rattle.strkw_cli.proofs.AnswerCases.{answer_to_none, answered_by}
use Rattle.strkw_cli.proofs.answering.answer_line.Goals as goal

pub returns-in_ok-push_answer-in-Read-clause-ok : goal.returns-in_ok-push_answer-in-Read-clause-ok
returns-in_ok-push_answer-in-Read-clause-ok c =
    let values = c.read_request.new.values in
    let (r, same, is) = subst (λ found. AreBoth (IsRequest values) found (option_and_then request_in (read_text c.args.line.now)))
    c.in-Some.is c.in_ok-request.ensures.ok in
    let are : AreOwnedOf r.schema values = subst (λ s. IsObject values s r.schema) c.in-Read.is is.object in
    answered_by c.args.line.now c.args.out.now.items c.push_answer.new.out.items r c.utf8.line same
    (c.in_ok-push_answer-in-Read.ensures.ok r (sym (ap (λ q. q.fold) is.others)) (sym (ap (λ q. q.instance) is.others))
    (subst (λ q. IsCompiledTo (settings_for q) r.schema c.compile-compiled.result) is.others (c.compile-compiled.ensures.compiled r.schema are)))

pub returns-in_ok-push_answer-in-Cached-clause-ok : goal.returns-in_ok-push_answer-in-Cached-clause-ok
returns-in_ok-push_answer-in-Cached-clause-ok c =
    let values = c.read_request.new.values in
    let object = c.in-Cached.object.now in
    let (r, asked, is) = subst (λ found. AreBoth (IsRequest values) found (option_and_then request_in (read_text c.args.line.now)))
    c.in-Some.is c.in_ok-request.ensures.ok in
    let keeps : Keeps object r.schema = subst (λ s. IsObject values s r.schema) c.in-Cached.is is.object in
    answered_by c.args.line.now c.args.out.now.items c.push_answer-in-Cached.new.out.items r c.utf8.line asked
    (c.in_ok-push_answer-in-Cached.ensures.ok r (sym (ap (λ q. q.fold) is.others)) (sym (ap (λ q. q.instance) is.others))
    (subst (λ q. IsCompiledTo (settings_for q) r.schema object.compiled) is.others
    (subst (λ a. IsCompiledTo (settings_under a) r.schema object.compiled) (c.is_compiled_under.ensures.0 c.if-is_compiled_under.true) keeps.is_compiled)))

pub returns-in_default-clause-ok : goal.returns-in_default-clause-ok
returns-in_default-clause-ok c =
    let values = c.read_request.new.values in
    let none = subst (λ found. AreBoth (IsRequest values) found (option_and_then request_in (read_text c.args.line.now)))
    c.in_default.is c.in_ok-request.ensures.ok in
    (codes "bad request\nend\n", c.in_ok-push_bad_request.ensures.ok, answer_to_none c.args.line.now c.utf8.line none)
