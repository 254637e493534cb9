use Rattle.std.proofs.Common.{◌≡◌, ◌++◌, ℕ, List, [], codes, length, rules, subst, sym}
use Rattle.std.proofs.lemmas.Bool.{eqb-true}
use Rattle.std.proofs.lemmas.List.{nil_from_length}
use Rattle.strkw_object.proofs.Results.{on_err, on_ok}
use Rattle.strkw_cli.specs.Answer.{IsAnswer}
use Rattle.strkw_cache.proofs.Telling.{made_appended}
use Rattle.strkw_cli.proofs.AnswerCases.{answer_to_nothing, cut_back, grown_anyway}
use Rattle.strkw_cli.proofs.answering.answer_text.Goals as goal
use Rattle.strkw_cli.proofs.answering.answer_text.Goals.{in-Ok, in-Err-Memory, in-Err-Differs}

pub returns-then-is_empty-clause-ok : goal.returns-then-is_empty-clause-ok
returns-then-is_empty-clause-ok c =
    let none : c.args.line.now ≡ [] = nil_from_length c.args.line.now (eqb-true (length c.args.line.now) 0 (sym c.if-is_empty.ensures)) in
    made_appended c.push_bad_request.result (IsAnswer c.args.line.now) c.args.out.now.items c.push_bad_request.new.out.items (codes "bad request\nend\n")
    (on_ok c.push_bad_request.result (subst (λ line. IsAnswer line (codes "bad request\nend\n")) (sym none) answer_to_nothing))
    c.push_bad_request.ensures.ok

-- what was appended is taken away again
pub returns-then-is_err-clause-err : goal.returns-then-is_err-clause-err
returns-then-is_err-clause-err c =
    let old = c.args.out.now.items in
    let mid = c.match-answer_line.out.items in
    let grown : (more : List ℕ) × (mid ≡ old ++ more) = elim c.match-answer_line.branch [
      | in-Ok w ↦
          let (made, is, _) = w.in-Ok.ensures.ok in
          (made, rw w.out-is is)
      | in-Err-Memory w ↦ rw w.out-is w.in-Err-Memory.ensures.err
      | in-Err-Differs w ↦
          let anew = w.answer_anew-result in
          rw w.out-is (grown_anyway anew.result (IsAnswer c.args.line.now) old c.answer_line.new.out.items anew.new.out.items
          (w.in-Err-Differs.ensures.differs (search rules)) anew.ensures.ok anew.ensures.err)
    ] in
    let size : c.len-before.result ≡ length old = search rules in
    on_err c.match-answer_line.result (cut_back c.len-before.result old mid c.truncate.new.self.items grown.0 size grown.1 c.truncate.ensures.items)
