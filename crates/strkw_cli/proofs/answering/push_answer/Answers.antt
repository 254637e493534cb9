use Rattle.std.proofs.Common.{◌≡◌, ◌++◌, ℕ, [], List, None, Some, OnOk, length, option_map, refl, subst, sym, append-nil, rules}
use Rattle.strkw_pattern.specs.Matcher.{literal_outcome}
use Rattle.strkw_report.specs.Kinds.{Report}
use Rattle.strkw_report.specs.Standings.{root_site}
use Rattle.strkw_keywords.specs.Errors.{NodeReports}
use Rattle.strkw_keywords.specs.Lengths.{IsEmpty}
use Rattle.strkw_keywords.specs.Meanings.{no_lists}
use Rattle.strkw_object.specs.Compiled.{keywords_assertions, keywords_interval}
use Rattle.strkw_cache.specs.Cached.{IsCompiledTo}
use Rattle.strkw_cache.specs.Told.{IsTold}
use Rattle.strkw_print.specs.Printed.{error_lines}
use Rattle.strkw_cli.specs.Answer.{settings_for, TellsFold, verdict_lines}
use Rattle.strkw_cli.proofs.AnswerCases.{appended_answer, appended_more, appended_none, appended_refusal, appended_text}
use Rattle.strkw_cli.proofs.Verdicts.{some_errors, no_errors}
use Rattle.strkw_cli.proofs.answering.push_answer.Goals as goal
use Rattle.strkw_cli.proofs.answering.push_answer.Goals.{then-request+in_ok-push_fold-in-Ok, else-request}
use Rattle.strkw_cli.proofs.answering.push_answer.Goals.{then-len-before+in_ok-extend_from_slice-in-Ok, else-len-before}

-- what is told of folding
folded : (c : goal.After-push_told) → (told : List ℕ) × (c.if-request.out.items ≡ c.args.out.now.items ++ told)
    × TellsFold c.args.request.now.fold (IsEmpty (keywords_interval literal_outcome c.in-Ok.keywords)) told
folded c = elim c.if-request.branch [
  | then-request+in_ok-push_fold-in-Ok w ↦ rw (w.out-is, w.if-request.true) w.in_ok-push_fold-in-Ok.ensures.ok
  | else-request w ↦ ([], rw w.out-is (sym (append-nil c.args.out.now.items)), rw w.if-request.false refl)
]

-- the lines of the errors of a text, or that it has none
written : (c : goal.After-push_told) (errors : List Report) → c.push_errors.new.out.items ≡ c.if-request.out.items ++ error_lines errors
    → c.if-len-before.out.items ≡ c.if-request.out.items ++ verdict_lines errors
written c errors grown =
    let before = c.if-request.out.items in
    let found = c.push_errors.new.out.items in
    elim c.if-len-before.branch [
      | then-len-before+in_ok-extend_from_slice-in-Ok w ↦
          let same : length found ≡ length before = search rules in
          rw w.out-is (no_errors before found w.extend_from_slice-then-len-before.new.self.items errors grown same (search rules))
      | else-len-before w ↦
          let longer : length found ≡ length before → ⊥ = search rules in
          rw w.out-is (some_errors before found errors grown longer)
    ]

-- a text
pub returns-after-len-before-clause-ok : goal.returns-after-len-before-clause-ok
returns-after-len-before-clause-ok c r folds is compiled =
    let rest = c.push_told in
    let k = c.in-Ok.keywords in
    let fold = c.args.request.now.fold in
    let old = c.args.out.now.items in
    let mid = c.if-request.out.items in
    let node = option_map (λ text. text.now) c.args.request.now.instance in
    let text = c.in-Some.text in
    let (errors, grown, reported) = c.in_ok-push_errors-in-Ok.ensures.ok in
    appended_answer rest.result literal_outcome r k no_lists fold node old mid rest.new.out.items folds is
    refl (subst (IsCompiledTo (settings_for r) r.schema) c.in-Ok.is compiled) (folded c)
    (appended_text rest.result _ _ node text k mid c.if-len-before.out.items rest.new.out.items (
      errors,
      written c errors grown,
      subst
          (λ lists. NodeReports (keywords_assertions literal_outcome k) lists root_site (Some text) errors) c.none.ensures reported,
    )
    (subst (λ x. OnOk rest.result ((told : List ℕ) × (rest.new.out.items ≡ c.if-len-before.out.items ++ told) × IsTold x told)) c.in-Ok.is
    rest.ensures.ok) (search rules))

pub returns-after-len-before-clause-err : goal.returns-after-len-before-clause-err
returns-after-len-before-clause-err c =
    let rest = c.push_told in
    let old = c.args.out.now.items in
    let mid = c.if-request.out.items in
    let (told, first, _) = folded c in
    let (errors, grown, _) = c.in_ok-push_errors-in-Ok.ensures.ok in
    appended_more rest.result old mid rest.new.out.items told first
    (appended_more rest.result mid c.if-len-before.out.items rest.new.out.items (verdict_lines errors) (written c errors grown) rest.ensures.err)

-- an instance that is no text
pub returns-in_default-clause-ok : goal.returns-in_default-clause-ok
returns-in_default-clause-ok c r folds is compiled =
    let last = c.extend_from_slice in
    let k = c.in-Ok.keywords in
    let fold = c.args.request.now.fold in
    let old = c.args.out.now.items in
    let mid = c.if-request.out.items in
    let node = option_map (λ text. text.now) c.args.request.now.instance in
    let none : node ≡ None = search rules in
    let folded : (told : List ℕ) × (mid ≡ old ++ told) × TellsFold fold (IsEmpty (keywords_interval literal_outcome k)) told =
    elim c.if-request.branch [
      | then-request+in_ok-push_fold-in-Ok w ↦ rw (w.out-is, w.if-request.true) w.in_ok-push_fold-in-Ok.ensures.ok
      | else-request w ↦ ([], rw w.out-is (sym (append-nil old)), rw w.if-request.false refl)
    ] in
    appended_answer last.result literal_outcome r k no_lists fold node old mid last.new.self.items folds is
    refl (subst (IsCompiledTo (settings_for r) r.schema) c.in-Ok.is compiled) folded
    (appended_none last.result _ no_lists node _ mid last.new.self.items none (search rules))

pub returns-in-Err-clause-ok : goal.returns-in-Err-clause-ok
returns-in-Err-clause-ok c r folds is compiled =
    let rest = c.push_told-in-Err in
    appended_refusal rest.result r c.in-Err.field-0 c.args.out.now.items rest.new.out.items
    (subst (IsCompiledTo (settings_for r) r.schema) c.in-Err.is compiled)
    (subst (λ x. OnOk rest.result ((told : List ℕ) × (rest.new.out.items ≡ c.args.out.now.items ++ told) × IsTold x told)) c.in-Err.is rest.ensures.ok)
