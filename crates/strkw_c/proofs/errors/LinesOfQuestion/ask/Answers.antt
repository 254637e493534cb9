use Rattle.std.proofs.Common.{Some, refl, subst, sym}
use Rattle.std.proofs.lemmas.Result.{IfOk-weaker}
use Rattle.strkw_ecma.specs.machine.Engine.{engine_outcome}
use Rattle.strkw_keywords.specs.Errors.{NodeReports}
use Rattle.strkw_report.specs.Standings.{root_site}
use Rattle.strkw_object.specs.Compiled.{keywords_assertions, keywords_remarks}
use Rattle.strkw_c.proofs.errors.LinesOfQuestion.ask.Goals as goal

pub lines_on-requires-clause-printable : goal.lines_on-requires-clause-printable
lines_on-requires-clause-printable g c =
    let (s, object, same, of) = c.requires.compiled in
    let k = c.args.keywords.now in
    let text = Some c.args.self.now.text.now in
    c.notes_have_texts.ensures s object text (keywords_remarks k)
    ((c.compiled_notes_are_those_of_the_object.ensures s object k text (keywords_remarks k) of).0 refl)

pub returns : goal.returns
returns g c =
    let k = c.args.keywords.now in
    let text = Some c.args.self.now.text.now in
    IfOk-weaker c.lines_on.result _ _ (λ lines are s object same of. (
      are.0,
      keywords_remarks k,
      (c.compiled_errors_are_those_of_the_object.ensures s object k s.lists root_site text are.0 of).0
          (subst (λ l. NodeReports (keywords_assertions engine_outcome k) l root_site text are.0) (sym same) are.1),
      (c.compiled_notes_are_those_of_the_object.ensures s object k text (keywords_remarks k) of).0 refl,
      are.2,
    )) c.lines_on.ensures
