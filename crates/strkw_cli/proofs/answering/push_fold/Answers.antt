use Rattle.std.proofs.Common.{inr, refl, codes}
use Rattle.strkw_keywords.specs.Lengths.{IsEmpty}
use Rattle.strkw_object.specs.Compiled.{keywords_interval}
use Rattle.strkw_cli.proofs.AnswerCases.{told_appended}
use Rattle.strkw_cli.proofs.answering.push_fold.Goals as goal

pub returns-else-folds_to_false-clause-ok : goal.returns-else-folds_to_false-clause-ok
returns-else-folds_to_false-clause-ok g c =
    let more = c.extend_from_slice-else-folds_to_false in
    told_appended more.result (IsEmpty (keywords_interval g.E.RegexEngine.outcome c.args.keywords.now)) c.args.out.now.items more.new.self.items
    (codes "fold false\n") _ (inr ((λ e. let folds = c.folds_to_false.ensures.1 e in absurd (cc)), refl)) more.ensures.items
