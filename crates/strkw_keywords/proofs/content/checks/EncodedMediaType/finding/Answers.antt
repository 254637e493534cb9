use Rattle.std.proofs.Common.{rules}
use Rattle.strkw_keywords.specs.Choices.{choice_of}
use Rattle.strkw_keywords.proofs.Reports.{decodes_well, decodes_badly}
use Rattle.strkw_keywords.proofs.content.checks.EncodedMediaType.finding.Goals as goal

pub returns-then-branch : goal.returns-then-branch
returns-then-branch g c =
    decodes_well (choice_of c.args.self.now.codec) (choice_of c.args.self.now.media_type) _ c.args.text.now c.as_str.result.now _ _
    (search rules) c.in-Ok-Some.ensures.text c.if-branch.true c.in_ok-accepts-in-Ok-Some.ensures

pub returns : goal.returns
returns g c =
    decodes_badly (choice_of c.args.self.now.codec) (choice_of c.args.self.now.media_type) _ c.args.text.now c.as_str.result.now c.chosen_media_type.result.now
    _ _
    (search rules) c.in-Ok-Some.ensures.text c.if-branch.false c.in_ok-accepts-in-Ok-Some.ensures c.chosen_media_type.ensures
