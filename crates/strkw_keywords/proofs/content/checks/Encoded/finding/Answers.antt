use Rattle.strkw_keywords.specs.Choices.{choice_of}
use Rattle.strkw_keywords.proofs.Reports.{not_encoded}
use Rattle.strkw_keywords.proofs.content.checks.Encoded.finding.Goals as goal

pub returns-else-branch : goal.returns-else-branch
returns-else-branch g c = not_encoded (choice_of c.args.self.now.codec) _ c.args.text.now c.chosen_codec.result.now c.in_ok-is_encoding.field-0
    c.if-branch.false c.in_ok-is_encoding.ensures c.chosen_codec.ensures
