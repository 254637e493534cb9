use Rattle.std.proofs.Common.{◌∙◌}
use Rattle.strkw_keywords.specs.Values.{held_value}
use Rattle.strkw_keywords.proofs.Held.{held_value_is_member}
use Rattle.strkw_keywords.proofs.values.ValuesObject.value.Goals as goal

pub returns : goal.returns
returns c = c.at.ensures ∙ held_value_is_member (held_value c.args.self.now) c.args.keyword
