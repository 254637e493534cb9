use Rattle.std.proofs.Common.{ap, ◌∙◌}
use Rattle.std.specs.Str.{is_utf8}
use Rattle.std.proofs.lemmas.Str.{is_utf8-from_IsUtf8}
use Rattle.strkw_regex_search.proofs.along.Along.new.Goals as goal

pub invariant_of-result : goal.invariant_of-result
invariant_of-result c = record { utf8 = ap is_utf8 c.chars.ensures.rest ∙ is_utf8-from_IsUtf8 c.args.text.now c.utf8.text }
