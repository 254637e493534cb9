use Rattle.std.proofs.Common.{arith}
use Rattle.strkw_regex_core.specs.declared.counted_regex.CountedRegex.{the_lemmas}
use Rattle.strkw_regex_core.proofs.Shapes.{shapes, no_class}
use Rattle.strkw_regex_core.proofs.counted_regex.CountedRegex.class.Goals as goal

pub returns-in-Empty : goal.returns-in-Empty
returns-in-Empty c = grind (arith, the_lemmas, shapes, no_class)
