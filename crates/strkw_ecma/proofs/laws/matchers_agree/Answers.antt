use Rattle.strkw_regex_core.specs.Matchers.{forward, backward}
use Rattle.strkw_regex_core.proofs.Matchers.{exact, found_by_matcher}
use Rattle.strkw_regex_reader.specs.Patterns.{pattern}
use Rattle.strkw_regex_reader.proofs.OrderedBounds.{ordered_tree}
use Rattle.strkw_ecma.proofs.laws.matchers_agree.Goals as goal

pub returns-clause-forward : goal.returns-clause-forward
returns-clause-forward c = λ text p c i o h. exact text p o forward i c h

pub returns-clause-backward : goal.returns-clause-backward
returns-clause-backward c = λ text p c j o h. exact text p o backward j c h

pub returns-clause-ordered : goal.returns-clause-ordered
returns-clause-ordered c = λ source d is. ordered_tree d is.made.formed

pub returns-clause-found : goal.returns-clause-found
returns-clause-found c = λ source d is text. found_by_matcher text (pattern d) (ordered_tree d is.made.formed)
