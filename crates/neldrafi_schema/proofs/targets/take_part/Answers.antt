use Rattle.std.proofs.Common.{rules}
use Rattle.std.proofs.lemmas.Fn.{filter_same}
use Rattle.std.specs.Prelude.{not}
use Rattle.neldrafi_schema.specs.Rules.{is_of_part}
use Rattle.neldrafi_schema.specs.machine.Compiled.{step_of}
use Rattle.neldrafi_schema.proofs.Taken.{taken_part}
use Rattle.neldrafi_schema.proofs.targets.take_part.Goals as goal

pub returns : goal.returns
returns c = taken_part c.args.part _ _ (filter_same _ (λ x. not (is_of_part c.args.part (step_of x.step))) _ (λ x b f' k. search rules) _ _ c.retain.ensures.filtered)
