use Rattle.std.proofs.Common.{rules}
use Rattle.std.proofs.lemmas.Fn.{filter_same}
use Rattle.std.specs.Prelude.{not}
use Rattle.neldrafi_schema.specs.machine.Compiled.{step_of}
use Rattle.neldrafi_schema.specs.machine.Left.{same_segment}
use Rattle.neldrafi_schema.proofs.Taken.{taken_at}
use Rattle.neldrafi_schema.proofs.targets.take_at.Goals as goal

pub returns : goal.returns
returns c = taken_at (step_of c.args.step) _ _ (filter_same _ (λ x. not (same_segment (step_of x.step) (step_of c.args.step))) _ (λ x b f' k. search rules) _ _ c.retain.ensures.filtered)
