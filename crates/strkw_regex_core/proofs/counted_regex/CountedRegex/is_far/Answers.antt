use Rattle.std.proofs.Common.{◌∙◌, ap}
use Rattle.strkw_regex_core.specs.machine.Shape.{outline_pattern, quantifier_of}
use Rattle.strkw_regex_core.proofs.Fronts.{far_of_times}
use Rattle.strkw_regex_core.proofs.Shapes.{outlined-Repeated}
use Rattle.strkw_regex_core.proofs.counted_regex.CountedRegex.is_far.Goals as goal

pub returns-in-Repeated : goal.returns-in-Repeated
returns-in-Repeated c =
    let whole = ap outline_pattern c.in-Repeated.is ∙ outlined-Repeated c.in-Repeated.field-0 c.in-Repeated.field-1 in
    rw whole (far_of_times (quantifier_of c.in-Repeated.field-0) (outline_pattern c.in-Repeated.field-1.value))
