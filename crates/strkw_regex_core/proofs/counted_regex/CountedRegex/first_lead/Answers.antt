use Rattle.std.proofs.Common.{◌∙◌, ap, sym}
use Rattle.strkw_regex_core.specs.machine.Shape.{outline_pattern, quantifier_of}
use Rattle.strkw_regex_core.proofs.Fronts.{lead_of_whole}
use Rattle.strkw_regex_core.proofs.Shapes.{outlined-Repeated}
use Rattle.strkw_regex_core.proofs.counted_regex.CountedRegex.first_lead.Goals as goal

pub returns-else-is_nothing : goal.returns-else-is_nothing
returns-else-is_nothing c =
    lead_of_whole (quantifier_of c.in-Repeated.field-0) (outline_pattern c.in-Repeated.field-1.value) (outline_pattern c.args.self.now)
    (ap outline_pattern c.in-Repeated.is ∙ outlined-Repeated c.in-Repeated.field-0 c.in-Repeated.field-1)
    (sym c.is_nothing.ensures ∙ c.if-is_nothing.false)
