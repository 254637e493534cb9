use Rattle.strkw_text.proofs.Equivalences.{carry, iff_trans}
use Rattle.strkw_uri.proofs.Expressions.{template_step, template_end}
use Rattle.strkw_uri.proofs.TemplateRuns.{template_run}
use Rattle.strkw_uri.proofs.template.is_valid_uri_template.Goals as goal

pub loop-after-preserved : goal.loop-after-preserved
loop-after-preserved c = (
  c.after_ascii-rest.utf8,
  iff_trans c.loop-after.invariant.1 (iff_trans (template_step _ _ c.in-Some.ensures.cases) (template_run _ _ c.after_ascii-rest.ensures.run)),
)

pub returns : goal.returns
returns c = carry c.is_end.ensures (iff_trans c.loop-after.invariant.1 (template_end _ c.in_default.ensures.cases))
