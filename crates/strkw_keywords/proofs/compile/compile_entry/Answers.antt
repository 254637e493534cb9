use Rattle.std.proofs.Common.{rules, option_map, sym, ap, ◌∙◌}
use Rattle.serde_json.specs.View.{view}
use Rattle.strkw_keywords.proofs.EntriesOf.{absent}
use Rattle.strkw_keywords.proofs.Without.{none_compiled}
use Rattle.strkw_keywords.proofs.compile.compile_entry.Goals as goal

pub returns-in_err-value : goal.returns-in_err-value
returns-in_err-value g c =
    rw c.from_residual.ensures (none_compiled _ _ _ _ (sym c.value.ensures ∙ ap (option_map (λ v. view v.now)) c.in_err-value.was))

pub returns-then-is_overridden : goal.returns-then-is_overridden
returns-then-is_overridden g c = absent _ _ _ _ (search rules)
