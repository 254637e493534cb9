use Rattle.std.proofs.Common.{rules, option_map, sym, ap, ◌∙◌}
use Rattle.serde_json.specs.View.{view}
use Rattle.strkw_keywords.proofs.EntriesOf.{absent}
use Rattle.strkw_keywords.proofs.Held.{same_members}
use Rattle.strkw_keywords.proofs.Without.{none_compiled, same_compiled}
use Rattle.strkw_keywords.proofs.compile.compile_among.Goals as goal

pub returns-in_err-value : goal.returns-in_err-value
returns-in_err-value g c = λ ms are.
    let none = sym c.value.ensures ∙ ap (option_map (λ v. view v.now)) c.in_err-value.was in
    rw c.from_residual.ensures (same_compiled _ _ ms _ (same_members c.args.values.now ms are) _ _ (none_compiled _ _ _ _ none))

pub returns-then-is_overridden : goal.returns-then-is_overridden
returns-then-is_overridden g c = λ ms are. absent _ _ ms _ (search rules)

pub returns : goal.returns
returns g c = λ ms are. same_compiled _ _ ms _ (same_members c.args.values.now ms are) _ _ c.compile_value.ensures
