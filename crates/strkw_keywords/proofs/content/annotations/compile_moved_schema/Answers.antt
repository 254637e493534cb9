use Rattle.std.proofs.Common.{rules, option_map, refl, sym, ap, ◌∙◌}
use Rattle.serde_json.specs.View.{view}
use Rattle.strkw_keywords.specs.Settings.{place_in}
use Rattle.strkw_keywords.proofs.EntriesOf.{absent, none_located, some_located, refused_located}
use Rattle.strkw_keywords.proofs.Without.{none_compiled, schema_taken}
use Rattle.strkw_keywords.proofs.content.annotations.compile_moved_schema.Goals as goal

pub returns-in_err-schema : goal.returns-in_err-schema
returns-in_err-schema g c = λ ms beside there. rw c.from_residual.ensures (none_compiled _ _ ms _ (sym there ∙ ap (option_map view) c.in_err-schema.was))

pub returns-then-is_overridden : goal.returns-then-is_overridden
returns-then-is_overridden g c = λ ms beside there. absent _ _ ms _ (search rules)

pub returns-in-Ok-None : goal.returns-in-Ok-None
returns-in-Ok-None g c = λ ms beside there.
    none_located _ _ ms _ _ (search rules) (schema_taken _ _ ms _ _ (sym there ∙ ap (option_map view) c.in_ok-schema.was) (sym c.if-is_overridden.ensures)
    (c.in-Ok-None.ensures ms beside))

pub returns-in-Ok-Some : goal.returns-in-Ok-Some
returns-in-Ok-Some g c = λ ms beside there.
    some_located _ _ ms _ _ _ (search rules) (schema_taken _ _ ms _ _ (sym there ∙ ap (option_map view) c.in_ok-schema.was) (sym c.if-is_overridden.ensures)
    (c.in-Ok-Some.ensures ms beside))

pub returns-in-Err : goal.returns-in-Err
returns-in-Err g c = λ ms beside there.
    refused_located _ _ ms _ _ _ (schema_taken _ _ ms _ _ (sym there ∙ ap (option_map view) c.in_ok-schema.was) (sym c.if-is_overridden.ensures)
    (c.in-Err.ensures ms beside)) (c.refusal.ensures (place_in c.args.ctx.now) refl)
