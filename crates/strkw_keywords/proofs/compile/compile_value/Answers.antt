use Rattle.std.proofs.Common.{rules, refl}
use Rattle.strkw_keywords.specs.Settings.{place_in}
use Rattle.strkw_keywords.proofs.EntriesOf.{none_located, some_located, refused_located}
use Rattle.strkw_keywords.proofs.compile.compile_value.Goals as goal

pub returns-in-Ok-None : goal.returns-in-Ok-None
returns-in-Ok-None g c = none_located _ _ _ _ _ (search rules) c.in-Ok-None.ensures

pub returns-in-Ok-Some : goal.returns-in-Ok-Some
returns-in-Ok-Some g c = some_located _ _ _ _ _ _ (search rules) c.in-Ok-Some.ensures

pub returns-in-Err : goal.returns-in-Err
returns-in-Err g c = refused_located _ _ _ _ _ _ c.in-Err.ensures (c.refusal.ensures (place_in c.args.ctx.now) refl)
