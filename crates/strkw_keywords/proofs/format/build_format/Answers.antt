use Rattle.std.proofs.Common.{rules}
use Rattle.serde_json.specs.View.{view}
use Rattle.strkw_keywords.specs.Settings.{settings_of}
use Rattle.strkw_keywords.proofs.FormatEntry.{builtin_stands}
use Rattle.strkw_keywords.proofs.format.build_format.Goals as goal

pub returns-in_ok-origin-in-Some-builtin_format : goal.returns-in_ok-origin-in-Some-builtin_format
returns-in_ok-origin-in-Some-builtin_format g c =
    let s = settings_of g.B.EngineBuilder.takes g.B.EngineBuilder.outcome
    (λ f. (goal.Format-dyn g (f.vtable, f.value)).admits f.value)
    (λ m. (goal.MediaTypeCheck-dyn g (m.vtable, m.value)).accepts m.value)
    (λ k. (goal.ContentCodec-dyn g (k.vtable, k.value)).is_encoding k.value)
    (λ k. (goal.ContentCodec-dyn g (k.vtable, k.value)).decoding k.value) c.args.ctx.now in
    builtin_stands g.B.Engine.RegexEngine.outcome s (view c.args.value.now)
    c.in-Some.name.now c.in-Some-builtin_format.format _ (search rules) (search rules) (search rules) (search rules) (search rules) (search rules)
    (search rules)
