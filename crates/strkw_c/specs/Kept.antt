-- Whose schema object is kept.
use Rattle.std.specs.Prelude.{◌≡◌, Option, IsSomeAnd, IfSome}
use Rattle.serde_json.specs.Data.{Members}
use Rattle.strkw_ecma.specs.machine.Engine.{engine_outcome}
use Rattle.strkw_keywords.specs.Object.{Settings}
use Rattle.strkw_object.specs.Compiled.{IsCompiledFrom}
use Rattle.strkw_c.specs.Settings.{settings_for}
use Rattle.strkw_c.specs.declared.kept.Kept.{Kept}

-- what is kept was compiled from a schema object under settings
abbrev pub IsKeptOf : Kept → Settings → Members → Type 0
IsKeptOf kept s object = (s ≡ settings_for kept.draft kept.choices)
    × IsCompiledFrom engine_outcome s object kept.keywords

-- there is such a schema object
abbrev pub IsKept : Kept → Type 0
IsKept kept = (s : Settings) × (object : Members) × IsKeptOf kept s object

-- a place keeps a schema object under settings
abbrev pub Keeps : Option Kept → Settings → Members → Type 0
Keeps place s object = IsSomeAnd place (λ kept. IsKeptOf kept s object)

-- what a place keeps, if it keeps anything, is that of a schema object
abbrev pub MayBeAsked : Option Kept → Type 0
MayBeAsked place = IfSome place IsKept
