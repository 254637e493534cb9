-- What is held from line to line. No public clause speaks of it.
use Rattle.std.specs.Prelude.{IfSome}
use Rattle.strkw_cache.specs.Cached.{IsCached}
use Rattle.strkw_cli.specs.declared.held.Held.{Held}

-- what is held from line to line is right
abbrev pub IsSound : Held → Type 0
IsSound h = IfSome h.cache.object IsCached
