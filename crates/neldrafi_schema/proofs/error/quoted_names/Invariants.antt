use Rattle.std.proofs.Common.{◌≡◌, ◌++◌, drop, map, string_bytes}
use Rattle.neldrafi_schema.specs.Errors.{in_quotes}
use Rattle.neldrafi_schema.proofs.error.quoted_names.Given as goal

abbrev pub invariant-loop-name : goal.invariant-loop-name
invariant-loop-name l = map string_bytes l.texts.items ++ map in_quotes (map string_bytes (drop l.name-index l.names)) ≡ map in_quotes (map string_bytes l.names)
