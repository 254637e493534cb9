use Rattle.std.proofs.Common.{◌≡◌, ◌++◌, drop, map, string_bytes}
use Rattle.neldrafi_schema.specs.Errors.{quoted_name}
use Rattle.neldrafi_schema.proofs.error.quoted_types.Given as goal

abbrev pub invariant-loop-kind : goal.invariant-loop-kind
invariant-loop-kind l = map string_bytes l.names.items ++ map quoted_name (drop l.kind-index l.types) ≡ map quoted_name l.types
