use Rattle.std.proofs.Common.{◌≡◌, ◌++◌, string_bytes, take}
use Rattle.std.specs.List.{flat_map}
use Rattle.neldrafi_check.specs.Uris.{uri_byte}
use Rattle.neldrafi_check.proofs.uris.push_uri.Given as goal

abbrev pub invariant-loop-byte : goal.invariant-loop-byte
invariant-loop-byte l = string_bytes l.out ≡ string_bytes l.initial.out ++ flat_map uri_byte (take l.byte-index l.byte-items)
