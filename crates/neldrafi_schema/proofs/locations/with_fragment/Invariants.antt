use Rattle.std.proofs.Common.{◌≡◌, ◌++◌, drop, string_bytes}
use Rattle.std.specs.List.{flat_map}
use Rattle.neldrafi_schema.specs.Locations.{fragment_byte, with_fragment}
use Rattle.neldrafi_schema.proofs.locations.with_fragment.Given as goal

-- what is there, and what the bytes that are left give, is the whole
abbrev pub invariant-loop-byte : goal.invariant-loop-byte
invariant-loop-byte l = string_bytes l.uri ++ flat_map fragment_byte (drop l.byte-index l.text)
    ≡ with_fragment (string_bytes l.fn.uri) l.text
