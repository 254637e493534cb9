use Rattle.std.proofs.Common.{◌≡◌, take}
use Rattle.std.specs.List.{list_any}
use Rattle.strkw_pattern.specs.Whitespace.{may_begin}
use Rattle.strkw_pattern.proofs.whitespace.any_begins.Given as goal

abbrev pub invariant-loop-byte : goal.invariant-loop-byte
invariant-loop-byte l = l.begins ≡ list_any may_begin (take l.byte-index l.bytes)
