use Rattle.std.proofs.Common.{◌≡◌, take}
use Rattle.std.specs.List.{list_all}
use Rattle.strkw_pattern.specs.Whitespace.{is_solid}
use Rattle.strkw_pattern.proofs.whitespace.are_solid.Given as goal

abbrev pub invariant-loop-byte : goal.invariant-loop-byte
invariant-loop-byte l = l.solid ≡ list_all is_solid (take l.byte-index l.bytes)
