use Rattle.std.proofs.Common.{◌≡◌, length}
use Rattle.std.specs.List.{list_any}
use Rattle.std.specs.Str.{chars}
use denote.Shadow.{shadow}
use denote.Text.{Utf8}
use Rattle.strkw_pattern.specs.Whitespace.{is_ecma_whitespace}
use Rattle.strkw_pattern.proofs.whitespace.contains_ecma_whitespace.Given as goal

abbrev pub invariant-loop-rest : goal.invariant-loop-rest
invariant-loop-rest l = shadow (Utf8 l.rest) × (list_any is_ecma_whitespace (chars l.text) ≡ list_any is_ecma_whitespace (chars l.rest))

abbrev pub decreases-loop-rest : goal.decreases-loop-rest
decreases-loop-rest l = length l.rest
