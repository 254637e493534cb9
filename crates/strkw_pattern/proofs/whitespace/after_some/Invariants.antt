use Rattle.std.proofs.Common.{◌≡◌, ◌≤◌, length}
use Rattle.std.specs.List.{list_any}
use Rattle.std.specs.Str.{chars}
use denote.Shadow.{shadow}
use denote.Text.{Utf8}
use Rattle.strkw_pattern.specs.Whitespace.{is_ecma_whitespace}
use Rattle.strkw_pattern.proofs.whitespace.after_some.Given as goal

abbrev pub invariant-loop-c : goal.invariant-loop-c
invariant-loop-c l = shadow (Utf8 l.rest) × (list_any is_ecma_whitespace (chars l.text) ≡ list_any is_ecma_whitespace (chars l.rest))
    × (length l.rest ≤ length l.text)

abbrev pub decreases-loop-c : goal.decreases-loop-c
decreases-loop-c l = length l.rest
