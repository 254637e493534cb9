use Rattle.std.proofs.Common.{◌↔◌, length}
use Rattle.std.specs.Str.{chars}
use denote.Shadow.{shadow}
use denote.Text.{Utf8}
use Rattle.strkw_text.specs.Abnf.{◌⨾◌}
use Rattle.strkw_uri.specs.Pointer.{ReferenceToken, IsJsonPointer}
use Rattle.strkw_uri.proofs.pointer.is_in_pointer.Given as goal

abbrev pub invariant-loop-c : goal.invariant-loop-c
invariant-loop-c l = shadow (Utf8 l.rest) × ((ReferenceToken ⨾ IsJsonPointer) (chars l.text) ↔ (ReferenceToken ⨾ IsJsonPointer) (chars l.rest))

abbrev pub decreases-loop-c : goal.decreases-loop-c
decreases-loop-c l = length l.rest
