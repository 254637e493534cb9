use Rattle.std.proofs.Common.{◌≤◌, length}
use Rattle.std.specs.Str.{chars}
use denote.Shadow.{shadow}
use denote.Text.{Utf8}
use Rattle.strkw_text.specs.Abnf.{Repeat}
use Rattle.strkw_text.specs.Fronts.{StartsWith}
use Rattle.strkw_uri.specs.Template.{FurtherVarchar}
use Rattle.strkw_uri.proofs.template.skip_name.Given as goal

abbrev pub invariant-loop-after : goal.invariant-loop-after
invariant-loop-after l = shadow (Utf8 l.rest) × StartsWith (Repeat FurtherVarchar) (chars l.text) (chars l.rest) × (length l.rest ≤ length l.text)

abbrev pub decreases-loop-after : goal.decreases-loop-after
decreases-loop-after l = length l.rest
