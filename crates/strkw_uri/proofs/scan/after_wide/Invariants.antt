use Rattle.std.proofs.Common.{◌≤◌, length}
use Rattle.std.specs.Str.{chars}
use denote.Shadow.{shadow}
use denote.Text.{Utf8}
use Rattle.strkw_text.specs.Abnf.{Repeat}
use Rattle.strkw_text.specs.Fronts.{StartsWith}
use Rattle.strkw_uri.specs.Uri.{Encoded}
use Rattle.strkw_uri.specs.Scan.{is_part_char}
use Rattle.strkw_uri.specs.declared.part.Syntax.TheVariants.{Rfc3987}
use Rattle.strkw_uri.proofs.scan.after_wide.Given as goal

abbrev pub invariant-loop-c : goal.invariant-loop-c
invariant-loop-c l =
    shadow (Utf8 l.rest) × StartsWith (Repeat (Encoded (is_part_char Rfc3987 l.part))) (chars l.text) (chars l.rest) × (length l.rest ≤ length l.text)

abbrev pub decreases-loop-c : goal.decreases-loop-c
decreases-loop-c l = length l.rest
