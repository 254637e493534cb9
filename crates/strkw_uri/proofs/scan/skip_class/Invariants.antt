use Rattle.std.proofs.Common.{length}
use Rattle.std.specs.Str.{chars}
use denote.Shadow.{shadow}
use denote.Text.{Utf8}
use Rattle.strkw_text.specs.Abnf.{Repeat, OneOf}
use Rattle.strkw_text.specs.Fronts.{StartsWith}
use Rattle.strkw_uri.specs.Scan.{is_class_char}
use Rattle.strkw_uri.proofs.scan.skip_class.Given as goal

abbrev pub invariant-loop-after : goal.invariant-loop-after
invariant-loop-after l = shadow (Utf8 l.rest) × StartsWith (Repeat (OneOf (is_class_char l.class))) (chars l.text) (chars l.rest)

abbrev pub decreases-loop-after : goal.decreases-loop-after
decreases-loop-after l = length l.rest
