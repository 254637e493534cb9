use Rattle.std.proofs.Common.{◌↔◌, ℕ, List, length}
use Rattle.strkw_text.specs.Fronts.{StartsWith}
use Rattle.strkw_mail.specs.Scan.{DotStringAt}
use Rattle.strkw_mail.proofs.local_part.after_dot_string.Given as goal

-- the same follows the Dot-string in front of the rest
abbrev pub invariant-loop-more : goal.invariant-loop-more
invariant-loop-more l = (x : List ℕ) → StartsWith (DotStringAt l.charset) l.bytes x ↔ StartsWith (DotStringAt l.charset) l.rest x

abbrev pub decreases-loop-more : goal.decreases-loop-more
decreases-loop-more l = length l.rest
