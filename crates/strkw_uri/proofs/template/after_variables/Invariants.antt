use Rattle.std.proofs.Common.{◌↔◌, ◌≤◌, ℕ, List, length}
use Rattle.std.specs.Str.{chars}
use denote.Shadow.{shadow}
use denote.Text.{Utf8}
use Rattle.strkw_text.specs.Abnf.{◌⨾◌}
use Rattle.strkw_uri.specs.Scan.{BehindVariable}
use Rattle.strkw_uri.specs.Template.{Varspec}
use Rattle.strkw_uri.proofs.template.after_variables.Given as goal

abbrev pub invariant-loop-after : goal.invariant-loop-after
invariant-loop-after l = shadow (Utf8 l.rest)
    × ((tail : List ℕ) → (Varspec ⨾ BehindVariable tail) (chars l.text) ↔ (Varspec ⨾ BehindVariable tail) (chars l.rest))
    × (length l.rest ≤ length l.text)

abbrev pub decreases-loop-after : goal.decreases-loop-after
decreases-loop-after l = length l.rest
