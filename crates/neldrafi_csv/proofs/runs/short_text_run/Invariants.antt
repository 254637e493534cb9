use Rattle.std.proofs.Common.{◌≡◌, ◌<◌, false, ℕ, slice_index}
use Rattle.neldrafi_csv.specs.Grammar.{ends_text}
use Rattle.neldrafi_csv.proofs.runs.short_text_run.Given as goal

-- each byte so far is text
abbrev pub invariant-loop-at : goal.invariant-loop-at
invariant-loop-at l = (k : ℕ) → k < l.at → ends_text l.delimiter.byte (slice_index l.bytes k) ≡ false
