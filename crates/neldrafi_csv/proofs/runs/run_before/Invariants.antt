use Rattle.std.proofs.Common.{◌-◌, ◌≡◌, ◌<◌, false, ℕ, slice_index}
use Rattle.neldrafi_csv.specs.Grammar.{ends_text}
use Rattle.neldrafi_csv.proofs.runs.run_before.Given as goal

-- none of the bytes so far is one of the three
abbrev pub invariant-blocks-2 : goal.invariant-blocks-2
invariant-blocks-2 l = (k : ℕ) → k < l.at → ends_text l.delimiter.byte (slice_index l.bytes k) ≡ false

abbrev pub decreases-blocks-2 : goal.decreases-blocks-2
decreases-blocks-2 l = l.last - l.at
