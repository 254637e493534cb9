use Rattle.std.proofs.Common.{◌≡◌, ◌++◌, List, length}
use Rattle.std.specs.Prelude.{All}
use Rattle.std.specs.String.{string_bytes}
use Rattle.strkw_pattern.specs.Literal.{Item, IsItem, spelling_of, text_of}
use Rattle.strkw_pattern.proofs.literal.read_items.Given as goal

abbrev pub invariant-loop-c : goal.invariant-loop-c
invariant-loop-c l = (xs : List Item) × All IsItem xs × (l.pattern ≡ spelling_of xs ++ l.rest) × (string_bytes l.text ≡ text_of xs)

abbrev pub decreases-loop-c : goal.decreases-loop-c
decreases-loop-c l = length l.rest
