use Rattle.std.proofs.Common.{◌≡◌, Bool, true, false, not, IsTrue, refl, sym, ◌∙◌, true≢false}
use Rattle.strkw_regex_search.proofs.Marked.{none_among}
use Rattle.strkw_ecma.proofs.states.are_unmarked.Goals as goal

-- what is so when it is negated is false
not_true : (b : Bool) → IsTrue (not b) → b ≡ false
not_true true h = absurd (true≢false (sym h))
not_true false h = refl

pub returns : goal.returns
returns c h = none_among _ (sym c.contains.ensures.value ∙ not_true _ h)
