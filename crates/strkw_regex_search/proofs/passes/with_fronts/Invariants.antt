use Rattle.std.proofs.Common.{◌≡◌, ◌++◌, List, length}
use Rattle.std.specs.Vec.Iter.{into_iter_items, into_iter_len}
use Rattle.strkw_regex_core.specs.machine.LeadingLookahead.{Part}
use Rattle.strkw_regex_core.specs.machine.Fronts.{parts_view}
use Rattle.strkw_regex_search.specs.machine.Passes.{ArePasses, passes_of}
use Rattle.strkw_regex_search.proofs.passes.with_fronts.Given as goal

-- the passes are those of what there was before, and of the fronts that are no longer left
abbrev pub invariant-loop-front : goal.invariant-loop-front
invariant-loop-front l = record {
  made : (old : List Part) → ArePasses (passes_of l.fn.passes.items) old
      → (done : List Part) × ArePasses (passes_of l.passes.items) (old ++ done)
      × (done ++ parts_view (into_iter_items l.front-iterator) ≡ parts_view l.fn.fronts.items);
  count : into_iter_len l.front-iterator ≡ length (into_iter_items l.front-iterator);
}
