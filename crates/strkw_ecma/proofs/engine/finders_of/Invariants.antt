use Rattle.std.proofs.Common.{◌≡◌, ◌≤◌, ◌&&◌, true, ℕ, List, length}
use Rattle.std.specs.Vec.Iter.{into_iter_items, into_iter_len}
use Rattle.strkw_regex_core.specs.Size.{max_steps}
use Rattle.strkw_ecma.specs.machine.Engine.{are_found_by}
use Rattle.strkw_regex_search.specs.machine.Passes.{are_passes_clean, are_passes_faced, are_passes_found, steps_of_passes, passes_of}
use Rattle.strkw_ecma.proofs.engine.finders_of.Given as goal

abbrev pub invariant-loop-pass : goal.invariant-loop-pass
invariant-loop-pass l = record {
  made : (text : List ℕ) → (are_found_by l.finders.items text && are_passes_found (passes_of (into_iter_items l.pass-iterator)) text)
      ≡ are_passes_found (passes_of l.fn.passes.items) text;
  clean : are_passes_clean (passes_of (into_iter_items l.pass-iterator)) ≡ true;
  faced : are_passes_faced (passes_of (into_iter_items l.pass-iterator)) ≡ true;
  small : steps_of_passes (passes_of (into_iter_items l.pass-iterator)) ≤ max_steps;
  count : into_iter_len l.pass-iterator ≡ length (into_iter_items l.pass-iterator);
}
