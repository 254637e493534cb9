use Rattle.std.proofs.Common.{◌&&◌, ◌||◌, not, sym, ap, ◌∙◌, arith}
use Rattle.std.specs.Vec.Iter.{into_iter_items}
use Rattle.strkw_regex_core.specs.machine.OneCharLookahead.{are_told}
use Rattle.strkw_ecma.specs.machine.Engine.{are_found_by}
use Rattle.strkw_regex_core.specs.machine.Positions.{is_unmarked}
use Rattle.strkw_regex_search.specs.machine.Passes.{are_passes_clean, are_passes_faced, are_passes_found, steps_of_passes, passes_of}
use Rattle.strkw_regex_core.specs.machine.Shape.{outline_pattern}
use Rattle.strkw_ecma.proofs.Finders.{one_found}
use Rattle.strkw_regex_search.proofs.PassParts.{one_taken}
use Rattle.strkw_charset.proofs.Booleans.{and_right}
use Rattle.strkw_ecma.proofs.engine.finders_of.Goals as goal

pub loop-pass-preserved : goal.loop-pass-preserved
loop-pass-preserved c =
    let pass = c.in-Some.pass in
    let rest = into_iter_items c.next.new.self in
    let step = c.in-Some.ensures.steps in
    record {
      made = λ text.
          ap (λ l. are_found_by l text && are_passes_found (passes_of rest) text) c.in_ok-push.ensures.items
          ∙ one_found c.loop-pass.finders.items c.in_ok-finder.finder pass (passes_of rest) text c.in_ok-finder.ensures.negated
          (c.in_ok-finder.ensures.found text)
          ∙ ap (λ l. are_found_by c.loop-pass.finders.items text && are_passes_found (passes_of l) text) (sym step.0)
          ∙ c.loop-pass.invariant.made text;
      clean = and_right (is_unmarked (outline_pattern pass.pattern)) _
          (ap (λ l. are_passes_clean (passes_of l)) (sym step.0) ∙ c.loop-pass.invariant.clean);
      faced = and_right (not pass.is_backward || are_told (outline_pattern pass.pattern)) _
          (ap (λ l. are_passes_faced (passes_of l)) (sym step.0) ∙ c.loop-pass.invariant.faced);
      small = omega (arith, ap (λ l. steps_of_passes (passes_of l)) step.0, c.loop-pass.invariant.small);
      count = one_taken step.0 step.1 c.loop-pass.invariant.count;
    }
