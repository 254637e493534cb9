use Rattle.std.proofs.Common.{◌≡◌, ◌≤◌, true, ℕ, Bool, List, length, Option, ap, ◌∙◌}
use Rattle.strkw_regex_core.specs.machine.Positions.{leaves, step, mark_classes, classes}
use Rattle.strkw_regex_core.specs.machine.Program.{Instruction, program}
use Rattle.strkw_regex_search.specs.machine.Walk.{Walked, asked, start_following, followed, walked}
use Rattle.strkw_regex_search.specs.machine.Machine.{pattern_of, program_of}
use Rattle.strkw_regex_search.specs.declared.program.Program.{Program}
use Rattle.strkw_regex_search.proofs.Marked.{walk_steps}
use Rattle.strkw_regex_search.proofs.program.Program.step_by.Goals as goal

module _ (p : Program) (last next : Option ℕ) (marks again : List Bool) (known : again ≡ (asked last next (program_of p) marks).again)
    (fits : classes (pattern_of p) ≤ length marks) where
  -- the walk of the code is that of the pattern
  walk_is : followed last next (program_of p) (start_following again) marks ≡ walked last next (program (pattern_of p)) marks
  walk_is =
      ap (λ (bs : List Bool). followed last next (program_of p) (start_following bs) marks) known
      ∙ ap (λ (is : List Instruction). walked last next is marks) p.right

  -- so its answer is that of the marked pattern
  pub left_is : (answer : Bool) → answer ≡ (followed last next (program_of p) (start_following again) marks).leaves
      → answer ≡ leaves last next (mark_classes marks (pattern_of p)) true
  left_is answer is = is ∙ ap (λ (w : Walked). w.leaves) walk_is ∙ (walk_steps last next (pattern_of p) marks fits).leaves_is

  -- and its marks are those after a step
  pub marks_are : (behind : List Bool) → behind ≡ (followed last next (program_of p) (start_following again) marks).marks
      → mark_classes behind (pattern_of p) ≡ step last next (mark_classes marks (pattern_of p)) true
  marks_are behind is =
      ap (λ (ms : List Bool). mark_classes ms (pattern_of p)) (is ∙ ap (λ (w : Walked). w.marks) walk_is)
      ∙ (walk_steps last next (pattern_of p) marks fits).marks_are

pub returns-clause-left : goal.returns-clause-left
returns-clause-left c =
    left_is c.args.self.now c.args.last c.args.next c.args.marks.now _ c.ask.ensures c.requires.fits c.follow.result c.follow.ensures.left

pub returns-clause-marks : goal.returns-clause-marks
returns-clause-marks c =
    marks_are c.args.self.now c.args.last c.args.next c.args.marks.now _ c.ask.ensures c.requires.fits c.follow.new.marks c.follow.ensures.marks
