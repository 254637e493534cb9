use Rattle.std.proofs.Common.{◌≡◌, Bool, List, true, ap, ◌∙◌}
use Rattle.strkw_regex_core.specs.machine.Positions.{leaves, step, mark_classes}
use Rattle.strkw_regex_search.specs.machine.Machine.{pattern_of}
use Rattle.strkw_ecma.proofs.states.State.step.Goals as goal

pub returns-clause-found : goal.returns-clause-found
returns-clause-found c =
    let same : c.copy_from_slice.new.self ≡ c.args.self.now.marks.items = cc (c.copy_from_slice.ensures.after) in
    c.step_by.ensures.left ∙ ap (λ (l : List Bool). leaves c.args.self.now.last c.args.next (mark_classes l (pattern_of c.args.program.now)) true) same

pub returns-clause-marks : goal.returns-clause-marks
returns-clause-marks c =
    let same : c.copy_from_slice.new.self ≡ c.args.self.now.marks.items = cc (c.copy_from_slice.ensures.after) in
    c.step_by.ensures.marks ∙ ap (λ (l : List Bool). step c.args.self.now.last c.args.next (mark_classes l (pattern_of c.args.program.now)) true) same
