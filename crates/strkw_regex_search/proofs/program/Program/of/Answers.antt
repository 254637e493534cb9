use Rattle.std.proofs.Common.{◌≡◌, ◌≤◌, ◌++◌, List, length, take, sym, ap, ◌∙◌, arith}
use Rattle.strkw_regex_core.specs.machine.Program.{Instruction, program, read_count, has_loop, asks_boundary}
use Rattle.strkw_regex_core.specs.machine.Shape.{outline_pattern}
use Rattle.strkw_regex_core.specs.Size.{max_steps}
use Rattle.strkw_regex_search.specs.machine.Machine.{instructions_of}
use Rattle.strkw_regex_search.proofs.Few.{few_instructions, reads_are_classes, boundary_is_asked}
use Rattle.strkw_regex_search.proofs.Written.{instruction_count}
use Rattle.strkw_regex_search.proofs.program.Program.of.Goals as goal

pub invariant_of-result : goal.invariant_of-result
invariant_of-result c =
    let p = outline_pattern c.args.outline in
    let code = c.write.new.code in
    let writes = c.in_ok-write.ensures in
    let right : instructions_of code ≡ program p =
    writes.written_is c.new-code.ensures.within ∙ ap (λ (is : List Instruction). is ++ program p) c.new-code.ensures.nothing in
    let none : length c.new-code.result.instructions.items ≡ 0 =
    sym (instruction_count c.new-code.result.classes.items c.new-code.result.instructions.items) ∙ ap length c.new-code.ensures.nothing in
    let few : length code.instructions.items ≤ max_steps =
    omega (arith, sym (instruction_count code.classes.items code.instructions.items) ∙ ap length right, few_instructions p, c.requires) in
    record {
      within = writes.within c.new-code.ensures.within;
      right = right;
      counted = c.read_count.ensures ∙ ap read_count right ∙ reads_are_classes p;
      loops = ap (λ (is : List Instruction). has_loop (take c.before_loops.result is)) (sym right) ∙ c.before_loops.ensures;
      boundary = c.has_boundary.ensures ∙ ap asks_boundary right ∙ boundary_is_asked p;
      few = few;
      few_classes = omega (arith, few, none, c.new-code.ensures.classes, writes.classes);
    }
