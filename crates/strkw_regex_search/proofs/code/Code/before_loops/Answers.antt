use Rattle.std.proofs.Common.{◌≡◌, ◌+◌, ◌<◌, suc, false, List, length, get_or, sym, ap, subst, ◌∙◌, arith}
use Rattle.strkw_regex_core.specs.machine.Program.{is_loop}
use Rattle.strkw_regex_search.specs.machine.Instructions.{instruction_of}
use Rattle.strkw_regex_search.specs.declared.code.Instruction.{Instruction}
use Rattle.strkw_regex_search.proofs.Machines.{none_before_next}
use Rattle.strkw_regex_search.proofs.code.Code.before_loops.Goals as goal

pub loop-place-preserved : goal.loop-place-preserved
loop-place-preserved c =
    let classes = c.args.self.now.classes.items in
    let items = c.args.self.now.instructions.items in
    let place = c.loop-place.place in
    let same = c.as_slice-instruction-items.ensures.value in
    let within : place < length items = omega (arith, ap length same, c.loop-place-test.true) in
    let next : place + 1 ≡ suc place = omega arith in
    rw next
    (none_before_next classes items place _ within c.loop-place.invariant
    (subst (λ (is : List Instruction). is_loop (instruction_of classes (get_or is place _)) ≡ false) same
    (sym (c.begins_loop.ensures classes) ∙ c.if-begins_loop.false)))
