use Rattle.std.proofs.Common.{◌≡◌, ◌≤◌, ◌<◌, ◌+◌, ◌-◌, ℕ, suc, false, Bool, List, []}
use Rattle.std.proofs.Common.{◌∷◌, length, drop, take, drop-cons, get_or, slice_get, sym, ap, ◌∙◌, arith}
use Rattle.strkw_regex_search.specs.declared.code.Instruction.TheVariants.{Read, Turn}
use Rattle.strkw_regex_core.specs.machine.Program.{Instruction, read_count, has_loop}
use Rattle.strkw_regex_search.specs.machine.Instructions.{turn_instruction, read_instruction, peek_instruction}
use Rattle.strkw_regex_search.specs.machine.Walk.{Asked, asked}
use Rattle.strkw_regex_search.specs.machine.Machine.{program_of}
use Rattle.strkw_regex_search.proofs.Machines.{there, from_class, from_peek, from_turn, from_end, one_read, none_peeked}
use Rattle.strkw_regex_search.proofs.Machines.{none_read, one_mark_less, marks_are_reads, known_before_loops}
use Rattle.strkw_regex_search.proofs.Machines.{peeked_within, asked_reading, asked_peeking, asked_turned}
use Rattle.strkw_regex_search.proofs.program.Program.ask.Goals as goal

pub back-init : goal.back-init
back-init c =
    let p = c.args.self.now in
    let end : length c.as_slice-instructions.result.now ≡ length p.code.instructions.items = ap length c.as_slice-instructions.ensures.value in
    let none : drop (length c.as_slice-instructions.result.now) (program_of p) ≡ [] =
    from_end p.code.classes.items p.code.instructions.items (length c.as_slice-instructions.result.now) (omega (arith, end)) in
    record {
      within = omega (arith, end);
      counted = ap (λ (is : List Instruction). p.marks + read_count is) none ∙ omega arith;
      asked = c.begin_back-ahead.ensures.asked ∙ sym (ap (λ (is : List Instruction). asked c.args.last c.args.next is (drop p.marks c.args.marks.now)) none);
      around = omega (arith, end, c.begin_back-ahead.ensures.around);
      again = omega (arith, end, c.begin_back-ahead.ensures.again);
    }

pub bounds : goal.bounds
bounds c =
    let end = ap length c.as_slice-instructions.ensures.value in
    omega (arith, end, c.back.invariant.within, c.back-test.true)

pub bounds-instructions-place : goal.bounds-instructions-place
bounds-instructions-place c =
    let end = ap length c.as_slice-instructions.ensures.value in
    omega (arith, end, c.back.invariant.within, c.back-test.true)

pub step_back-ahead-requires-clause-around : goal.step_back-ahead-requires-clause-around
step_back-ahead-requires-clause-around c = omega (arith, c.args.self.now.few, c.back.invariant.around, c.back-test.true)

pub step_back-ahead-requires-clause-again : goal.step_back-ahead-requires-clause-again
step_back-ahead-requires-clause-again c = omega (arith, c.args.self.now.few, c.back.invariant.again, c.back-test.true)

pub overflow_sub-at : goal.overflow_sub-at
overflow_sub-at c =
    let next : suc (c.back.place - 1) ≡ c.back.place = omega (arith, c.back-test.true) in
    one_mark_less c.args.self.now (c.back.place - 1) (omega (arith, c.back.invariant.within, c.back-test.true))
    c.in-Read.class c.in-Read.again c.in-Read.optional (there _ _ _ _ c.as_slice-instructions.ensures.value c.in-Read.is) c.back.at
    (ap (λ (k : ℕ). c.back.at + read_count (drop k (program_of c.args.self.now))) next ∙ c.back.invariant.counted)

pub bounds-marks-at : goal.bounds-marks-at
bounds-marks-at c =
    let next : suc (c.back.place - 1) ≡ c.back.place = omega (arith, c.back-test.true) in
    let one : 1 ≤ c.back.at =
    one_mark_less c.args.self.now (c.back.place - 1) (omega (arith, c.back.invariant.within, c.back-test.true))
    c.in-Read.class c.in-Read.again c.in-Read.optional (there _ _ _ _ c.as_slice-instructions.ensures.value c.in-Read.is) c.back.at
    (ap (λ (k : ℕ). c.back.at + read_count (drop k (program_of c.args.self.now))) next ∙ c.back.invariant.counted) in
    omega (arith, one, c.back.invariant.counted, c.args.self.now.counted, c.requires.fits)

pub back-preserved-in-Read : goal.back-preserved-in-Read
back-preserved-in-Read c =
    let p = c.args.self.now in
    let next : suc (c.back.place - 1) ≡ c.back.place = omega (arith, c.back-test.true) in
    let h : c.back.place - 1 < length p.code.instructions.items = omega (arith, c.back.invariant.within, c.back-test.true) in
    let rest : drop (suc (c.back.place - 1)) (program_of p) ≡ drop c.back.place (program_of p) = ap (λ (k : ℕ). drop k (program_of p)) next in
    let class_there = read_instruction c.in-Read.again c.in-Read.optional (slice_get p.code.classes.items c.in-Read.class) in
    let from : drop (c.back.place - 1) (program_of p) ≡ class_there ∷ drop c.back.place (program_of p) =
    from_class p (c.back.place - 1) h c.in-Read.class c.in-Read.again c.in-Read.optional (there _ _ _ _ c.as_slice-instructions.ensures.value c.in-Read.is)
    ∙ ap (λ (is : List Instruction). class_there ∷ is) rest in
    let one : 1 ≤ c.back.at =
    one_mark_less p (c.back.place - 1) h c.in-Read.class c.in-Read.again c.in-Read.optional (there _ _ _ _ c.as_slice-instructions.ensures.value c.in-Read.is)
    c.back.at
    (ap (λ (is : List Instruction). c.back.at + read_count is) rest ∙ c.back.invariant.counted) in
    let next_mark : suc (c.back.at - 1) ≡ c.back.at = omega (arith, one) in
    let marks : drop (c.back.at - 1) c.args.marks.now ≡ get_or c.args.marks.now (c.back.at - 1) false ∷ drop c.back.at c.args.marks.now =
    drop-cons c.args.marks.now (c.back.at - 1) false (omega (arith, one, c.back.invariant.counted, p.counted, c.requires.fits))
    ∙ ap (λ (k : ℕ). get_or c.args.marks.now (c.back.at - 1) false ∷ drop k c.args.marks.now) next_mark in
    record {
      within = omega (arith, c.back.invariant.within);
      counted =
          ap (λ (is : List Instruction). c.back.at - 1 + read_count is) from
          ∙ omega (
            arith,
            one,
            one_read (slice_get p.code.classes.items c.in-Read.class) c.in-Read.again c.in-Read.optional (drop c.back.place (program_of p)),
            c.back.invariant.counted,
          );
      asked =
          asked_reading c.args.last c.args.next (slice_get p.code.classes.items c.in-Read.class) c.in-Read.again c.in-Read.optional _
          (drop c.back.place (program_of p)) (drop c.back.at c.args.marks.now) _ _ c.back.invariant.asked
          (λ n rs. c.step_back_over_class-ahead.ensures c.args.last c.args.next c.in-Read.again n rs c.back.walk)
          ∙ sym (ap (λ (ms : List Bool). asked c.args.last c.args.next (class_there ∷ drop c.back.place (program_of p)) ms) marks)
          ∙ sym (ap (λ (is : List Instruction). asked c.args.last c.args.next is (drop (c.back.at - 1) c.args.marks.now)) from);
      around = omega (arith, c.back.invariant.around, c.back-test.true);
      again = omega (arith, c.back.invariant.again, c.back-test.true);
    }

pub bounds-reads-class : goal.bounds-reads-class
bounds-reads-class c =
    let p = c.args.self.now in
    let there_is : c.in-Peek.class < length p.code.classes.items =
    peeked_within (length p.code.classes.items) p.code.instructions.items (c.back.place - 1) c.in-Peek.class _
    (omega (arith, c.back.invariant.within, c.back-test.true)) (there _ _ _ _ c.as_slice-instructions.ensures.value c.in-Peek.is) p.within in
    omega (arith, there_is, c.requires.enough)

pub back-preserved-in-Peek : goal.back-preserved-in-Peek
back-preserved-in-Peek c =
    let p = c.args.self.now in
    let next : suc (c.back.place - 1) ≡ c.back.place = omega (arith, c.back-test.true) in
    let h : c.back.place - 1 < length p.code.instructions.items = omega (arith, c.back.invariant.within, c.back-test.true) in
    let here = there _ _ _ _ c.as_slice-instructions.ensures.value c.in-Peek.is in
    let class_there = peek_instruction (slice_get p.code.classes.items c.in-Peek.class) in
    let from : drop (c.back.place - 1) (program_of p) ≡ class_there ∷ drop c.back.place (program_of p) =
    from_peek p (c.back.place - 1) h c.in-Peek.class here ∙ ap (λ (k : ℕ). class_there ∷ drop k (program_of p)) next in
    let there_is : c.in-Peek.class < length p.code.classes.items =
    peeked_within (length p.code.classes.items) p.code.instructions.items (c.back.place - 1) c.in-Peek.class _ h here p.within in
    record {
      within = omega (arith, c.back.invariant.within);
      counted = ap (λ (is : List Instruction). c.back.at + read_count is) from
          ∙ omega (arith, none_peeked (slice_get p.code.classes.items c.in-Peek.class) (drop c.back.place (program_of p)), c.back.invariant.counted);
      asked =
          asked_peeking c.args.last c.args.next (slice_get p.code.classes.items c.in-Peek.class) (get_or c.args.reads.now c.in-Peek.class false)
          (drop c.back.place (program_of p)) (drop c.back.at c.args.marks.now) _ _ c.back.invariant.asked (c.requires.reads c.in-Peek.class there_is)
          (λ n rs m r. c.step_back_over_peek-ahead.ensures c.args.last c.args.next n rs m c.back.walk r)
          ∙ sym (ap (λ (is : List Instruction). asked c.args.last c.args.next is (drop c.back.at c.args.marks.now)) from);
      around = omega (arith, c.back.invariant.around, c.back-test.true);
      again = omega (arith, c.back.invariant.again, c.back-test.true);
    }

pub back-preserved : goal.back-preserved
back-preserved c =
    let p = c.args.self.now in
    let items = p.code.instructions.items in
    let end = ap length c.as_slice-instructions.ensures.value in
    let next : suc (c.back.place - 1) ≡ c.back.place = omega (arith, c.back-test.true) in
    let here : get_or items (c.back.place - 1) (Read 0 false false) ≡ Turn c.in-Turn.turn = there _ _ _ _ c.as_slice-instructions.ensures.value c.in-Turn.is in
    let from : drop (c.back.place - 1) (program_of p) ≡ turn_instruction c.in-Turn.turn ∷ drop c.back.place (program_of p) =
    from_turn p (c.back.place - 1) (omega (arith, c.back.invariant.within, c.back-test.true)) c.in-Turn.turn here
    ∙ ap (λ (k : ℕ). turn_instruction c.in-Turn.turn ∷ drop k (program_of p)) next in
    record {
      within = omega (arith, c.back.invariant.within);
      counted = ap (λ (is : List Instruction). c.back.at + read_count is) from
          ∙ omega (arith, none_read c.in-Turn.turn (drop c.back.place (program_of p)), c.back.invariant.counted);
      asked =
          asked_turned c.args.last c.args.next c.in-Turn.turn (drop c.back.place (program_of p)) (drop c.back.at c.args.marks.now) _ _ c.back.invariant.asked
          c.step_back-ahead.ensures.asked
          ∙ sym (ap (λ (is : List Instruction). asked c.args.last c.args.next is (drop c.back.at c.args.marks.now)) from);
      around = omega (arith, c.back.invariant.around, c.step_back-ahead.ensures.around, c.back-test.true);
      again = omega (arith, c.back.invariant.again, c.step_back-ahead.ensures.again, c.back-test.true);
    }

pub returns : goal.returns
returns c =
    let p = c.args.self.now in
    ap (λ (s : Asked). s.again) c.back.invariant.asked
    ∙ known_before_loops c.args.last c.args.next (program_of p) c.args.marks.now p.before_loops c.back.place c.back.at
    (ap (λ (is : List Instruction). has_loop (take p.before_loops is)) p.right ∙ p.loops) (omega (arith, c.back-test.false))
    (c.back.invariant.counted ∙ marks_are_reads p)
