use Rattle.std.proofs.Common.{◌≡◌, ℕ, suc, ◌+◌, ◌++◌, List, take, drop, length, ap, ◌∙◌, arith}
use Rattle.std.proofs.Math.Seq.{take-append_seam}
use Rattle.std.proofs.lemmas.List.{append_assoc}
use Rattle.strkw_regex_core.specs.machine.Program.{concat_copies}
use Rattle.strkw_regex_search.specs.declared.code.Instruction.{Instruction}
use Rattle.strkw_regex_search.proofs.Written.{copies_written, one_more_copy}
use Rattle.strkw_regex_search.proofs.code.Code.copy.Goals as goal

pub loop-preserved : goal.loop-preserved
loop-preserved c =
    let old = c.args.self.now.instructions.items in
    let copy = drop c.args.from old in
    let known = c.loop.invariant.instructions in
    let again = ap (λ (k : ℕ). drop c.args.from (take k c.loop.self.instructions.items)) c.loop.invariant.end_is
    ∙ ap (λ (xs : List Instruction). drop c.args.from (take (length old) xs)) known
    ∙ ap (drop c.args.from) (take-append_seam old (concat_copies c.loop.counter copy)) in
    let next : suc c.loop.counter ≡ c.loop.counter + 1 = omega arith in
    record {
      instructions =
          c.in_ok-copy_once.ensures.instructions ∙ ap (λ (xs : List Instruction). c.loop.self.instructions.items ++ xs) again
          ∙ ap (λ (xs : List Instruction). xs ++ copy) known ∙ append_assoc old (concat_copies c.loop.counter copy) copy
          ∙ ap (λ (xs : List Instruction). old ++ xs) (one_more_copy c.loop.counter copy)
          ∙ ap (λ (k : ℕ). old ++ concat_copies k copy) next;
      classes = c.in_ok-copy_once.ensures.classes ∙ c.loop.invariant.classes;
      end_is = c.loop.invariant.end_is;
    }

pub returns : goal.returns
returns c =
    let last : c.loop.counter ≡ c.args.times = omega (arith, c.loop-test.false, c.loop.auto.counter-end) in
    copies_written c.args.self.now c.loop.self c.args.from c.args.times c.loop.invariant.classes
    (c.loop.invariant.instructions
    ∙ ap (λ (k : ℕ). c.args.self.now.instructions.items ++ concat_copies k (drop c.args.from c.args.self.now.instructions.items)) last)
