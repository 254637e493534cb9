use Rattle.std.proofs.Common.{◌++◌, List, length, refl, sym, ap, ◌∙◌, arith}
use Rattle.strkw_ecma.specs.machine.Chains.{once, repeated}
use Rattle.strkw_regex_search.specs.declared.code.Instruction.{Instruction}
use Rattle.strkw_ecma.proofs.Chained.{all_written}
use Rattle.strkw_ecma.proofs.Linked.{from_place}
use Rattle.strkw_ecma.proofs.sequence_making.parts_of.Goals as goal

pub returns : goal.returns
returns c =
    let first = c.in_ok-first.first in
    let last = c.in_ok-last.last in
    let middle = c.middle_of-middle.result in
    let behind = from_place c.in-Some.inner.now c.len.result (length first.items) (c.len.ensures ∙ first.ok.0) in
    all_written c.args.instructions.now _ _ _ first.items last.items _ (length last.items) _ c.in-Some.ensures
    (c.in_ok-first.ensures.once ∙ ap (λ (l : List Instruction). once first.items ++ l) (sym behind))
    (c.middle_of-middle.ensures.repeated
    ∙ ap (λ (l : List Instruction). repeated middle.often middle.number ++ l) (sym (from_place _ middle.instructions middle.instructions refl)))
    c.in_ok-last.ensures.once (omega (arith, c.if-len-rest.false, c.len-2.ensures, last.ok.0))
