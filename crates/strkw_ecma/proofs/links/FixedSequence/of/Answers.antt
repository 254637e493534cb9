use Rattle.std.proofs.Common.{◌≡◌, ℕ, List, Option, Some, IfSome, length, ap, subst, ◌∙◌, arith}
use Rattle.std.proofs.lemmas.Option.{same_Some}
use Rattle.strkw_ecma.specs.declared.sequence_making.Parts.{Parts}
use Rattle.strkw_regex_search.specs.declared.code.Instruction.{Instruction}
use Rattle.strkw_ecma.specs.machine.Chains.{AreChained, IsChainIn}
use Rattle.strkw_regex_search.specs.machine.Instructions.{are_within}
use Rattle.strkw_ecma.proofs.Chained.{chain_below}
use Rattle.strkw_ecma.proofs.links.FixedSequence.of.Goals as goal

-- what is said of parts that are found is said of these
found_parts : (found : Option Parts) (parts : Parts) (all : List Instruction) → found ≡ Some parts
    → IfSome found (λ p. AreChained all p.first.items p.middle.often p.middle.number p.last.items)
    → AreChained all parts.first.items parts.middle.often parts.middle.number parts.last.items
found_parts found parts all is h =
    subst (λ (o : Option Parts). IfSome o (λ p. AreChained all p.first.items p.middle.often p.middle.number p.last.items)) is h

pub returns : goal.returns
returns c made is =
    subst (λ k. IsChainIn k c.args.classes.now c.args.instructions.now) (same_Some _ made is) record {
      written_is = found_parts _ c.in-Some.parts c.args.instructions.now c.in-Some.is c.in_ok-parts.ensures;
      tables_are = c.in_ok-tables_of.ensures;
    }

pub invariant_of-result : goal.invariant_of-result
invariant_of-result c =
    let all = c.args.instructions.now in
    let parts = c.in-Some.parts in
    let tables = c.in_ok-tables_of.field-0.items in
    let many : length tables ≡ length c.args.classes.now = c.in_ok-tables_of.ensures.so_many in
    let below =
    chain_below (length tables) parts.middle.number all parts.first.items parts.last.items parts.middle.often
    (found_parts _ parts all c.in-Some.is c.in_ok-parts.ensures) (ap (λ (n : ℕ). are_within n all) many ∙ c.requires.within) in
    record { first_below = below.0; middle_below = omega (arith, many, c.if-middle-classes.false); last_below = below.1 }
