use Rattle.std.proofs.Common.{◌∙◌, sym, ap, map, Bool, not, ◌&&◌}
use Rattle.strkw_regex_grammar.specs.Names.{are_distinct as spec_are_distinct}
use Rattle.strkw_regex_grammar.proofs.NameParts.{distinct_by_first}
use Rattle.strkw_regex_grammar.proofs.names.are_distinct.Goals as goal

pub returns-then-contains : goal.returns-then-contains
returns-then-contains c =
    let rest = map (λ n. n.items) c.in-Some.others.now in
    sym (
    c.loop-name.invariant ∙ ap (λ ns. spec_are_distinct (map (λ n. n.items) ns)) (c.in-Some.ensures.cases).0
    ∙ distinct_by_first (λ n. n.items) c.in-Some.name.now c.in-Some.others.now c.contains.result c.contains.ensures.value
    ∙ ap (λ (b : Bool). not b && spec_are_distinct rest) c.if-contains.true
    )

pub loop-name-preserved : goal.loop-name-preserved
loop-name-preserved c =
    let rest = map (λ n. n.items) c.in-Some.others.now in
    c.loop-name.invariant ∙ ap (λ ns. spec_are_distinct (map (λ n. n.items) ns)) (c.in-Some.ensures.cases).0
    ∙ distinct_by_first (λ n. n.items) c.in-Some.name.now c.in-Some.others.now c.contains.result c.contains.ensures.value
    ∙ ap (λ (b : Bool). not b && spec_are_distinct rest) c.if-contains.false
