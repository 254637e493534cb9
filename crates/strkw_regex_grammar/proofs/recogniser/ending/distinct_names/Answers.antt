use Rattle.std.proofs.Common.{◌≡◌, ◌∙◌, ◌∷◌, ◌++◌, [], map, take, drop, ◌+◌, true, false, sym, ap, subst, arith}
use Rattle.std.specs.BTreeSet.{contains}
use Rattle.strkw_regex_grammar.specs.Names.{are_distinct}
use Rattle.strkw_regex_grammar.specs.machine.NameSets.{has_name}
use Rattle.strkw_regex_grammar.proofs.RegexNames.{name_cmp, HasNames, keeps, distinct_push, twice, next_names, names_from}
use Rattle.strkw_regex_grammar.proofs.recogniser.ending.distinct_names.Goals as goal

pub returns-then-not-branch-clause-distinct : goal.returns-then-not-branch-clause-distinct
returns-then-not-branch-clause-distinct c =
    let names = c.args.names.now in
    let place = c.loop-name.name-index in
    let name = c.name-item.result in
    let so_far = map (λ n. n.items) (take place names) in
    let has : contains name_cmp c.loop-name.set c.as_slice.result ≡ true = grind arith in
    sym (ap are_distinct (names_from (λ n. n.items) names place name c.name-item.is (omega arith))
    ∙ twice so_far name.items (map (λ n. n.items) (drop (place + 1) names))
    (sym (c.loop-name.invariant.same name.items) ∙ ap (has_name c.loop-name.set) (sym c.as_slice.ensures.value) ∙ has))

pub loop-name-preserved : goal.loop-name-preserved
loop-name-preserved c =
    let names = c.args.names.now in
    let place = c.loop-name.name-index in
    let name = c.name-item.result in
    let so_far = map (λ n. n.items) (take place names) in
    let new : contains name_cmp c.loop-name.set c.as_slice.result ≡ false = grind arith in
    let next : map (λ n. n.items) (take (place + 1) names) ≡ so_far ++ name.items ∷ [] =
    next_names (λ n. n.items) names place name c.name-item.is (omega arith) in
    record {
      same = subst (HasNames c.insert.new.self) (sym next)
          (subst (λ z. HasNames c.insert.new.self (so_far ++ z ∷ [])) c.as_slice.ensures.value
          (keeps c.loop-name.set c.insert.new.self c.as_slice.result so_far c.loop-name.invariant.same c.in_ok-insert.ensures.keys));
      apart = ap are_distinct next
          ∙ distinct_push so_far name.items c.loop-name.invariant.apart
          (sym (c.loop-name.invariant.same name.items) ∙ ap (has_name c.loop-name.set) (sym c.as_slice.ensures.value) ∙ new);
    }
