use Rattle.std.proofs.Common.{◌≡◌, ◌∙◌, ◌&&◌, nat_le, map, true, is_some, IfSome, List, ℕ, sym, ap, subst, arith}
use Rattle.std.specs.List.{list_any, list_all}
use Rattle.std.proofs.lemmas.List.Folds.{list_all-map}
use Rattle.strkw_regex_grammar.specs.Names.{same_name, are_distinct}
use Rattle.strkw_regex_grammar.specs.machine.NameSets.{has_name}
use Rattle.strkw_regex_grammar.specs.machine.RecogniserParts.{standing_of}
use Rattle.strkw_regex_grammar.specs.machine.Recognising.{is_closed}
use Rattle.strkw_regex_grammar.proofs.RegexNames.{HasNames, whole_named}
use Rattle.strkw_regex_grammar.proofs.recogniser.parser_stack.ParserStack.is_whole.Goals as goal

pub returns-in-Some : goal.returns-in-Some
returns-in-Some c =
    let t = standing_of c.args.self.now in
    let set = c.in-Some.names in
    let named : map (λ n. n.items) c.deref.result.now ≡ t.names = ap (map (λ n. n.items)) c.deref.ensures.value in
    let complete : (is_closed t.groups && nat_le t.greatest t.captures) ≡ true = grind arith in
    let same : HasNames set t.names =
    subst (HasNames set) named
    (subst (λ o. IfSome o (λ s. (n : List ℕ) → has_name s n ≡ list_any (same_name n) (map (λ m. m.items) c.deref.result.now))) c.in-Some.is
    c.in_ok-names.ensures.same) in
    whole_named t set complete (ap are_distinct (sym named) ∙ sym c.in_ok-names.ensures.distinct ∙ ap is_some c.in-Some.is) same c.has_all.result
    (c.has_all.ensures ∙ ap (list_all (λ n. has_name set n.items)) c.deref-in-Some.ensures.value
    ∙ sym (list_all-map (has_name set) (λ n. n.items) c.args.self.now.calls.items))
