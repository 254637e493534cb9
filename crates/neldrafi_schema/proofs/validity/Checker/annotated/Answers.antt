use Rattle.std.proofs.Common.{◌≡◌, ◌∙◌, [], ap, refl, sym, string_bytes, subst, false, true}
use Rattle.std.proofs.lemmas.Result.{IfOk-weaker}
use Rattle.serde_json.specs.View.{view}
use Rattle.neldrafi_schema.specs.Annotations.{annotated, annotates_nothing}
use Rattle.neldrafi_schema.specs.Rules.{on_each, reached}
use Rattle.std.specs.List.{flat_map}
use Rattle.neldrafi_schema.specs.Schemas.{rule}
use Rattle.neldrafi_schema.specs.machine.Annotated.{AreAnnotated}
use Rattle.neldrafi_schema.specs.machine.Compiled.{branches_of, children_of, keywords_of, rule_of, schemas_of, targets_of}
use Rattle.neldrafi_schema.proofs.Taken.{left_annotated, own_annotated, speaks_of_none}
use Rattle.neldrafi_schema.proofs.Visiting.{Within}
use Rattle.neldrafi_schema.proofs.validity.Checker.annotated.Goals as goal

pub returns-in-Unevaluated : goal.returns-in-Unevaluated
returns-in-Unevaluated g c = λ lists tests. IfOk-weaker c.on_each.result _ _ (λ found same k site h.
    let outcome = g.E.RegexEngine.outcome in
    let nodes = c.args.self.now.nodes.now in
    let schemas = schemas_of outcome nodes in
    let below = Within outcome nodes lists k in
    let d = view c.args.instance.now in
    let ruled = c.args.ruled.now in
    let word = string_bytes ruled.name in
    let r = rule_of outcome ruled.rule in
    let bs = branches_of ruled.branches.items in
    let beside = keywords_of outcome c.args.beside.now in
    let left = children_of c.in_ok-left.left.items in
    let each : targets_of found.items ≡ flat_map (on_each left) bs = same
    ∙ ap (λ l. flat_map (on_each (children_of c.deref-in-Unevaluated.result.now)) (branches_of l)) c.deref.ensures.value
    ∙ ap (λ l. flat_map (on_each (children_of l)) bs) c.deref-in-Unevaluated.ensures.value in
    subst (λ said. AreAnnotated schemas below beside (rule word (rule_of outcome said) bs) d site (targets_of found.items)) (sym c.in-Unevaluated.is)
    (left_annotated schemas below beside word c.in-Unevaluated.part bs d site (targets_of found.items) left (c.in_ok-left.ensures lists tests k h) each)) c.on_each.ensures

pub returns-then-annotates_nothing : goal.returns-then-annotates_nothing
returns-then-annotates_nothing g c = λ lists tests k site h.
    let outcome = g.E.RegexEngine.outcome in
    let nodes = c.args.self.now.nodes.now in
    let schemas = schemas_of outcome nodes in
    let below = Within outcome nodes lists k in
    let d = view c.args.instance.now in
    let ruled = c.args.ruled.now in
    let word = string_bytes ruled.name in
    let r = rule_of outcome ruled.rule in
    let bs = branches_of ruled.branches.items in
    let beside = keywords_of outcome c.args.beside.now in
    let vs = c.in_ok-verdicts.verdicts.items in
    let none = speaks_of_none outcome ruled.rule c.in_default.not-Unevaluated in
    let nothing : annotates_nothing r ≡ true = sym (c.annotates_nothing.ensures outcome) ∙ c.if-annotates_nothing.true in
    let empty : [] ≡ annotated beside r bs d vs = rw nothing refl in
    own_annotated schemas below beside word r bs d site (targets_of c.new.result.items) vs none (c.in_ok-verdicts.ensures lists tests k site word h)
    (ap targets_of c.new.ensures.items ∙ empty)

pub returns : goal.returns
returns g c = λ lists tests. IfOk-weaker c.reached.result _ _ (λ found same k site h.
    let outcome = g.E.RegexEngine.outcome in
    let nodes = c.args.self.now.nodes.now in
    let schemas = schemas_of outcome nodes in
    let below = Within outcome nodes lists k in
    let d = view c.args.instance.now in
    let ruled = c.args.ruled.now in
    let word = string_bytes ruled.name in
    let r = rule_of outcome ruled.rule in
    let bs = branches_of ruled.branches.items in
    let beside = keywords_of outcome c.args.beside.now in
    let vs = c.in_ok-verdicts.verdicts.items in
    let none = speaks_of_none outcome ruled.rule c.in_default.not-Unevaluated in
    let something : annotates_nothing r ≡ false = sym (c.annotates_nothing.ensures outcome) ∙ c.if-annotates_nothing.false in
    let all : reached beside r bs d vs ≡ annotated beside r bs d vs = rw something refl in
    own_annotated schemas below beside word r bs d site (targets_of found.items) vs none (c.in_ok-verdicts.ensures lists tests k site word h)
    (same ∙ ap (reached beside r bs d) c.deref-2.ensures.value ∙ all)) (c.reached.ensures lists tests)
