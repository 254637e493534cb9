use Rattle.std.proofs.Common.{rules, ◌≡◌, ◌∙◌, [], ap, arith, length, subst, sym}
use Rattle.serde_json.specs.View.{view}
use Rattle.neldrafi_schema.specs.machine.Ready.{RestsOn}
use Rattle.neldrafi_schema.proofs.Wholes.{ready_alike, whole_errors}
use Rattle.neldrafi_schema.proofs.schema.Schema.errors.Goals as goal

pub push_errors-requires-clause-tests : goal.push_errors-requires-clause-tests
push_errors-requires-clause-tests g c = ready_alike g.E.RegexEngine.outcome c.args.self.now.nodes.items c.deref.result.now c.deref.ensures.value _ _
    (λ v rests p x e. subst (RestsOn g.E.RegexEngine.outcome _) (sym e) rests) c.requires

pub push_errors-requires-clause-finds : goal.push_errors-requires-clause-finds
push_errors-requires-clause-finds g c = ready_alike g.E.RegexEngine.outcome c.args.self.now.nodes.items c.deref.result.now c.deref.ensures.value _ _
    (λ v rests p x site e. subst (RestsOn g.E.RegexEngine.outcome _) (sym e) rests) c.requires

pub push_errors-requires-clause-few : goal.push_errors-requires-clause-few
push_errors-requires-clause-few g c =
    let all : c.len.result ≡ length c.args.self.now.nodes.items = c.len.ensures ∙ c.args.self.now.nodes.ok.0 in
    let same : length c.deref.result.now ≡ length c.args.self.now.nodes.items = ap length c.deref.ensures.value in
    omega (arith, all, same)

pub push_errors-requires-clause-answers : goal.push_errors-requires-clause-answers
push_errors-requires-clause-answers g c = (_, λ p x r answered. answered.1)

pub returns : goal.returns
returns g c =
    let none : c.new-errors.result.items ≡ [] = search rules in
    whole_errors g.E.RegexEngine.outcome c.args.self.now.nodes.items c.deref.result.now c.deref.ensures.value c.len.result
    (c.len.ensures ∙ c.args.self.now.nodes.ok.0) _ (view c.args.instance.now)
    c.root_site-site.result c.new-errors.result.items c.push_errors.new.errors.items c.root_site-site.ensures none
    (c.in_ok-push_errors.ensures _ (λ p x r answered. answered.1) (λ p x at r answered. answered.1))
