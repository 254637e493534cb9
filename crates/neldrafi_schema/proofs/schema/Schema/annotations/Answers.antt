use Rattle.std.proofs.Common.{rules, ◌≡◌, ◌∙◌, [], ap, arith, length, subst, sym}
use Rattle.serde_json.specs.View.{view}
use Rattle.neldrafi_schema.specs.machine.Ready.{RestsOn}
use Rattle.neldrafi_schema.proofs.Wholes.{ready_alike, whole_annotates}
use Rattle.neldrafi_schema.proofs.schema.Schema.annotations.Goals as goal

pub annotate-requires-clause-ready : goal.annotate-requires-clause-ready
annotate-requires-clause-ready g c = ready_alike g.E.RegexEngine.outcome c.args.self.now.nodes.items c.deref.result.now c.deref.ensures.value _ _
    (λ v rests p x e. subst (RestsOn g.E.RegexEngine.outcome _) (sym e) rests) c.requires

pub annotate-requires-clause-few : goal.annotate-requires-clause-few
annotate-requires-clause-few g c =
    let all : c.len.result ≡ length c.args.self.now.nodes.items = c.len.ensures ∙ c.args.self.now.nodes.ok.0 in
    let same : length c.deref.result.now ≡ length c.args.self.now.nodes.items = ap length c.deref.ensures.value in
    omega (arith, all, same)

pub annotate-requires-clause-answers : goal.annotate-requires-clause-answers
annotate-requires-clause-answers g c = (_, λ p x r answered. answered.1)

pub returns : goal.returns
returns g c =
    let none : c.new-found.result.items ≡ [] = search rules in
    whole_annotates g.E.RegexEngine.outcome c.args.self.now.nodes.items c.deref.result.now c.deref.ensures.value c.len.result
    (c.len.ensures ∙ c.args.self.now.nodes.ok.0) _ (view c.args.instance.now)
    c.root_site-site.result c.new-found.result.items c.annotate.new.found.items c.root_site-site.ensures none
    (c.in_ok-annotate.ensures _ (λ p x r answered. answered.1))
