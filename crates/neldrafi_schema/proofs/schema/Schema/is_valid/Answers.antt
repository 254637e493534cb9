use Rattle.std.proofs.Common.{◌≡◌, ◌∙◌, ap, arith, length, subst, sym}
use Rattle.std.proofs.lemmas.Result.{IfOk-weaker}
use Rattle.serde_json.specs.View.{view}
use Rattle.neldrafi_schema.specs.machine.Ready.{RestsOn}
use Rattle.neldrafi_schema.proofs.Wholes.{ready_alike, whole_accepts}
use Rattle.neldrafi_schema.proofs.schema.Schema.is_valid.Goals as goal

pub accepts-requires-clause-ready : goal.accepts-requires-clause-ready
accepts-requires-clause-ready g c = ready_alike g.E.RegexEngine.outcome c.args.self.now.nodes.items c.deref.result.now c.deref.ensures.value _ _
    (λ v rests p x e. subst (RestsOn g.E.RegexEngine.outcome _) (sym e) rests) c.requires

pub accepts-requires-clause-few : goal.accepts-requires-clause-few
accepts-requires-clause-few g c =
    let all : c.len.result ≡ length c.args.self.now.nodes.items = c.len.ensures ∙ c.args.self.now.nodes.ok.0 in
    let same : length c.deref.result.now ≡ length c.args.self.now.nodes.items = ap length c.deref.ensures.value in
    omega (arith, all, same)

pub accepts-requires-clause-answers : goal.accepts-requires-clause-answers
accepts-requires-clause-answers g c = (_, λ p x r answered. answered.1)

pub returns : goal.returns
returns g c =
    IfOk-weaker c.accepts.result _ _ (whole_accepts g.E.RegexEngine.outcome c.args.self.now.nodes.items c.deref.result.now c.deref.ensures.value c.len.result
    (c.len.ensures ∙ c.args.self.now.nodes.ok.0) _ (view c.args.instance.now))
    (c.accepts.ensures _ (λ p x r answered. answered.1))
