use Rattle.std.proofs.Common.{◌∙◌, ap, map}
use Rattle.std.proofs.lemmas.List.{take_all}
use Rattle.neldrafi_schema.specs.Refusals.{body_ends}
use Rattle.neldrafi_schema.specs.machine.Compiled.{body_of}
use Rattle.neldrafi_schema.specs.machine.Said.{flag_at}
use Rattle.neldrafi_schema.proofs.Endings.{flags}
use Rattle.neldrafi_schema.proofs.ends.ending_next.Goals as goal

pub returns : goal.returns
returns g c = λ n.
    ap (λ l. flag_at l n) (c.loop-node.invariant
    ∙ ap (map (λ node. body_ends (flag_at c.args.end.now) (body_of g.E.RegexEngine.outcome node.body)))
    (take_all c.loop-node.node-index c.args.nodes.now c.loop-node-test.false))
    ∙ flags g.E.RegexEngine.outcome c.args.nodes.now (flag_at c.args.end.now) n
