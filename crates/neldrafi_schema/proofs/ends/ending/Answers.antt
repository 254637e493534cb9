use Rattle.std.proofs.Common.{◌≡◌, ◌∙◌, ap, sym, length, arith}
use Rattle.neldrafi_schema.specs.Refusals.{schema_ends}
use Rattle.neldrafi_schema.specs.machine.Compiled.{schemas_of}
use Rattle.neldrafi_schema.specs.machine.Said.{flag_at}
use Rattle.std.specs.Prelude.{slice_get}
use Rattle.neldrafi_schema.proofs.Endings.{all_stay, ends_more, none_ends, same_flags}
use Rattle.neldrafi_schema.proofs.ends.ending.Goals as goal

pub loop-step-init : goal.loop-step-init
loop-step-init g c =
    λ n. none_ends (schemas_of g.E.RegexEngine.outcome c.args.nodes.now) c.in_ok-end.end.items (length c.args.nodes.now) n
    (c.in_ok-end.ensures.items_if_clones_equal (λ y e. e))

pub loop-step-preserved : goal.loop-step-preserved
loop-step-preserved g c = ends_more (schemas_of g.E.RegexEngine.outcome c.args.nodes.now) c.deref.result.now c.in_ok-next.next.items c.loop-step.step
    (λ n. ap (λ l. flag_at l n) c.deref.ensures.value ∙ c.loop-step.invariant n) c.in_ok-next.ensures

pub returns-then-eq : goal.returns-then-eq
returns-then-eq g c = λ n.
    let schemas = schemas_of g.E.RegexEngine.outcome c.args.nodes.now in
    let same : c.in_ok-next.next.items ≡ c.loop-step.end.items = same_flags _ _ (sym c.eq.ensures ∙ c.if-eq.true) in
    all_stay schemas (flag_at c.loop-step.end.items) c.loop-step.step c.loop-step.invariant
    (λ m. ap (λ l. flag_at l m) (sym same) ∙ c.in_ok-next.ensures m ∙ ap (λ l. schema_ends (flag_at l) (slice_get schemas m)) c.deref.ensures.value)
    (length c.args.nodes.now) n (omega arith)
