use Rattle.std.proofs.Common.{◌≡◌, ◌∙◌, ◌+◌, ◌++◌, ap, drop, length, map, sym}
use Rattle.std.proofs.lemmas.List.{length_push}
use Rattle.serde_json.specs.View.{view}
use Rattle.neldrafi_schema.specs.declared.node.Part.TheVariants as part
use Rattle.neldrafi_schema.specs.Rules.{children, placed_from}
use Rattle.neldrafi_schema.specs.machine.Compiled.{children_of, step_of}
use Rattle.neldrafi_schema.proofs.Items.{as_child, one_child}
use Rattle.neldrafi_schema.proofs.Lists.{mapped_more}
use Rattle.neldrafi_schema.proofs.targets.item_children.Goals as goal

pub loop-value-preserved : goal.loop-value-preserved
loop-value-preserved c =
    let i = c.loop-value.value-index in
    let items = c.deref-value-items.result.now in
    let v = c.value-item.result in
    let count : c.len.result ≡ i = c.len.ensures ∙ c.loop-value.children.ok.0 ∙ c.loop-value.invariant.count in
    record {
      count = ap length c.in_ok-push.ensures.items ∙ length_push c.loop-value.children.items _ ∙ ap (λ n. n + 1) c.loop-value.invariant.count;
      all = mapped_more (λ x. (step_of x.step, view x.value.now)) c.loop-value.children.items c.push.new.self.items _ (as_child (i, view v))
          (map as_child (placed_from (i + 1) (map view (drop (i + 1) items)))) (children part.Items (view c.args.instance.now))
          (ap (λ cs. children_of c.loop-value.children.items ++ cs) (sym (one_child items i v c.loop-value-test.true c.value-item.is)) ∙ c.loop-value.invariant.all)
          (ap (λ n. as_child (n, view v)) count) c.in_ok-push.ensures.items;
    }
