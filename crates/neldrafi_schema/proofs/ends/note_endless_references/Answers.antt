use Rattle.std.proofs.Common.{rules, ◌<◌, ◌∙◌, ap, length, sym}
use Rattle.neldrafi_schema.specs.machine.Compiled.{path_of}
use Rattle.neldrafi_schema.specs.machine.Places.{place_path}
use Rattle.neldrafi_schema.specs.machine.Said.{flag_at}
use Rattle.neldrafi_schema.proofs.Noting.{node_ends, node_noted}
use Rattle.neldrafi_schema.proofs.ends.note_endless_references.Goals.{in-Keywords+in_ok-note_endless, in_default}
use Rattle.neldrafi_schema.proofs.ends.note_endless_references.Goals as goal

pub loop-number-preserved : goal.loop-number-preserved
loop-number-preserved g c =
    let inside : c.loop-number.number < length c.args.places.now = search rules in
    elim c.match-nodes-number.branch [
      | in-Keywords+in_ok-note_endless w ↦
          node_noted g.E.RegexEngine.outcome (flag_at c.args.end.now) c.args.nodes.now c.args.places.now c.loop-number.number c.index-nodes-number.result c.index-nodes-number.is
          c.loop-number-test.true inside c.args.first.now c.loop-number.first c.match-nodes-number.first c.loop-number.invariant
          w.index-places-number.result (path_of w.deref.result.now) w.in-Keywords.keywords w.deref-in-Keywords.result.now w.note_endless.new.first w.index-places-number.is
          (ap path_of w.deref.ensures.value ∙ sym (ap (λ p. place_path p.place) w.index-places-number.is)) w.in-Keywords.is w.deref-in-Keywords.ensures.value w.first-is w.in_ok-note_endless.ensures
      | in_default w ↦
          node_ends g.E.RegexEngine.outcome (flag_at c.args.end.now) c.args.nodes.now c.args.places.now c.loop-number.number c.index-nodes-number.result c.index-nodes-number.is
          c.loop-number-test.true inside c.args.first.now c.loop-number.first c.match-nodes-number.first c.loop-number.invariant w.in_default.not-Keywords w.first-is
    ]
