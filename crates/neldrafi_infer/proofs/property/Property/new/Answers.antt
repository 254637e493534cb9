use Rattle.std.proofs.Common.{rules, ◌<◌, [], length}
use Rattle.std.proofs.lemmas.List.Elements.{All-push, All-same}
use Rattle.neldrafi_infer.specs.Tallies.{IsTallied}
use Rattle.neldrafi_infer.specs.Properties.{hypotheses}
use Rattle.neldrafi_infer.proofs.PropertyLemmas.{made_more}
use Rattle.neldrafi_infer.proofs.property.Property.new.Goals as goal

pub loop-hypothesis-preserved : goal.loop-hypothesis-preserved
loop-hypothesis-preserved c =
    let i = c.loop-hypothesis.hypothesis-index in
    let within : i < length hypotheses = search rules in record {
      all = c.loop-hypothesis.invariant.all;
      made = made_more c.loop-hypothesis.tallies.items c.push.new.self.items c.new.result hypotheses i c.new.result.hypothesis c.in_ok-push.ensures.items (search rules) within c.loop-hypothesis.invariant.made;
      tallied = All-same (IsTallied []) c.push.new.self.items _ c.in_ok-push.ensures.items (All-push (IsTallied []) c.loop-hypothesis.tallies.items c.new.result c.loop-hypothesis.invariant.tallied c.new.ensures.none);
    }
