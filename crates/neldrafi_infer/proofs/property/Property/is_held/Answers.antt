use Rattle.std.proofs.Common.{rules, ◌≡◌, true}
use Rattle.neldrafi_infer.specs.Properties.{about_count, is_in, is_nearly}
use Rattle.neldrafi_infer.proofs.PropertyLemmas.{is_held_if}
use Rattle.neldrafi_infer.proofs.property.Property.is_held.Goals as goal

pub returns-then-has : goal.returns-then-has
returns-then-has c ss of tallied =
    let has : is_in c.args.group c.args.tally.now.hypothesis ≡ true = search rules in
    let nearly : c.is_nearly-is_nearly.result ≡ is_nearly c.args.tally.now.count (about_count c.args.tally.now.hypothesis ss) = search (rules, c.about.ensures ss of) in
    is_held_if c.args.group ss c.args.tally.now c.is_nearly-is_nearly.result tallied has nearly
