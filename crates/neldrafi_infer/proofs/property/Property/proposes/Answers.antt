use Rattle.std.proofs.Common.{rules, ◌≡◌, IsTrue, true}
use Rattle.neldrafi_infer.specs.declared.hypotheses.Hypothesis.TheVariants.{OfType}
use Rattle.neldrafi_infer.proofs.PropertyLemmas.{held_proposes, some_proposes}
use Rattle.neldrafi_infer.proofs.property.Property.proposes.Goals as goal

pub returns-in-Some : goal.returns-in-Some
returns-in-Some c ss of =
    let h = c.in-Some.tally.now.hypothesis in
    let is : c.is_of.result ≡ true → h ≡ OfType c.args.of_type = λ e. let t : IsTrue c.is_of.result = search rules in c.is_of.ensures.0 t in
    let same : h ≡ OfType c.args.of_type → c.is_of.result ≡ true = λ e. let t : IsTrue c.is_of.result = c.is_of.ensures.1 e in search rules in
    held_proposes ss h c.args.of_type c.is_of.result (c.in-Some.ensures.held ss of).1 is same

pub returns-in-None : goal.returns-in-None
returns-in-None c ss of = some_proposes ss c.args.of_type c.has_some.result (c.in-None.ensures.none ss of (search rules)) (c.has_some.ensures ss of)
