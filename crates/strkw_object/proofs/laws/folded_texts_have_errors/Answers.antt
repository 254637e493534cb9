use Rattle.strkw_object.proofs.Folding.{refused_node}
use Rattle.strkw_object.proofs.laws.folded_texts_have_errors.Goals as goal

pub returns : goal.returns
returns g c = λ k lists site node text. refused_node c.lengths_outside_are_errors.ensures g.E.RegexEngine.outcome k.validators.items lists site
    (g.N.Node.text node) text
