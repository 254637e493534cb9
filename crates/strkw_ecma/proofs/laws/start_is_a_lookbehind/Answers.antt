use Rattle.strkw_ecma.proofs.Anchors.{nothing_before}
use Rattle.strkw_ecma.proofs.laws.start_is_a_lookbehind.Goals as goal

pub returns : goal.returns
returns c = λ text i j h. (λ m. ((nothing_before text i h).0 m.0, m.1), λ m. ((nothing_before text i h).1 m.0, m.1))
