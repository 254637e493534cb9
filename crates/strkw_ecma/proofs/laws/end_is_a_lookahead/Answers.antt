use Rattle.std.proofs.Common.{◌+◌, refl, slice_get}
use Rattle.strkw_ecma.proofs.Anchors.{nothing_behind}
use Rattle.strkw_ecma.proofs.laws.end_is_a_lookahead.Goals as goal

pub returns : goal.returns
returns c = λ text i j. let none = nothing_behind (slice_get text i) in
    (λ m. (λ found. none.0 m.0 found.1.0 found.1.1, m.1), λ m. (none.1 (λ c same. m.0 (i + 1, (c, same, refl, refl))), m.1))
