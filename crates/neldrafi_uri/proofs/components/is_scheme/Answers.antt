use Rattle.std.proofs.Common.{◌≡◌, ◌∙◌, ap, arith, lit<, length, true, nat_lt, refl}
use Rattle.std.proofs.lemmas.Bool.Decides.{nat_tests}
use Rattle.std.specs.Prelude.{not}
use Rattle.neldrafi_uri.proofs.Cuts.{contains_is}
use Rattle.neldrafi_uri.proofs.components.is_scheme.Goals as goal

pub returns-then-not-is_empty : goal.returns-then-not-is_empty
returns-then-not-is_empty c =
    let some : nat_lt 0 (length c.args.text.now) ≡ true = grind (arith, nat_tests) in
    ap not (contains_is 47 c.args.text.now (lit< tt) c.contains.result c.contains.ensures.cases) ∙ rw some refl
