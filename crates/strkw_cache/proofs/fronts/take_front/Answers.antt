use Rattle.std.proofs.Common.{arith}
use Rattle.std.proofs.lemmas.Grind.{common_steps}
use Rattle.strkw_cache.proofs.fronts.take_front.Goals as goal

pub returns : goal.returns
returns c =
    let (named, number) = c.in_ok-take_number.ensures in
    record {
      draft = named;
      good = c.take_same.ensures.good c.if-not-take_same.false;
      tokens = grind (arith, common_steps);
    }
