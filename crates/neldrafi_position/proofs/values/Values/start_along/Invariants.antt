use Rattle.std.proofs.Common.{◌≡◌, drop, map}
use Rattle.neldrafi_position.specs.Places.{value_along}
use Rattle.neldrafi_position.proofs.PlaceLemmas.{LeadOn}
use Rattle.neldrafi_position.proofs.values.Values.start_along.Given as goal

abbrev pub invariant-loop-token : goal.invariant-loop-token
invariant-loop-token l = record {
  text : l.self ≡ l.fn.self;
  lead : LeadOn l.self (map (λ t. t.now) (drop l.token-index l.tokens)) l.start (value_along (map (λ t. t.now) l.tokens) l.self);
}
