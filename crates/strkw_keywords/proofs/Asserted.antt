-- On the demands that are asserted.
use Rattle.std.proofs.Common.{◌≡◌, List, [], ◌∷◌, ◌++◌, refl, ap}
use Rattle.std.proofs.lemmas.List.{map-append}
use Rattle.strkw_keywords.specs.Places.{Place}
use Rattle.strkw_keywords.specs.Demands.{Demand}
use Rattle.strkw_keywords.specs.Errors.{Assertion, assertions_at, demands_asserted}

-- demands at a place are those demands
pub demands_of_placed : (place : Place) (ds : List Demand) → demands_asserted (assertions_at place ds) ≡ ds
demands_of_placed place [] = refl
demands_of_placed place (d ∷ ds) = ap (λ l. d ∷ l) (demands_of_placed place ds)

-- the demands of assertions and of others behind them
pub demands_of_joined : (front back : List Assertion)
    → demands_asserted (front ++ back) ≡ demands_asserted front ++ demands_asserted back
demands_of_joined front back = map-append (λ a. a.demand) front back

-- demands at a place, and others behind them
pub assertions_at-append : (place : Place) (ds es : List Demand) → assertions_at place (ds ++ es) ≡ assertions_at place ds ++ assertions_at place es
assertions_at-append place ds es = map-append (λ d. record { place = place; demand = d }) ds es
