-- What is found in an object, from what is found in the values of its members.
use Rattle.std.proofs.Common.{◌≡◌, Bor, ℕ, List, inr, sym, subst}
use Rattle.std.specs.Prelude.{Result, Ok, Err, Option, Some, None, IfOk, MatchOption}
use Rattle.json.specs.Json.{Json, Members, object}
use Rattle.json.specs.Strict.{AreDistinct, HasUniqueKeys, MembersHaveUniqueKeys, keys}
use Rattle.neldrafi.specs.Distinct.{HasDuplicate, MembersHaveDuplicate}

-- of a search that succeeds: `none` where it found no name, `some` of the one found
abbrev Found : {E : Type 0} → Type 0 → (List ℕ → Type 0) → Result (Option (Bor (List ℕ))) E → Type 0
Found none some found = IfOk found (λ o. MatchOption o none (λ name. some name.now))

-- its names differ, so it has a duplicate if one of the values has
pub found_in_object : {E : Type 0} (j : Json) (ms : Members) → j ≡ object ms → AreDistinct (keys ms) → (found : Result (Option (Bor (List ℕ))) E)
    → Found (MembersHaveUniqueKeys ms) (λ name. MembersHaveDuplicate name ms) found → Found (HasUniqueKeys j) (λ name. HasDuplicate name j) found
found_in_object j ms is apart (Ok None) h = subst HasUniqueKeys (sym is) (apart, h)
found_in_object j ms is apart (Ok (Some name)) h = subst (HasDuplicate name.now) (sym is) (inr h)
found_in_object j ms is apart (Err e) h = tt
