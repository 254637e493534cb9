-- What is left of the tokens behind a value that is passed over.
use Rattle.std.proofs.Common.{◌≡◌, ◌↔◌, List, [], ◌∷◌, Option, Some, None, option_and_then, IsSome, refl, sym, subst}
use Rattle.std.proofs.lemmas.Bool.{false≢true}
use Rattle.std.specs.Prelude.{⊤}
use Rattle.json.specs.Token.{Token}
use Rattle.json.specs.Json.{Json, parse_map, if_last}
use Rattle.serde_json.specs.Data.{Data}
use Rattle.serde_json.specs.Read.{of_json, converted}
use Rattle.strkw_json.specs.Passing.{tokens_left}
use Rattle.strkw_json.proofs.Reading.{at_end, whole}

-- whatever is made of what was read, the same is left behind it
pub behind_map : {A B : Type 0} (f : A → B) (r : Option (A × List Token)) → tokens_left (parse_map f r) ≡ tokens_left r
behind_map f None = refl
behind_map f (Some p) = refl

-- what an option holds is one thing or the other
-- it holds something
abbrev Held : Option (List Token) → Type 0
Held None = ⊥
Held (Some ts) = ⊤

-- what it holds, if anything, is no tokens
abbrev Ends : Option (List Token) → Type 0
Ends None = ⊤
Ends (Some []) = ⊤
Ends (Some (t ∷ ts)) = ⊥

-- a value was read to the end exactly where nothing is left behind it
ends_there : (r : Option (Data × List Token)) → IsSome (at_end r) ↔ (tokens_left r ≡ Some [])
ends_there None = (λ h. absurd (false≢true h), λ e. absurd (subst Held (sym e) tt))
ends_there (Some (d, [])) = (λ _. refl, λ _. refl)
ends_there (Some (d, t ∷ ts)) = (λ h. absurd (false≢true h), λ e. absurd (subst Ends (sym e) tt))

-- a text has a reading exactly where nothing is left behind its value
pub whole_text : (r : Option (Json × List Token)) → IsSome (option_and_then of_json (option_and_then (λ p. if_last p.0 p.1) r))
    ↔ (tokens_left (converted of_json r) ≡ Some [])
whole_text r = subst (λ o. IsSome o ↔ (tokens_left (converted of_json r) ≡ Some [])) (sym (whole r)) (ends_there (converted of_json r))
