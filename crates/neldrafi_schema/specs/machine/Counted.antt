-- By how many schemas an instance is valid.
use Rattle.std.specs.Prelude.{◌≡◌, ◌↔◌, ℕ, List, [], Bool, true, false, not, ◌||◌}
use Rattle.std.specs.Prelude.{Option, Some, None, is_some, nat_le}
use Rattle.serde_json.specs.Data.{Data}
use Rattle.serde_json.specs.Find.{as_array}
use Rattle.strkw_report.specs.declared.error.Site.{Site}
use Rattle.neldrafi_schema.specs.Meaning.{AreVerdicts, Below}
use Rattle.neldrafi_schema.specs.Rules.{Target, count_of, is_between, kinds, on_items, placed_items}
use Rattle.neldrafi_schema.specs.Schemas.{Branch, Keyword, Rule, negation, any_of, one_of}
use Rattle.neldrafi_schema.specs.Schemas.{condition}

-- so many of the targets have no errors
abbrev pub AreCounted : Below → Site → List ℕ → List Target → ℕ → Option ℕ → Type 0
AreCounted below site word ts least most = (vs : List Bool) × AreVerdicts below site word ts vs
    × (is_between least most (count_of vs) ≡ true)

-- so many items are valid; a value that is no array is not counted
abbrev pub AreItemsCounted : Below → Site → List ℕ → Data → Branch → ℕ → Option ℕ → Type 0
AreItemsCounted below site word d b least most = (vs : List Bool)
    × AreVerdicts below site word (on_items (placed_items d) b) vs
    × ((not (is_some (as_array d)) || is_between least most (count_of vs)) ≡ true)

-- one more than so many is too many
abbrev pub is_past : Option ℕ → ℕ → Bool
is_past None n = false
is_past (Some most) n = nat_le most n

-- whether a rule speaks of nothing but verdicts on the instance itself
abbrev pub is_counting : Rule → Bool
is_counting (negation schema) = true
is_counting any_of = true
is_counting one_of = true
is_counting condition = true
is_counting other = false

-- it reports nothing if so many are true
abbrev pub IsCounting : Rule → ℕ → Option ℕ → Type 0
IsCounting r least most = (is_counting r ≡ true) × ((beside : List Keyword) (word : List ℕ)
    (d : Data) (vs : List Bool)
    → kinds beside word r d vs ≡ [] ↔ (is_between least most (count_of vs) ≡ true))
