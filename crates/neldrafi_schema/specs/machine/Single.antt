-- Which rules report at most one error of their own, which look at the rules beside, and which do neither that nor lead
-- to schemas.
use Rattle.std.specs.Prelude.{◌≡◌, ◌↔◌, ℕ, List, [], Bool, true, false, not, ◌&&◌, IsTrue}
use Rattle.serde_json.specs.Data.{Data}
use Rattle.neldrafi_schema.specs.Rules.{kinds}
use Rattle.neldrafi_schema.specs.Schemas.{Keyword, Rule, types, among, equal_to, limited, multiple_of}
use Rattle.neldrafi_schema.specs.Schemas.{sized, distinct, required, dependent, no_other_members, no_other_items}

abbrev pub looks_beside : Rule → Bool
looks_beside no_other_members = true
looks_beside no_other_items = true
looks_beside other = false

abbrev pub is_of_several : Rule → Bool
is_of_several (required names) = true
is_of_several (dependent names) = true
is_of_several other = false

abbrev pub is_single : Rule → Bool
is_single r = not (looks_beside r) && not (is_of_several r)

abbrev pub is_plain : Rule → Bool
is_plain (types floats ts) = true
is_plain (among ds) = true
is_plain (equal_to d) = true
is_plain (limited l m) = true
is_plain (multiple_of m) = true
is_plain (sized s n) = true
is_plain distinct = true
is_plain (required names) = true
is_plain other = false

-- whether an instance is as such a rule wants it
abbrev pub IsPlainVerdict : Rule → Data → Bool → Type 0
IsPlainVerdict r d b = (is_plain r ≡ true)
    × ((beside : List Keyword) (word : List ℕ) → IsTrue b ↔ (kinds beside word r d [] ≡ []))
