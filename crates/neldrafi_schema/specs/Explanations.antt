-- What a refusal says.
use Rattle.std.specs.Prelude.{ℕ, List, ◌++◌, Bool, false, codes}
use Rattle.strkw_report.specs.Refusals.{explanation as text_explanation, prints_float as text_prints_float}
use Rattle.neldrafi_schema.specs.Schemas.{Reason, wrong_type, unresolved_reference}
use Rattle.neldrafi_schema.specs.Schemas.{circular_reference, unknown_dialect}
use Rattle.neldrafi_schema.specs.Schemas.{by_string_keyword, out_of_memory}

abbrev pub explanation : Reason → List ℕ
explanation wrong_type =
    codes "the value is not of the kind required here"
explanation unresolved_reference = codes "the reference leads to no schema of the given documents"
explanation circular_reference =
    codes "the reference leads back to itself, and does not enter the instance on the way"
explanation unknown_dialect = codes "the value is none of http://json-schema.org/draft-04/schema, "
    ++ codes "http://json-schema.org/draft-06/schema, http://json-schema.org/draft-07/schema, "
    ++ codes "https://json-schema.org/draft/2019-09/schema and https://json-schema.org/draft/2020-12/schema"
explanation (by_string_keyword why) = text_explanation why
explanation out_of_memory = codes "out of memory"

-- with the location of the value that is refused, in the document of a URI
abbrev pub refusal_text : Reason → List ℕ → List ℕ → List ℕ
refusal_text out_of_memory uri location = explanation out_of_memory
refusal_text why uri location = codes "at " ++ uri ++ codes "#" ++ location ++ codes ": " ++ explanation why

-- a float has no stated digits
abbrev pub prints_float : Reason → Bool
prints_float (by_string_keyword why) = text_prints_float why
prints_float other = false
