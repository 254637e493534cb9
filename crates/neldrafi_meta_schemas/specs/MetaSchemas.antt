-- The documents of each draft's meta-schema, by their URIs: its own (draft 4, Core, section 6; drafts
-- 6 and 7, Core, section 7; later ones, Validation, section 5), and those of its vocabularies
-- (2019-09, Core, sections 8 and 9; 2020-12, Core, sections 8, 10 and 11; both, Validation, sections 6
-- to 9).
use Rattle.std.specs.Prelude.{ℕ, List, [], ◌∷◌, codes}
use Rattle.strkw_report.specs.declared.draft.Draft.{Draft}
use Rattle.strkw_report.specs.declared.draft.Draft.TheVariants.{Draft4, Draft6, Draft7}
use Rattle.strkw_report.specs.declared.draft.Draft.TheVariants.{Draft201909, Draft202012}

abbrev pub uris_of : Draft → List (List ℕ)
uris_of Draft4 = codes "http://json-schema.org/draft-04/schema" ∷ []
uris_of Draft6 = codes "http://json-schema.org/draft-06/schema" ∷ []
uris_of Draft7 = codes "http://json-schema.org/draft-07/schema" ∷ []
uris_of Draft201909 = codes "https://json-schema.org/draft/2019-09/schema"
    ∷ codes "https://json-schema.org/draft/2019-09/meta/core"
    ∷ codes "https://json-schema.org/draft/2019-09/meta/applicator"
    ∷ codes "https://json-schema.org/draft/2019-09/meta/validation"
    ∷ codes "https://json-schema.org/draft/2019-09/meta/meta-data"
    ∷ codes "https://json-schema.org/draft/2019-09/meta/format"
    ∷ codes "https://json-schema.org/draft/2019-09/meta/content" ∷ []
uris_of Draft202012 = codes "https://json-schema.org/draft/2020-12/schema"
    ∷ codes "https://json-schema.org/draft/2020-12/meta/core"
    ∷ codes "https://json-schema.org/draft/2020-12/meta/applicator"
    ∷ codes "https://json-schema.org/draft/2020-12/meta/unevaluated"
    ∷ codes "https://json-schema.org/draft/2020-12/meta/validation"
    ∷ codes "https://json-schema.org/draft/2020-12/meta/meta-data"
    ∷ codes "https://json-schema.org/draft/2020-12/meta/format-annotation"
    ∷ codes "https://json-schema.org/draft/2020-12/meta/content" ∷ []
