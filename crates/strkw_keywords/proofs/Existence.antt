-- On the errors that assertions report: it cannot be that a node has no list of them.
use Rattle.std.proofs.Common.{◌≡◌, ℕ, List, [], ◌∷◌, ◌++◌, Option, Some, None, refl, inl, inr, MatchOption, slice_get}
use Rattle.std.specs.Str.{chars}
use Rattle.strkw_report.specs.Kinds.{Kind, Report}
use Rattle.strkw_report.specs.declared.error.Site.{Site}
use Rattle.strkw_coding.specs.declared.codec.Codec.{Codec}
use Rattle.strkw_coding.specs.declared.media_type.BuiltinMediaType.{BuiltinMediaType}
use Rattle.strkw_keywords.specs.declared.keyword.Keyword.{Keyword}
use Rattle.strkw_keywords.specs.Meanings.{Decoded, no_encoding, no_text, decoded, CodecRow, Lists, Choice, builtin, row}
use Rattle.strkw_keywords.specs.Demands.{Demand, is_media_type, is_encoded, encodes_media_type, is_format, at_least, at_most, compares, matches, Finding}
use Rattle.strkw_keywords.specs.Demands.{HasFinding, FoundUnless, IsContentFinding, Decodes, CodecDecodes}
use Rattle.strkw_keywords.specs.Places.{standing}
use Rattle.strkw_keywords.specs.Errors.{Assertion, reports_of, AllReport}
use Rattle.strkw_keywords.specs.Object.{all_assertions}
use Rattle.strkw_keywords.specs.Laws.{ReportsAreThere, ErrorsAreThere}
use Rattle.strkw_keywords.proofs.Entries.{entries_exist}

-- it cannot be that there is no answer to what is found unless P holds
FoundUnless-there : (P : Type 0) (k : Keyword) (kind : Kind) → ((found : Option Finding) → FoundUnless P k kind found → ⊥) → ⊥
FoundUnless-there P k kind none = none (Some (record { keyword = k; kind = kind })) (inr ((λ p. none None (inl (p, refl))), refl))

-- it cannot be that there is no answer to what is found of a decoded text
content-there : (c : Choice Codec) (m : Choice BuiltinMediaType) (lists : Lists) (d : Decoded)
    → ((found : Option Finding) → IsContentFinding c m lists d found → ⊥) → ⊥
content-there c m lists no_encoding none = none _ refl
content-there c m lists no_text none = none _ refl
content-there c m lists (decoded t) none = FoundUnless-there _ _ _ none

-- it cannot be that there is no answer to what a text decodes to by a built-in codec
builtin-there : (c : Codec) (text : List ℕ) → ((d : Decoded) → CodecDecodes c text d → ⊥) → ⊥
builtin-there c text none = none no_encoding (λ is. none no_text (is.0, is.1, λ utf8. none (decoded is.0) (is.1, utf8)))

-- the same by a row, or where there is none
row-there : (o : Option CodecRow) (text : List ℕ) → ((d : Decoded) → MatchOption o (d ≡ no_encoding) (λ r. d ≡ r.decode (chars text)) → ⊥) → ⊥
row-there None text none = none no_encoding refl
row-there (Some r) text none = none (r.decode (chars text)) refl

-- and so it is by any codec
decodes-there : (c : Choice Codec) (lists : Lists) (text : List ℕ) → ((d : Decoded) → Decodes c lists text d → ⊥) → ⊥
decodes-there (builtin c) lists text none = builtin-there c text none
decodes-there (row at name) lists text none = row-there (slice_get lists.codecs at) text none

-- it cannot be that there is no answer to what a text fails at by a demand
finding-there : (d : Demand) (lists : Lists) (text : List ℕ) → ((found : Option Finding) → HasFinding d lists text found → ⊥) → ⊥
finding-there (is_media_type m) lists text none = FoundUnless-there _ _ _ none
finding-there (is_encoded c) lists text none = FoundUnless-there _ _ _ none
finding-there (encodes_media_type c m) lists text none = decodes-there c lists text (λ d is. content-there c m lists d (λ found has. none found (d, is, has)))
finding-there (is_format f) lists text none = FoundUnless-there _ _ _ none
finding-there (at_least n) lists text none = FoundUnless-there _ _ _ none
finding-there (at_most n) lists text none = FoundUnless-there _ _ _ none
finding-there (compares p outcome) lists text none = none _ refl
finding-there (matches p outcome) lists text none = none _ refl

-- it cannot be that a text has no list of errors by some assertions
text-there : (assertions : List Assertion) (lists : Lists) (site : Site) (text : List ℕ) → ((rs : List Report) → AllReport assertions lists site text rs → ⊥)
    → ⊥
text-there [] lists site text none = none [] refl
text-there (a ∷ others) lists site text none =
    finding-there a.demand lists text (λ found has. text-there others lists site text
    (λ rest is. none (reports_of (standing a.place site) text found ++ rest) (found, rest, has, refl, is)))

-- it cannot be that a node has no list of errors by some assertions
pub reports_there : ReportsAreThere
reports_there assertions lists site None none = none [] refl
reports_there assertions lists site (Some text) none = text-there assertions lists site text none

-- it cannot be that a node has no list of errors by a schema object
pub errors_there : ErrorsAreThere
errors_there s ms lists site node none =
    let (es, are) = entries_exist s ms in
    reports_there (all_assertions s.place es) lists site node (λ rs h. none rs (es, are, h))
