-- What keywords demand of a text, and what a text is found to fail at.
use Rattle.std.specs.Prelude.{◌≡◌, ◌≤◌, ◌⊎◌, ℕ, List, [], ◌∷◌, ◌++◌, Bool, true, false, ◌&&◌}
use Rattle.std.specs.Prelude.{length, Option, Some, None, IsTrue, MatchOption, slice_get}
use Rattle.std.specs.List.{AllByRecursion}
use Rattle.std.specs.Str.{chars, IsUtf8}
use Rattle.strkw_report.specs.Kinds.{Kind, min_length, max_length, pattern}
use Rattle.strkw_report.specs.Kinds.{backtrack_limit_exceeded, regex_engine_failure, format}
use Rattle.strkw_report.specs.Kinds.{content_encoding, content_media_type, from_utf8}
use Rattle.strkw_coding.specs.declared.codec.Codec.{Codec}
use Rattle.strkw_coding.specs.declared.media_type.BuiltinMediaType.{BuiltinMediaType}
use Rattle.strkw_coding.specs.MediaTypes.{IsOfMediaType as IsOfBuiltinMediaType}
use Rattle.strkw_coding.specs.Rfc4648.{Encodes, IsEncoding, EncodesNoText}
use Rattle.strkw_pattern.specs.declared.engine.Outcome.{Outcome}
use Rattle.strkw_pattern.specs.declared.engine.Outcome.TheVariants as outcome
use Rattle.strkw_keywords.specs.declared.keyword.Keyword.{Keyword}
use Rattle.strkw_keywords.specs.declared.keyword.Keyword.TheVariants.{ContentMediaType}
use Rattle.strkw_keywords.specs.declared.keyword.Keyword.TheVariants.{ContentEncoding, Format}
use Rattle.strkw_keywords.specs.declared.keyword.Keyword.TheVariants.{MinLength, MaxLength, Pattern}
use Rattle.strkw_formats.specs.declared.builtin.BuiltinFormat.{BuiltinFormat}
use Rattle.strkw_formats.specs.Formats.{IsOfBuiltin}
use Rattle.strkw_keywords.specs.Meanings.{Decoded, no_encoding, no_text, decoded, Row, CodecRow}
use Rattle.strkw_keywords.specs.Meanings.{Lists, Choice, builtin, row, row_names, codec_names}
use Rattle.strkw_keywords.specs.Meanings.{first_named}
use Rattle.strkw_keywords.specs.Choices.{chosen_format_name, chosen_media_type_name}
use Rattle.strkw_keywords.specs.Choices.{chosen_codec_name}

-- what one keyword demands of a text
pub data Demand : Type 0 where
  is_media_type : Choice BuiltinMediaType → Demand
  is_encoded : Choice Codec → Demand
  encodes_media_type : Choice Codec → Choice BuiltinMediaType → Demand
  is_format : Choice BuiltinFormat → Demand
  at_least : ℕ → Demand
  at_most : ℕ → Demand
  compares : List ℕ → (List ℕ → Outcome) → Demand
  matches : List ℕ → (List ℕ → Outcome) → Demand

-- what a text fails at, and the keyword that says so
pub record Finding : Type 0 where
  pub keyword : Keyword
  pub kind : Kind

-- ---- what the words of a schema mean

-- the row at a position admits the text; where there is no row, nothing is admitted
abbrev pub Admits : List Row → ℕ → List ℕ → Type 0
Admits rows at text = MatchOption (slice_get rows at) ⊥ (λ r. IsTrue (r.admits (chars text)))

abbrev pub IsOfFormat : Choice BuiltinFormat → Lists → List ℕ → Type 0
IsOfFormat (builtin f) lists text = IsOfBuiltin f (chars text)
IsOfFormat (row at name) lists text = Admits lists.formats at text

abbrev pub IsOfMediaType : Choice BuiltinMediaType → Lists → List ℕ → Type 0
IsOfMediaType (builtin m) lists text = IsOfBuiltinMediaType m text
IsOfMediaType (row at name) lists text = Admits lists.media_types at text

-- the codec at a position takes the text for an encoding; where there is no row, nothing is one
abbrev pub Takes : List CodecRow → ℕ → List ℕ → Type 0
Takes rows at text = MatchOption (slice_get rows at) ⊥ (λ r. IsTrue (r.is_encoded (chars text)))

abbrev pub IsEncoded : Choice Codec → Lists → List ℕ → Type 0
IsEncoded (builtin c) lists text = IsEncoding c text
IsEncoded (row at name) lists text = Takes lists.codecs at text

abbrev pub CodecDecodes : Codec → List ℕ → Decoded → Type 0
CodecDecodes c text no_encoding = IsEncoding c text → ⊥
CodecDecodes c text no_text = EncodesNoText c text
CodecDecodes c text (decoded t) = Encodes c text t × IsUtf8 t

abbrev pub RowDecodes : List CodecRow → ℕ → List ℕ → Decoded → Type 0
RowDecodes rows at text d = MatchOption (slice_get rows at) (d ≡ no_encoding)
    (λ r. d ≡ r.decode (chars text))

-- the text decodes to this
abbrev pub Decodes : Choice Codec → Lists → List ℕ → Decoded → Type 0
Decodes (builtin c) lists text d = CodecDecodes c text d
Decodes (row at name) lists text d = RowDecodes lists.codecs at text d

-- ---- findings

-- nothing is found where P holds, and this where it does not
abbrev pub FoundUnless : Type 0 → Keyword → Kind → Option Finding → Type 0
FoundUnless P keyword kind found = (P × (found ≡ None))
    ⊎ ((P → ⊥) × (found ≡ Some (record { keyword = keyword; kind = kind })))

-- what is found of a text that is decoded first
abbrev pub IsContentFinding : Choice Codec → Choice BuiltinMediaType → Lists → Decoded
    → Option Finding → Type 0
IsContentFinding c m lists no_encoding found =
    found ≡ Some (record {
      keyword = ContentEncoding;
      kind = content_encoding (chosen_codec_name c);
    })
IsContentFinding c m lists no_text found =
    found ≡ Some (record { keyword = ContentEncoding; kind = from_utf8 })
IsContentFinding c m lists (decoded t) found =
    FoundUnless (IsOfMediaType m lists t) ContentMediaType
    (content_media_type (chosen_media_type_name m)) found

abbrev pub found_by_outcome : List ℕ → Outcome → Option Finding
found_by_outcome p outcome.Match = None
found_by_outcome p outcome.NoMatch = Some (record { keyword = Pattern; kind = pattern p })
found_by_outcome p outcome.BacktrackLimit =
    Some (record { keyword = Pattern; kind = backtrack_limit_exceeded p })
found_by_outcome p outcome.Failed =
    Some (record { keyword = Pattern; kind = regex_engine_failure p })

-- this is what a text fails at by one demand, or that it fails at nothing
abbrev pub HasFinding : Demand → Lists → List ℕ → Option Finding → Type 0
HasFinding (is_media_type m) lists text found =
    FoundUnless (IsOfMediaType m lists text) ContentMediaType
    (content_media_type (chosen_media_type_name m)) found
HasFinding (is_encoded c) lists text found =
    FoundUnless (IsEncoded c lists text) ContentEncoding (content_encoding (chosen_codec_name c))
    found
HasFinding (encodes_media_type c m) lists text found = (d : Decoded) × Decodes c lists text d
    × IsContentFinding c m lists d found
HasFinding (is_format f) lists text found =
    FoundUnless (IsOfFormat f lists text) Format (format (chosen_format_name f)) found
HasFinding (at_least n) lists text found =
    FoundUnless (n ≤ length (chars text)) MinLength (min_length n) found
HasFinding (at_most n) lists text found =
    FoundUnless (length (chars text) ≤ n) MaxLength (max_length n) found
HasFinding (compares p outcome) lists text found = found ≡ found_by_outcome p (outcome (chars text))
HasFinding (matches p outcome) lists text found = found ≡ found_by_outcome p (outcome (chars text))

abbrev pub finding_list : Option Finding → List Finding
finding_list None = []
finding_list (Some f) = f ∷ []

-- these are the findings of a text by several demands, in their order
abbrev pub Finds : List Demand → Lists → List ℕ → List Finding → Type 0
Finds [] lists text fs = fs ≡ []
Finds (d ∷ others) lists text fs = (found : Option Finding) × (rest : List Finding)
    × HasFinding d lists text found × (fs ≡ finding_list found ++ rest)
    × Finds others lists text rest

-- ---- the rows that demands rest on

-- the position that is kept is that of the first row of the name
abbrev pub KeepsFirst : {A : Type 0} → List (List ℕ) → Choice A → Type 0
KeepsFirst names (builtin a) = Unit {0}
KeepsFirst names (row at name) = first_named name names ≡ Some at

abbrev pub KeepsRows : Lists → Demand → Type 0
KeepsRows lists (is_media_type m) = KeepsFirst (row_names lists.media_types) m
KeepsRows lists (is_encoded c) = KeepsFirst (codec_names lists.codecs) c
KeepsRows lists (encodes_media_type c m) = KeepsFirst (codec_names lists.codecs) c
    × KeepsFirst (row_names lists.media_types) m
KeepsRows lists (is_format f) = KeepsFirst (row_names lists.formats) f
KeepsRows lists (at_least n) = Unit {0}
KeepsRows lists (at_most n) = Unit {0}
KeepsRows lists (compares p outcome) = Unit {0}
KeepsRows lists (matches p outcome) = Unit {0}

-- the rows that demands rest on are the first of their names
abbrev pub IsInUse : List Demand → Lists → Type 0
IsInUse demands lists = AllByRecursion (KeepsRows lists) demands

-- ---- memory

abbrev pub is_builtin : {A : Type 0} → Choice A → Bool
is_builtin (builtin a) = true
is_builtin (row at name) = false

-- whether a text is tested without memory
abbrev pub is_quiet : Demand → Bool
is_quiet (is_media_type m) = false
is_quiet (is_encoded c) = false
is_quiet (encodes_media_type c m) = false
is_quiet (is_format f) = is_builtin f
is_quiet (at_least n) = true
is_quiet (at_most n) = true
is_quiet (compares p outcome) = true
is_quiet (matches p outcome) = false

-- whether a text is tested without memory by all of them
abbrev pub all_quiet : List Demand → Bool
all_quiet [] = true
all_quiet (d ∷ others) = is_quiet d && all_quiet others
