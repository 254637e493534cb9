-- What the string keywords of a schema object mean, entry by entry (JSON Schema Validation 2020-12,
-- sections 6.3, 7 and 8; draft 7, sections 6.3, 7 and 8).
use Rattle.std.specs.Prelude.{◌≡◌, ◌⊎◌, ℕ, List, [], ◌∷◌, ◌++◌, Bool, true, false, not, ◌&&◌, ◌||◌}
use Rattle.std.specs.Prelude.{Option, Some, None, unwrap_or, MatchOption, if◌then◌else◌}
use Rattle.std.specs.Prelude.{option_and_then, slice_get}
use Rattle.std.specs.Str.{chars, bytes_eq}
use Rattle.serde_json.specs.Data.{Data, string, Members}
use Rattle.serde_json.specs.Find.{get_member, as_str, as_number, as_u64}
use Rattle.serde_json.specs.Written.{has_float}
use Rattle.strkw_report.specs.declared.draft.Draft.{Draft}
use Rattle.strkw_report.specs.declared.draft.Draft.TheVariants.{Draft4, Draft6, Draft7, Draft201909}
use Rattle.strkw_report.specs.declared.draft.Draft.TheVariants.{Draft202012}
use Rattle.strkw_report.specs.Paths.{path_below}
use Rattle.strkw_report.specs.Kinds.{Report}
use Rattle.strkw_report.specs.declared.error.Site.{Site}
use Rattle.strkw_report.specs.Refusals.{Reason, not_string, size, unknown_format, regex}
use Rattle.strkw_report.specs.Refusals.{fractional_number, Refusal}
use Rattle.strkw_coding.specs.declared.codec.Codec.{Codec}
use Rattle.strkw_coding.specs.declared.codec.Codec.TheVariants.{Base64, Base64Url, Base32}
use Rattle.strkw_coding.specs.declared.codec.Codec.TheVariants.{Base32Hex, Base16}
use Rattle.strkw_coding.specs.declared.media_type.BuiltinMediaType.{BuiltinMediaType}
use Rattle.strkw_coding.specs.declared.media_type.BuiltinMediaType.TheVariants.{Json}
use Rattle.strkw_coding.specs.Names.{codec_name, media_type_name}
use Rattle.strkw_pattern.specs.declared.engine.Outcome.{Outcome}
use Rattle.strkw_pattern.specs.Literal.{Literal, IsWellFormed, spelling, IsLiteral}
use Rattle.strkw_pattern.specs.Matcher.{IsSearch}
use Rattle.strkw_keywords.specs.declared.keyword.Keyword.{Keyword}
use Rattle.strkw_keywords.specs.declared.keyword.Keyword.TheVariants.{ContentMediaType}
use Rattle.strkw_keywords.specs.declared.keyword.Keyword.TheVariants.{ContentEncoding}
use Rattle.strkw_keywords.specs.declared.keyword.Keyword.TheVariants.{ContentSchema, Format}
use Rattle.strkw_keywords.specs.declared.keyword.Keyword.TheVariants.{MinLength, MaxLength, Pattern}
use Rattle.strkw_formats.specs.declared.builtin.BuiltinFormat.{BuiltinFormat}
use Rattle.strkw_keywords.specs.declared.content_rule.ContentRule.{ContentRule}
use Rattle.strkw_keywords.specs.declared.content_rule.ContentRule.TheVariants.{Ignored, Checked}
use Rattle.strkw_keywords.specs.declared.content_rule.ContentRule.TheVariants.{Noted}
use Rattle.strkw_keywords.specs.declared.options.Options.{Options}
use Rattle.strkw_keywords.specs.Keywords.{keyword_name, keyword_place}
use Rattle.strkw_formats.specs.Formats.{builtin_named}
use Rattle.strkw_keywords.specs.Meanings.{Lists, Choice, builtin, row, row_names, codec_names}
use Rattle.strkw_keywords.specs.Meanings.{first_named}
use Rattle.strkw_keywords.specs.Places.{Place}
use Rattle.strkw_keywords.specs.Demands.{Demand, is_media_type, is_encoded, encodes_media_type}
use Rattle.strkw_keywords.specs.Demands.{is_format, at_least, at_most, compares, matches}
use Rattle.strkw_keywords.specs.Errors.{Assertion, assertions_at, NodeReports}
use Rattle.strkw_keywords.specs.Remarks.{Remark, remark_at}

-- what a schema object is compiled under
pub record Settings : Type 0 where
  pub draft : Draft
  pub place : Place
  pub options : Options
  pub lists : Lists
  pub takes : List ℕ → Bool
  pub outcome : List ℕ → List ℕ → Outcome

-- what one entry comes to: nothing, a refusal of the value at a keyword, or demands and what is
-- noted
pub data Entry : Type 0 where
  nothing : Entry
  malformed : Keyword → Reason → Entry
  gives : List Demand → Option Data → Entry

-- ---- values

-- what holds where a caller sets nothing: drafts decide whether formats are checked, unknown ones
-- are ignored, and everything is built in
abbrev pub default_options : Options
default_options = record {
  validate_formats = None;
  ignore_unknown_formats = true;
  formats_by_dialect = false;
  json_media_type = true;
  codecs = true ∷ true ∷ true ∷ true ∷ true ∷ [];
  overridden = false ∷ false ∷ false ∷ false ∷ false ∷ false ∷ false ∷ [];
}

abbrev pub is_on : List Bool → ℕ → Bool
is_on flags i = unwrap_or (slice_get flags i) false

abbrev pub is_overridden : Options → Keyword → Bool
is_overridden options keyword = is_on options.overridden (keyword_place keyword)

-- the value at a keyword, unless the keyword is overridden
abbrev pub value_at : Options → Keyword → Members → Option Data
value_at options keyword ms = if is_overridden options keyword then None
    else get_member (keyword_name keyword) ms

-- why a value that is no string is refused
abbrev pub no_string : Data → Reason
no_string d = if has_float d then fractional_number else not_string d

abbrev pub of_string : (List ℕ → Entry) → Keyword → Data → Option (List ℕ) → Entry
of_string entry keyword d (Some text) = entry text
of_string entry keyword d None = malformed keyword (no_string d)

-- the entry of a text; a value that is no string is refused at the keyword
abbrev pub of_text : (List ℕ → Entry) → Keyword → Data → Entry
of_text entry keyword d = of_string entry keyword d (as_str d)

-- ---- what is known by a name: the first registered row of the name, or else the built-in

abbrev pub choice : {A : Type 0} → Option ℕ → List ℕ → Option A → Option (Choice A)
choice (Some at) name b = Some (row at name)
choice None name (Some b) = Some (builtin b)
choice None name None = None

-- where options tell whether a codec is built in
abbrev pub codec_place : Codec → ℕ
codec_place Base64 = 0
codec_place Base64Url = 1
codec_place Base32 = 2
codec_place Base32Hex = 3
codec_place Base16 = 4

abbrev pub has_codec : Options → Codec → Bool
has_codec options c = is_on options.codecs (codec_place c)

abbrev pub codec_named : List ℕ → Option Codec
codec_named name =
    if bytes_eq name (codec_name Base64) then Some Base64
    else (if bytes_eq name (codec_name Base64Url) then Some Base64Url
    else (if bytes_eq name (codec_name Base32) then Some Base32
    else (if bytes_eq name (codec_name Base32Hex) then Some Base32Hex
    else (if bytes_eq name (codec_name Base16) then Some Base16
    else None))))

abbrev pub left_on : Options → Option Codec → Option Codec
left_on options (Some c) = if has_codec options c then Some c else None
left_on options None = None

abbrev pub media_type_left_on : Options → List ℕ → Option BuiltinMediaType
media_type_left_on options name = if options.json_media_type
    && bytes_eq name (media_type_name Json) then Some Json else None

abbrev pub known_media_type : Lists → Options → List ℕ → Option (Choice BuiltinMediaType)
known_media_type lists options name =
    choice (first_named name (row_names lists.media_types)) name (media_type_left_on options name)

abbrev pub known_codec : Lists → Options → List ℕ → Option (Choice Codec)
known_codec lists options name = choice (first_named name (codec_names lists.codecs)) name
    (left_on options (codec_named name))

abbrev pub known_format : Settings → List ℕ → Option (Choice BuiltinFormat)
known_format s name = choice (first_named name (row_names s.lists.formats)) name
    (builtin_named s.draft name)

-- ---- content

-- What a draft does with content: draft 4 has no content keywords; draft 7 lets a validator check
-- them (8.2); from 2019-09 on they are annotations (8.2). Draft 6 has none either; it checks them
-- as the Rust crate does.
abbrev pub content_rule : Draft → ContentRule
content_rule Draft4 = Ignored
content_rule Draft6 = Checked
content_rule Draft7 = Checked
content_rule Draft201909 = Noted
content_rule Draft202012 = Noted

-- a text of a media type, encoded by a codec that is known
abbrev pub encoded_check : Choice BuiltinMediaType → Option (Choice Codec) → Entry
encoded_check m None = nothing
encoded_check m (Some c) = gives (encodes_media_type c m ∷ []) None

-- a media type that is known, beside what stands at `contentEncoding`
abbrev pub media_type_beside : Settings → Choice BuiltinMediaType → Option Data → Entry
media_type_beside s m None = gives (is_media_type m ∷ []) None
media_type_beside s m (Some d) = of_text
    (λ name. encoded_check m (known_codec s.lists s.options name)) ContentEncoding d

abbrev pub media_type_check : Settings → Members → Option (Choice BuiltinMediaType) → Entry
media_type_check s ms None = nothing
media_type_check s ms (Some m) = media_type_beside s m
    (get_member (keyword_name ContentEncoding) ms)

abbrev pub encoding_check : Option (Choice Codec) → Entry
encoding_check None = nothing
encoding_check (Some c) = gives (is_encoded c ∷ []) None

-- an encoding, unless it belongs to a media type
abbrev pub encoding_beside : Settings → Option Data → Data → Entry
encoding_beside s None d = of_text (λ name. encoding_check (known_codec s.lists s.options name))
    ContentEncoding d
encoding_beside s (Some m) d = nothing

-- a value that is noted where it is a string
abbrev pub noted_text : Data → Option (List ℕ) → Entry
noted_text d (Some text) = gives [] (Some d)
noted_text d None = nothing

-- a schema that is noted where there is a media type
abbrev pub schema_beside : Option Data → Data → Entry
schema_beside None d = nothing
schema_beside (Some m) d = if has_float d then malformed ContentSchema fractional_number
    else gives [] (Some d)

abbrev pub media_type_entry : ContentRule → Settings → Members → Data → Entry
media_type_entry Ignored s ms d = nothing
media_type_entry Checked s ms d = of_text
    (λ name. media_type_check s ms (known_media_type s.lists s.options name)) ContentMediaType d
media_type_entry Noted s ms d = noted_text d (as_str d)

abbrev pub encoding_entry : ContentRule → Settings → Members → Data → Entry
encoding_entry Ignored s ms d = nothing
encoding_entry Checked s ms d = encoding_beside s (get_member (keyword_name ContentMediaType) ms) d
encoding_entry Noted s ms d = noted_text d (as_str d)

abbrev pub schema_entry : ContentRule → Members → Data → Entry
schema_entry Ignored ms d = nothing
schema_entry Checked ms d = nothing
schema_entry Noted ms d = schema_beside (get_member (keyword_name ContentMediaType) ms) d

-- ---- format

-- Drafts 4, 6 and 7 check formats. In the later ones a format is an annotation (2019-09, 7.2;
-- 2020-12, 7.2.1).
abbrev pub checks_formats_itself : Draft → Bool
checks_formats_itself Draft4 = true
checks_formats_itself Draft6 = true
checks_formats_itself Draft7 = true
checks_formats_itself Draft201909 = false
checks_formats_itself Draft202012 = false

-- whether formats are checked: as the caller says, or else as the draft or the dialect does
abbrev pub checks_formats : Options → Draft → Bool
checks_formats options draft = unwrap_or options.validate_formats
    (checks_formats_itself draft || options.formats_by_dialect)

-- whether an unknown format adds nothing
abbrev pub ignores_unknown : Options → Bool
ignores_unknown options = options.ignore_unknown_formats && not options.formats_by_dialect

-- a name where formats are checked
abbrev pub checked_format : Settings → List ℕ → Option (Choice BuiltinFormat) → Entry
checked_format s name (Some f) = gives (is_format f ∷ []) (Some (string name))
checked_format s name None = if ignores_unknown s.options then nothing
    else malformed Format (unknown_format name s.options.formats_by_dialect)

abbrev pub format_entry : Settings → Data → Entry
format_entry s d = of_text (λ name. if checks_formats s.options s.draft then checked_format s name
    (known_format s name)
    else gives [] (Some (string name))) Format d

-- ---- lengths

-- a limit that is a whole number of 64 bits
abbrev pub as_limit : Data → Option ℕ
as_limit d = option_and_then as_u64 (as_number d)

abbrev pub limit_entry : (ℕ → Demand) → Keyword → Option ℕ → Entry
limit_entry demand keyword (Some n) = gives (demand n ∷ []) None
limit_entry demand keyword None = malformed keyword size

abbrev pub min_entry : Data → Entry
min_entry d = limit_entry at_least MinLength (as_limit d)

abbrev pub max_entry : Data → Entry
max_entry d = limit_entry at_most MaxLength (as_limit d)

-- ---- pattern

-- a pattern that is no literal, where the builder takes it
abbrev pub engine_entry : Settings → List ℕ → Bool → Entry
engine_entry s p true = gives (matches p (s.outcome (chars p)) ∷ []) None
engine_entry s p false = malformed Pattern (regex p)

-- a literal is compared; any other pattern is the builder's
abbrev pub IsPatternEntry : Settings → List ℕ → Entry → Type 0
IsPatternEntry s p e =
    ((l : Literal) × (o : List ℕ → Outcome) × IsWellFormed l × (chars p ≡ spelling l) × IsSearch l o
    × (e ≡ gives (compares p o ∷ []) None))
    ⊎ ((IsLiteral (chars p) → ⊥) × (e ≡ engine_entry s p (s.takes (chars p))))

abbrev pub IsPatternValue : Settings → Data → Entry → Type 0
IsPatternValue s d e = MatchOption (as_str d) (e ≡ malformed Pattern (no_string d))
    (λ p. IsPatternEntry s p e)

-- ---- the object

-- a keyword, and what its entry comes to
pub record Keyed : Type 0 where
  pub keyword : Keyword
  pub entry : Entry

-- the keywords, in the order in which entries are looked at
abbrev pub keywords : List Keyword
keywords = ContentMediaType ∷ ContentEncoding ∷ ContentSchema ∷ Format ∷ MinLength ∷ MaxLength
    ∷ Pattern ∷ []

-- what the value at a keyword comes to
abbrev pub IsEntryOf : Settings → Members → Keyword → Data → Entry → Type 0
IsEntryOf s ms ContentMediaType d e = e ≡ media_type_entry (content_rule s.draft) s ms d
IsEntryOf s ms ContentEncoding d e = e ≡ encoding_entry (content_rule s.draft) s ms d
IsEntryOf s ms ContentSchema d e = e ≡ schema_entry (content_rule s.draft) ms d
IsEntryOf s ms Format d e = e ≡ format_entry s d
IsEntryOf s ms MinLength d e = e ≡ min_entry d
IsEntryOf s ms MaxLength d e = e ≡ max_entry d
IsEntryOf s ms Pattern d e = IsPatternValue s d e

-- this is the entry of a keyword: nothing where the object has no such key, or the keyword is
-- overridden
abbrev pub IsEntryAt : Settings → Members → Keyword → Entry → Type 0
IsEntryAt s ms k e = MatchOption (value_at s.options k ms) (e ≡ nothing) (λ d. IsEntryOf s ms k d e)

-- these are the entries of some keywords, in their order
abbrev pub AreEntriesOf : Settings → Members → List Keyword → List Keyed → Type 0
AreEntriesOf s ms [] es = es ≡ []
AreEntriesOf s ms (k ∷ ks) es = (e : Entry) × (rest : List Keyed) × IsEntryAt s ms k e
    × (es ≡ record { keyword = k; entry = e } ∷ rest)
    × AreEntriesOf s ms ks rest

-- these are the entries of an object
pub record AreEntries (s : Settings) (ms : Members) (es : List Keyed) : Type 0 where
  pub in_order : AreEntriesOf s ms keywords es

-- ---- what entries say together

abbrev pub refusal_or : Place → Entry → Option Refusal → Option Refusal
refusal_or place nothing later = later
refusal_or place (malformed keyword why) later =
    Some (record { reason = why; location = path_below place.schema (keyword_name keyword) })
refusal_or place (gives ds remark) later = later

-- the first refusal
abbrev pub refusal : Place → List Keyed → Option Refusal
refusal place [] = None
refusal place (e ∷ others) = refusal_or place e.entry (refusal place others)

abbrev pub demands_by : Entry → List Demand
demands_by nothing = []
demands_by (malformed keyword why) = []
demands_by (gives ds remark) = ds

-- what entries demand, in their order
abbrev pub all_demands : List Keyed → List Demand
all_demands [] = []
all_demands (e ∷ others) = demands_by e.entry ++ all_demands others

-- what they assert: their demands, at the place of the object
abbrev pub all_assertions : Place → List Keyed → List Assertion
all_assertions place es = assertions_at place (all_demands es)

abbrev pub remark_by : Place → Keyword → Entry → List Remark
remark_by place keyword nothing = []
remark_by place keyword (malformed blamed why) = []
remark_by place keyword (gives ds None) = []
remark_by place keyword (gives ds (Some d)) = remark_at place.schema keyword d ∷ []

-- what entries note of a text, in their order
abbrev pub all_remarks : Place → List Keyed → List Remark
all_remarks place [] = []
all_remarks place (e ∷ others) = remark_by place e.keyword e.entry ++ all_remarks place others

-- these are the errors of a node by a schema object: those of its entries in their order
abbrev pub Errors : Settings → Members → Lists → Site → Option (List ℕ) → List Report → Type 0
Errors s ms lists site node rs = (es : List Keyed) × AreEntries s ms es
    × NodeReports (all_assertions s.place es) lists site node rs

-- the first refusal of the entries of a schema object, or that none of them is refused
abbrev pub FirstRefusal : Settings → Members → Option Refusal → Type 0
FirstRefusal s ms first = (es : List Keyed) × AreEntries s ms es × (refusal s.place es ≡ first)

-- remarks are made of texts alone
abbrev pub remarks_on : Option (List ℕ) → List Remark → List Remark
remarks_on None remarks = []
remarks_on (Some text) remarks = remarks

-- these are the notes of a node by a schema object: those of its entries in their order, whatever
-- its errors are
abbrev pub Notes : Settings → Members → Option (List ℕ) → List Remark → Type 0
Notes s ms node remarks = (es : List Keyed) × AreEntries s ms es
    × (remarks ≡ remarks_on node (all_remarks s.place es))

-- ---- the two lengths, which one validator may stand for

abbrev pub is_given : Entry → Bool
is_given nothing = false
is_given (malformed keyword why) = false
is_given (gives ds remark) = true

abbrev pub entry_of : (Data → Entry) → Option Data → Entry
entry_of of None = nothing
entry_of of (Some d) = of d

-- the entries of both lengths
abbrev pub least_entry : Options → Members → Entry
least_entry options ms = entry_of min_entry (value_at options MinLength ms)

abbrev pub greatest_entry : Options → Members → Entry
greatest_entry options ms = entry_of max_entry (value_at options MaxLength ms)

-- both limits are there and good
abbrev pub is_fused : Options → Members → Bool
is_fused options ms = is_given (least_entry options ms) && is_given (greatest_entry options ms)

-- the keywords for whose entries one validator stands
abbrev pub share : Bool → Keyword → List Keyword
share fused ContentMediaType = ContentMediaType ∷ []
share fused ContentEncoding = ContentEncoding ∷ []
share fused ContentSchema = ContentSchema ∷ []
share fused Format = Format ∷ []
share fused MinLength = MinLength ∷ (if fused then MaxLength ∷ [] else [])
share fused MaxLength = if fused then [] else MaxLength ∷ []
share fused Pattern = Pattern ∷ []

abbrev pub shares : Bool → List Keyword → List Keyword
shares fused [] = []
shares fused (k ∷ ks) = share fused k ++ shares fused ks
