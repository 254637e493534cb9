-- What holds of each shape that an entry can have, holds of every entry: a walk over the relation of entries, once for
-- all facts about them.
use Rattle.std.proofs.Common.{◌≡◌, ℕ, List, [], ◌∷◌, Bool, true, false, Option, Some, None, MatchOption, refl, sym, subst, inl, inr, if◌then◌else◌}
use Rattle.std.specs.Str.{chars}
use Rattle.std.proofs.lemmas.Option.{none-some, same_Some}
use Rattle.serde_json.specs.Data.{Data, null, boolean, number, string, array, object, Members}
use Rattle.serde_json.specs.Find.{as_str, get_member}
use Rattle.serde_json.specs.Written.{has_float}
use Rattle.strkw_report.specs.Refusals.{Reason, not_string, size, unknown_format, regex, fractional_number, prints_float}
use Rattle.strkw_coding.specs.declared.codec.Codec.{Codec}
use Rattle.strkw_coding.specs.declared.media_type.BuiltinMediaType.{BuiltinMediaType}
use Rattle.strkw_formats.specs.declared.builtin.BuiltinFormat.{BuiltinFormat}
use Rattle.strkw_formats.specs.Formats.{builtin_named}
use Rattle.strkw_keywords.specs.declared.keyword.Keyword.{Keyword}
use Rattle.strkw_keywords.specs.declared.keyword.Keyword.TheVariants.{ContentMediaType, ContentEncoding, ContentSchema, Format, MinLength, MaxLength, Pattern}
use Rattle.strkw_keywords.specs.declared.content_rule.ContentRule.{ContentRule}
use Rattle.strkw_keywords.specs.declared.content_rule.ContentRule.TheVariants.{Ignored, Checked, Noted}
use Rattle.strkw_keywords.specs.Keywords.{keyword_name}
use Rattle.strkw_keywords.specs.Meanings.{Choice, builtin, row, row_names, codec_names, first_named}
use Rattle.strkw_keywords.specs.Demands.{Demand, is_media_type, is_encoded, encodes_media_type, is_format, at_least, at_most, compares, matches, KeepsFirst}
use Rattle.strkw_keywords.specs.Demands.{KeepsRows}
use Rattle.strkw_keywords.specs.Object.{Settings, Entry, nothing, malformed, gives, of_string, of_text, choice, codec_named, left_on, media_type_left_on}
use Rattle.strkw_keywords.specs.Object.{known_media_type, known_codec, known_format, content_rule, encoded_check, media_type_beside, media_type_check}
use Rattle.strkw_keywords.specs.Object.{encoding_check, encoding_beside, noted_text, schema_beside, media_type_entry, encoding_entry, schema_entry}
use Rattle.strkw_keywords.specs.Object.{checks_formats, ignores_unknown, checked_format, format_entry, limit_entry, as_limit, min_entry, max_entry}
use Rattle.strkw_keywords.specs.Object.{engine_entry, no_string, IsPatternEntry, IsPatternValue, IsEntryAt, value_at}
use Rattle.strkw_keywords.specs.Lengths.{any_length, window_left}
use Rattle.strkw_keywords.proofs.Entries.{of_value}

-- P holds of the shapes that leave every length to a text
pub record HoldsOfBoundless (s : Settings) (P : Entry → Type 0) : Type 0 where
  pub of_nothing : P nothing
  pub of_refusal : (key : Keyword) (why : Reason) → prints_float why ≡ false → P (malformed key why)
  pub of_note : (d : Data) → has_float d ≡ false → P (gives [] (Some d))
  pub of_demand : (d : Demand) → window_left d ≡ any_length → KeepsRows s.lists d → P (gives (d ∷ []) None)

-- P holds of every shape
pub record HoldsOfShapes (s : Settings) (P : Entry → Type 0) : Type 0 where
  pub of_boundless : HoldsOfBoundless s P
  pub of_format : (name : List ℕ) (f : Choice BuiltinFormat) → KeepsRows s.lists (is_format f)
      → P (gives (is_format f ∷ []) (Some (string name)))
  pub of_least : (n : ℕ) → P (gives (at_least n ∷ []) None)
  pub of_greatest : (n : ℕ) → P (gives (at_most n ∷ []) None)

-- ---- choices: the row that is chosen is the first of its name

-- what is chosen by a name is a built-in, or the first row of the name
chosen_keeps : {A : Type 0} (names : List (List ℕ)) (name : List ℕ) (o : Option ℕ) (b : Option A) (c : Choice A)
    → o ≡ first_named name names → choice o name b ≡ Some c → KeepsFirst names c
chosen_keeps names name (Some at) b c e k = subst (KeepsFirst names) (same_Some (row at name) c k) (sym e)
chosen_keeps names name None (Some b) c e k = subst (KeepsFirst names) (same_Some (builtin b) c k) tt
chosen_keeps names name None None c e k = absurd (none-some c k)

-- a media type that is known is a built-in, or the first row of its name
media_type_keeps : (s : Settings) (name : List ℕ) (m : Choice BuiltinMediaType)
    → known_media_type s.lists s.options name ≡ Some m → KeepsFirst (row_names s.lists.media_types) m
media_type_keeps s name m e =
    chosen_keeps (row_names s.lists.media_types) name _ (media_type_left_on s.options name) m refl e

-- so is a codec that is known
codec_keeps : (s : Settings) (name : List ℕ) (c : Choice Codec)
    → known_codec s.lists s.options name ≡ Some c → KeepsFirst (codec_names s.lists.codecs) c
codec_keeps s name c e = chosen_keeps (codec_names s.lists.codecs) name _ (left_on s.options (codec_named name)) c refl e

-- and so is a format
format_keeps : (s : Settings) (name : List ℕ) (f : Choice BuiltinFormat)
    → known_format s name ≡ Some f → KeepsFirst (row_names s.lists.formats) f
format_keeps s name f e = chosen_keeps (row_names s.lists.formats) name _ (builtin_named s.draft name) f refl e

-- ---- entries that leave every length

module _ (s : Settings) (P : Entry → Type 0) (holds : HoldsOfBoundless s P) where
  -- the refusal of a value that is no string
  no_string_holds : (key : Keyword) (d : Data) (b : Bool) → has_float d ≡ b
      → P (malformed key (if b then fractional_number else not_string d))
  no_string_holds key d true is = holds.of_refusal key fractional_number refl
  no_string_holds key d false is = holds.of_refusal key (not_string d) is

  -- P holds of what a string or none comes to, where it holds of each text's entry
  string_holds : (entry : List ℕ → Entry) (key : Keyword) (d : Data) (text : Option (List ℕ))
      → ((name : List ℕ) → P (entry name)) → P (of_string entry key d text)
  string_holds entry key d (Some name) each = each name
  string_holds entry key d None each = no_string_holds key d (has_float d) refl

  -- the same of any value, by the text that it is, if it is one
  text_holds : (entry : List ℕ → Entry) (key : Keyword) (d : Data)
      → ((name : List ℕ) → P (entry name)) → P (of_text entry key d)
  text_holds entry key d each = string_holds entry key d (as_str d) each

  -- P holds of a value that is noted where it is a string
  noted_text_holds : (d : Data) → P (noted_text d (as_str d))
  noted_text_holds null = holds.of_nothing
  noted_text_holds (boolean b) = holds.of_nothing
  noted_text_holds (number n) = holds.of_nothing
  noted_text_holds (string text) = holds.of_note (string text) refl
  noted_text_holds (array ds) = holds.of_nothing
  noted_text_holds (object ms) = holds.of_nothing

  -- a media type, and the codec beside it
  encoded_holds : (m : Choice BuiltinMediaType) (o : Option (Choice Codec)) → KeepsFirst (row_names s.lists.media_types) m
      → ((c : Choice Codec) → o ≡ Some c → KeepsFirst (codec_names s.lists.codecs) c) → P (encoded_check m o)
  encoded_holds m None first codec = holds.of_nothing
  encoded_holds m (Some c) first codec = holds.of_demand (encodes_media_type c m) refl (codec c refl, first)

  -- P holds of a media type that keeps its first row, beside what stands at `contentEncoding`
  beside_holds : (m : Choice BuiltinMediaType) (o : Option Data) → KeepsFirst (row_names s.lists.media_types) m
      → P (media_type_beside s m o)
  beside_holds m None first = holds.of_demand (is_media_type m) refl first
  beside_holds m (Some d) first = text_holds _ ContentEncoding d
      (λ name. encoded_holds m (known_codec s.lists s.options name) first (codec_keeps s name))

  -- P holds of a media type that may be unknown, where a known one keeps its first row
  check_holds : (ms : Members) (o : Option (Choice BuiltinMediaType))
      → ((m : Choice BuiltinMediaType) → o ≡ Some m → KeepsFirst (row_names s.lists.media_types) m)
      → P (media_type_check s ms o)
  check_holds ms None first = holds.of_nothing
  check_holds ms (Some m) first = beside_holds m (get_member (keyword_name ContentEncoding) ms) (first m refl)

  -- P holds of what a value at `contentMediaType` comes to, by each rule of content
  media_type_holds : (ms : Members) (rule : ContentRule) (d : Data) → P (media_type_entry rule s ms d)
  media_type_holds ms Ignored d = holds.of_nothing
  media_type_holds ms Checked d = text_holds _ ContentMediaType d
      (λ name. check_holds ms (known_media_type s.lists s.options name) (media_type_keeps s name))
  media_type_holds ms Noted d = noted_text_holds d

  -- an encoding
  lone_encoding_holds : (o : Option (Choice Codec))
      → ((c : Choice Codec) → o ≡ Some c → KeepsFirst (codec_names s.lists.codecs) c) → P (encoding_check o)
  lone_encoding_holds None first = holds.of_nothing
  lone_encoding_holds (Some c) first = holds.of_demand (is_encoded c) refl (first c refl)

  -- P holds of an encoding, whether it belongs to a media type or not
  encoding_beside_holds : (o : Option Data) (d : Data) → P (encoding_beside s o d)
  encoding_beside_holds None d = text_holds _ ContentEncoding d
      (λ name. lone_encoding_holds (known_codec s.lists s.options name) (codec_keeps s name))
  encoding_beside_holds (Some m) d = holds.of_nothing

  -- P holds of what a value at `contentEncoding` comes to, by each rule of content
  encoding_holds : (ms : Members) (rule : ContentRule) (d : Data) → P (encoding_entry rule s ms d)
  encoding_holds ms Ignored d = holds.of_nothing
  encoding_holds ms Checked d = encoding_beside_holds (get_member (keyword_name ContentMediaType) ms) d
  encoding_holds ms Noted d = noted_text_holds d

  -- a schema
  noted_schema_holds : (d : Data) (b : Bool) → has_float d ≡ b
      → P (if b then malformed ContentSchema fractional_number else gives [] (Some d))
  noted_schema_holds d true is = holds.of_refusal ContentSchema fractional_number refl
  noted_schema_holds d false is = holds.of_note d is

  -- P holds of a schema that is noted where there is a media type
  schema_beside_holds : (o : Option Data) (d : Data) → P (schema_beside o d)
  schema_beside_holds None d = holds.of_nothing
  schema_beside_holds (Some m) d = noted_schema_holds d (has_float d) refl

  -- P holds of what a value at `contentSchema` comes to, by each rule of content
  schema_holds : (ms : Members) (rule : ContentRule) (d : Data) → P (schema_entry rule ms d)
  schema_holds ms Ignored d = holds.of_nothing
  schema_holds ms Checked d = holds.of_nothing
  schema_holds ms Noted d = schema_beside_holds (get_member (keyword_name ContentMediaType) ms) d

  -- a pattern
  -- P holds of a pattern that is no literal, whether the builder takes it or not
  engine_holds : (p : List ℕ) (taken : Bool) → P (engine_entry s p taken)
  engine_holds p true = holds.of_demand (matches p (s.outcome (chars p))) refl tt
  engine_holds p false = holds.of_refusal Pattern (regex p) refl

  -- P holds of each entry of a pattern
  pattern_text_holds : (p : List ℕ) (e : Entry) → IsPatternEntry s p e → P e
  pattern_text_holds p e (inl (l, o, good, spelt, searches, is)) = rw is (holds.of_demand (compares p o) refl tt)
  pattern_text_holds p e (inr (none, is)) = rw is (engine_holds p (s.takes (chars p)))

  -- P holds of each entry of a value at `pattern`, whether it is a string or not
  pattern_value_holds : (d : Data) (text : Option (List ℕ)) (e : Entry)
      → MatchOption text (e ≡ malformed Pattern (no_string d)) (λ p. IsPatternEntry s p e) → P e
  pattern_value_holds d None e is = rw is (no_string_holds Pattern d (has_float d) refl)
  pattern_value_holds d (Some p) e is = pattern_text_holds p e is

  -- P holds of each entry at `pattern`, with a value or without
  pattern_option_holds : (o : Option Data) (e : Entry)
      → MatchOption o (e ≡ nothing) (λ d. IsPatternValue s d e) → P e
  pattern_option_holds None e is = rw is holds.of_nothing
  pattern_option_holds (Some d) e is = pattern_value_holds d (as_str d) e is

  -- the entries of an object
  -- P holds of the entry at `contentMediaType`
  pub media_type_at_holds : (ms : Members) (e : Entry) → IsEntryAt s ms ContentMediaType e → P e
  media_type_at_holds ms e = of_value P (media_type_entry (content_rule s.draft) s ms)
      (value_at s.options ContentMediaType ms) e holds.of_nothing (media_type_holds ms (content_rule s.draft))

  -- P holds of the entry at `contentEncoding`
  pub encoding_at_holds : (ms : Members) (e : Entry) → IsEntryAt s ms ContentEncoding e → P e
  encoding_at_holds ms e = of_value P (encoding_entry (content_rule s.draft) s ms)
      (value_at s.options ContentEncoding ms) e holds.of_nothing (encoding_holds ms (content_rule s.draft))

  -- P holds of the entry at `contentSchema`
  pub schema_at_holds : (ms : Members) (e : Entry) → IsEntryAt s ms ContentSchema e → P e
  schema_at_holds ms e = of_value P (schema_entry (content_rule s.draft) ms)
      (value_at s.options ContentSchema ms) e holds.of_nothing (schema_holds ms (content_rule s.draft))

  -- P holds of the entry at `pattern`
  pub pattern_at_holds : (ms : Members) (e : Entry) → IsEntryAt s ms Pattern e → P e
  pattern_at_holds ms e = pattern_option_holds (value_at s.options Pattern ms) e

  -- a format that is not checked
  pub noted_format_holds : (d : Data) → P (of_text (λ name. gives [] (Some (string name))) Format d)
  noted_format_holds d = text_holds _ Format d (λ name. holds.of_note (string name) refl)

  -- a format that is unknown
  unknown_holds : (name : List ℕ) (ignored by_dialect : Bool)
      → P (if ignored then nothing else malformed Format (unknown_format name by_dialect))
  unknown_holds name true by_dialect = holds.of_nothing
  unknown_holds name false by_dialect = holds.of_refusal Format (unknown_format name by_dialect) refl

  -- P holds of a checked format that is unknown
  pub unknown_format_holds : (name : List ℕ) → P (checked_format s name None)
  unknown_format_holds name = unknown_holds name (ignores_unknown s.options) s.options.formats_by_dialect

  -- P holds of the refusal of a value at `format` that is no string
  pub refused_format_holds : (d : Data) → P (malformed Format (no_string d))
  refused_format_holds d = no_string_holds Format d (has_float d) refl

  -- P holds of the refusal of a value that is no limit, at any keyword
  refused_limit_holds : (key : Keyword) → P (malformed key size)
  refused_limit_holds key = holds.of_refusal key size refl

-- ---- every entry

module _ (s : Settings) (P : Entry → Type 0) (holds : HoldsOfShapes s P) where
  -- P holds of a checked format that may be unknown, where a known one keeps its first row
  checked_format_holds : (name : List ℕ) (o : Option (Choice BuiltinFormat))
      → ((f : Choice BuiltinFormat) → o ≡ Some f → KeepsFirst (row_names s.lists.formats) f) → P (checked_format s name o)
  checked_format_holds name (Some f) first = holds.of_format name f (first f refl)
  checked_format_holds name None first = unknown_format_holds s P holds.of_boundless name

  -- P holds of a format by its name, whether it is checked or only noted
  named_format_holds : (name : List ℕ) (checks : Bool)
      → P (if checks then checked_format s name (known_format s name) else gives [] (Some (string name)))
  named_format_holds name true = checked_format_holds name (known_format s name) (format_keeps s name)
  named_format_holds name false = holds.of_boundless.of_note (string name) refl

  -- P holds of what a value at `format` comes to
  format_holds : (d : Data) → P (format_entry s d)
  format_holds d = text_holds s P holds.of_boundless _ Format d
      (λ name. named_format_holds name (checks_formats s.options s.draft))

  -- P holds of a least limit, or of its refusal
  min_holds : (o : Option ℕ) → P (limit_entry at_least MinLength o)
  min_holds (Some n) = holds.of_least n
  min_holds None = refused_limit_holds s P holds.of_boundless MinLength

  -- P holds of a greatest limit, or of its refusal
  max_holds : (o : Option ℕ) → P (limit_entry at_most MaxLength o)
  max_holds (Some n) = holds.of_greatest n
  max_holds None = refused_limit_holds s P holds.of_boundless MaxLength

  -- P holds of the entry at each keyword of an object
  pub entry_holds : (ms : Members) (k : Keyword) (e : Entry) → IsEntryAt s ms k e → P e
  entry_holds ms ContentMediaType e = media_type_at_holds s P holds.of_boundless ms e
  entry_holds ms ContentEncoding e = encoding_at_holds s P holds.of_boundless ms e
  entry_holds ms ContentSchema e = schema_at_holds s P holds.of_boundless ms e
  entry_holds ms Format e =
      of_value P (format_entry s) (value_at s.options Format ms) e holds.of_boundless.of_nothing format_holds
  entry_holds ms MinLength e = of_value P min_entry (value_at s.options MinLength ms) e holds.of_boundless.of_nothing
      (λ d. min_holds (as_limit d))
  entry_holds ms MaxLength e = of_value P max_entry (value_at s.options MaxLength ms) e holds.of_boundless.of_nothing
      (λ d. max_holds (as_limit d))
  entry_holds ms Pattern e = pattern_at_holds s P holds.of_boundless ms e
