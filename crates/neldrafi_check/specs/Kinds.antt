-- What an object about an error names its kind: the keyword, where one kind is one keyword's.
use Rattle.std.specs.Prelude.{ℕ, List, codes}
use Rattle.strkw_report.specs.Kinds as text
use Rattle.neldrafi_schema.specs.declared.limits.Limit.{Limit}
use Rattle.neldrafi_schema.specs.declared.limits.Limit.TheVariants as limit
use Rattle.neldrafi_schema.specs.declared.limits.Size.{Size}
use Rattle.neldrafi_schema.specs.declared.limits.Size.TheVariants as size
use Rattle.neldrafi_schema.specs.Errors.{Kind, false_schema, not_of_types, not_among, not_equal_to, beyond, not_multiple}
use Rattle.neldrafi_schema.specs.Errors.{of_other_size, not_distinct, missing, unexpected_members}
use Rattle.neldrafi_schema.specs.Errors.{unexpected_items, negated, valid_by_none, valid_by_several}
use Rattle.neldrafi_schema.specs.Errors.{none_contained, unevaluated_members, unevaluated_items}
use Rattle.neldrafi_schema.specs.Errors.{Error, found, of_text}

abbrev pub limit_name : Limit → List ℕ
limit_name limit.Minimum = codes "minimum"
limit_name limit.ExclusiveMinimum = codes "exclusiveMinimum"
limit_name limit.Maximum = codes "maximum"
limit_name limit.ExclusiveMaximum = codes "exclusiveMaximum"

abbrev pub size_name : Size → List ℕ
size_name size.MinItems = codes "minItems"
size_name size.MaxItems = codes "maxItems"
size_name size.MinProperties = codes "minProperties"
size_name size.MaxProperties = codes "maxProperties"

abbrev pub kind_name : Kind → List ℕ
kind_name false_schema = codes "falseSchema"
kind_name (not_of_types types) = codes "type"
kind_name (not_among options) = codes "enum"
kind_name (not_equal_to expected) = codes "const"
kind_name (beyond l n) = limit_name l
kind_name (not_multiple n) = codes "multipleOf"
kind_name (of_other_size s n) = size_name s
kind_name not_distinct = codes "uniqueItems"
kind_name (missing name) = codes "required"
kind_name (unexpected_members names) = codes "additionalProperties"
kind_name (unexpected_items items) = codes "additionalItems"
kind_name (negated schema) = codes "not"
kind_name (valid_by_none word) = word
kind_name valid_by_several = codes "oneOf"
kind_name none_contained = codes "contains"
kind_name (unevaluated_members names) = codes "unevaluatedProperties"
kind_name (unevaluated_items items) = codes "unevaluatedItems"

abbrev pub text_kind_name : text.Kind → List ℕ
text_kind_name (text.min_length n) = codes "minLength"
text_kind_name (text.max_length n) = codes "maxLength"
text_kind_name (text.pattern p) = codes "pattern"
text_kind_name (text.backtrack_limit_exceeded p) = codes "backtrackLimitExceeded"
text_kind_name (text.regex_engine_failure p) = codes "regexEngineFailure"
text_kind_name (text.format f) = codes "format"
text_kind_name (text.content_encoding n) = codes "contentEncoding"
text_kind_name (text.content_media_type n) = codes "contentMediaType"
text_kind_name text.from_utf8 = codes "fromUtf8"

abbrev pub error_kind_name : Error → List ℕ
error_kind_name (found f) = kind_name f.kind
error_kind_name (of_text at r) = text_kind_name r.kind
