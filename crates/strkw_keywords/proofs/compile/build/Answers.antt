use Rattle.std.proofs.Common.{refl, sym}
use Rattle.serde_json.specs.View.{view}
use Rattle.strkw_keywords.specs.declared.keyword.Keyword.TheVariants.{ContentMediaType, ContentEncoding, ContentSchema, Format}
use Rattle.strkw_keywords.specs.declared.content_rule.ContentRule.TheVariants.{Ignored, Checked, Noted}
use Rattle.strkw_keywords.proofs.EntriesOf.{media_type_built, encoding_built, schema_built, value_built, pattern_built, min_built, max_built, none_built}
use Rattle.strkw_keywords.proofs.compile.build.Goals as goal

pub returns-in-Ignored : goal.returns-in-Ignored
returns-in-Ignored g c =
    rw c.in-ContentMediaType.is (media_type_built _ _ _ Ignored (view c.args.value.now) _ (sym c.in-Ignored.ensures)
    (rw c.in-ContentMediaType.is at c.requires) (none_built _ _ ContentMediaType))

pub returns-in-Ignored-of : goal.returns-in-Ignored-of
returns-in-Ignored-of g c =
    rw c.in-ContentEncoding.is (encoding_built _ _ _ Ignored (view c.args.value.now) _ (sym c.in-Ignored-of.ensures)
    (rw c.in-ContentEncoding.is at c.requires) (none_built _ _ ContentEncoding))

pub returns-in-Checked-of : goal.returns-in-Checked-of
returns-in-Checked-of g c =
    rw c.in-ContentEncoding.is (encoding_built _ _ _ Checked (view c.args.value.now) _ (sym c.in-Checked-of.ensures)
    (rw c.in-ContentEncoding.is at c.requires) c.build_encoding.ensures)

pub returns-in-Ignored-of-2 : goal.returns-in-Ignored-of-2
returns-in-Ignored-of-2 g c =
    rw c.in-ContentSchema.is (schema_built _ _ _ Ignored (view c.args.value.now) _ (sym c.in-Ignored-of-2.ensures)
    (rw c.in-ContentSchema.is at c.requires) (none_built _ _ ContentSchema))

pub returns-in-Checked-of-2 : goal.returns-in-Checked-of-2
returns-in-Checked-of-2 g c =
    rw c.in-ContentSchema.is (schema_built _ _ _ Checked (view c.args.value.now) _ (sym c.in-Checked-of-2.ensures)
    (rw c.in-ContentSchema.is at c.requires) (none_built _ _ ContentSchema))

pub returns-in-MaxLength : goal.returns-in-MaxLength
returns-in-MaxLength g c = rw c.in-MaxLength.is (max_built _ _ _ _ c.build_max.ensures)

pub returns-in-Checked : goal.returns-in-Checked
returns-in-Checked g c =
    rw c.in-ContentMediaType.is (media_type_built _ _ _ Checked (view c.args.value.now) _ (sym c.in-Checked.ensures)
    (rw c.in-ContentMediaType.is at c.requires) c.build_media_type.ensures)

pub returns-in-Noted : goal.returns-in-Noted
returns-in-Noted g c =
    rw c.in-ContentMediaType.is (media_type_built _ _ _ Noted (view c.args.value.now) _ (sym c.in-Noted.ensures)
    (rw c.in-ContentMediaType.is at c.requires) (rw c.in-ContentMediaType.is at c.build_text_annotation.ensures))

pub returns-in-Noted-of : goal.returns-in-Noted-of
returns-in-Noted-of g c =
    rw c.in-ContentEncoding.is (encoding_built _ _ _ Noted (view c.args.value.now) _ (sym c.in-Noted-of.ensures)
    (rw c.in-ContentEncoding.is at c.requires) (rw c.in-ContentEncoding.is at c.build_text_annotation-in-Noted-of.ensures))

pub returns-in-Noted-of-2 : goal.returns-in-Noted-of-2
returns-in-Noted-of-2 g c =
    rw c.in-ContentSchema.is (schema_built _ _ _ Noted (view c.args.value.now) _ (sym c.in-Noted-of-2.ensures)
    (rw c.in-ContentSchema.is at c.requires) c.build_schema_annotation.ensures)

pub returns-in-Format : goal.returns-in-Format
returns-in-Format g c =
    rw c.in-Format.is (value_built _ _ _ Format (view c.args.value.now) _ _ refl (rw c.in-Format.is at c.requires) refl c.build_format.ensures)

pub returns-in-MinLength : goal.returns-in-MinLength
returns-in-MinLength g c = rw c.in-MinLength.is (min_built _ _ _ _ c.build_min.ensures)

pub returns-in-Pattern : goal.returns-in-Pattern
returns-in-Pattern g c =
    rw c.in-Pattern.is (pattern_built _ _ _ (view c.args.value.now) _ (rw c.in-Pattern.is at c.requires) c.build_pattern.ensures)
