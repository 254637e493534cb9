use Rattle.std.proofs.Common.{rules}
use Rattle.serde_json.specs.View.{view}
use Rattle.strkw_keywords.specs.declared.keyword.Keyword.TheVariants.{ContentMediaType, ContentEncoding}
use Rattle.strkw_keywords.specs.Object.{no_string}
use Rattle.strkw_keywords.proofs.Refusals.{refused_value}
use Rattle.strkw_keywords.proofs.content.checks.build_media_type.Goals as goal

pub returns-in_default : goal.returns-in_default
returns-in_default g c = refused_value _ _ _ ContentMediaType _ (no_string (view c.args.value.now)) c.no_string.result (search rules) c.no_string.ensures

pub returns-in_default-as_str : goal.returns-in_default-as_str
returns-in_default-as_str g c = refused_value _ _ _ ContentEncoding _ (no_string (view c.in-Some-value.encoding.now)) c.no_string-in_default-as_str.result
    (search rules) c.no_string-in_default-as_str.ensures
