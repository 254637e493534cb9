use Rattle.std.proofs.Common.{refl, sym, ap, ◌∙◌}
use Rattle.serde_json.specs.View.{members_view}
use Rattle.strkw_keywords.specs.declared.keyword.Keyword.TheVariants.{ContentMediaType}
use Rattle.strkw_keywords.specs.Keywords.{keyword_name}
use Rattle.strkw_keywords.proofs.Without.{without, was_there}
use Rattle.strkw_keywords.proofs.content.annotations.take_content_schema.Goals as goal

pub returns-clause-compiled : goal.returns-clause-compiled
returns-clause-compiled g c =
    let there = was_there c.args.object.now c.remove-schema.new.self c.as_str.result.now c.as_str.ensures c.remove-schema.ensures.updates c.remove-schema.result
    c.remove-schema.ensures.value in
    let taken = without c.args.object.now c.remove-schema.new.self c.as_str.result.now c.as_str.ensures c.remove-schema.ensures.updates in
    c.compile_moved_schema.ensures (members_view c.args.object.now.entries)
    (rw (← c.as_str-2.ensures) c.member-media_type.ensures ∙ taken.left.kept (keyword_name ContentMediaType) refl) (sym there)

pub returns-clause-others : goal.returns-clause-others
returns-clause-others g c = without c.args.object.now c.remove-schema.new.self c.as_str.result.now c.as_str.ensures c.remove-schema.ensures.updates
