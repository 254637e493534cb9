use Rattle.serde_json.specs.View.{view}
use Rattle.strkw_print.proofs.Notes.{printed_value}
use Rattle.strkw_print.proofs.lines.push_note_line.Goals as goal

pub push_value-requires : goal.push_value-requires
push_value-requires c = printed_value c.args.origin.now.schema c.in-Value.keyword (view c.in-Value.value.now) (rw (c.in-Some.is, c.in-Value.is) at c.requires)
