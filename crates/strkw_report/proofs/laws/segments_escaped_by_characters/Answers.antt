use Rattle.strkw_report.proofs.Escaping.{encodes-escaped_segment}
use Rattle.strkw_report.proofs.laws.segments_escaped_by_characters.Goals as goal

pub returns : goal.returns
returns c = encodes-escaped_segment
