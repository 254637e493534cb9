use Rattle.strkw_charset.proofs.properties.Property.is_of.Goals as goal

pub returns-in-Binary : goal.returns-in-Binary
returns-in-Binary c = rw c.in-Binary.is (c.contains.ensures _ c.runs.ensures)
