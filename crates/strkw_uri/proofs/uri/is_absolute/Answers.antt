use Rattle.strkw_text.proofs.Equivalences.{carry, nope}
use Rattle.strkw_uri.specs.Scan.{alphabet, HierPartAndTail}
use Rattle.strkw_uri.proofs.Schemes.{scheme_then, no_scheme_then}
use Rattle.strkw_uri.proofs.uri.is_absolute.Goals as goal

pub returns-in-Some : goal.returns-in-Some
returns-in-Some c = carry c.is_hier_part_and_tail.ensures (scheme_then (HierPartAndTail (alphabet c.args.syntax)) _ _ c.in-Some.ensures)

pub returns-in-None : goal.returns-in-None
returns-in-None c = nope (no_scheme_then (HierPartAndTail (alphabet c.args.syntax)) _ c.in-None.ensures)
