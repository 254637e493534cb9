-- Where values are, by where they come from.
use Rattle.neldrafi_check.specs.Messages.{Positions, at_front, in_line, in_text}
use Rattle.neldrafi_check.specs.declared.origin.Origin.{Origin}
use Rattle.neldrafi_check.specs.declared.origin.Origin.TheVariants.{Document, Front, Line}

abbrev pub positions_of : Origin → Positions
positions_of (Document text) = in_text text
positions_of (Line line) = in_line line.number line.positions
positions_of (Front number) = at_front number
