use Rattle.std.proofs.Common.{take}
use Rattle.neldrafi.proofs.Names.{HasSeen, names_of}
use Rattle.neldrafi.proofs.distinct.duplicate_among.Given as goal

-- the set has the names of the members so far, and no two of these are equal
abbrev pub invariant-loop-member : goal.invariant-loop-member
invariant-loop-member l = HasSeen l.names (names_of (take l.member-index l.members))
