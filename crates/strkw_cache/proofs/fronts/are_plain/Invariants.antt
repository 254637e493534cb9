use Rattle.std.proofs.Common.{IsTrue}
use Rattle.json.specs.Written.{PlainBetween}
use Rattle.strkw_cache.proofs.fronts.are_plain.Given as goal

-- where all are plain so far, those before this one are
abbrev pub invariant-loop-byte : goal.invariant-loop-byte
invariant-loop-byte l = IsTrue l.plain → PlainBetween l.bytes 0 l.byte-index
