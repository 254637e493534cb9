use Rattle.std.proofs.Common.{◌≡◌, map, drop}
use Rattle.neldrafi_schema.specs.machine.Compiled.{keyword_of}
use Rattle.neldrafi_schema.specs.Refusals.{keywords_end}
use Rattle.neldrafi_schema.specs.machine.Said.{flag_at}
use Rattle.neldrafi_schema.proofs.ends.body_ends.Given as goal

-- the keywords so far end
abbrev pub invariant-loop-keyword : goal.invariant-loop-keyword
invariant-loop-keyword g l = keywords_end (flag_at l.end) (map (keyword_of g.E.RegexEngine.outcome) l.keyword-items)
    ≡ keywords_end (flag_at l.end) (map (keyword_of g.E.RegexEngine.outcome) (drop l.keyword-index l.keyword-items))
